use Rattle.rd_graph.proofs.LinedUp.InPlace.{turned}
use Rattle.rd_graph.proofs.in_place.turn.Goals as goal

pub returns-clause-turned : goal.returns-clause-turned
returns-clause-turned g c = turned c.args.place c.args.middle c.args.end c.args.elements.now c.rotate_left.new.self c.requires.first c.requires.then c.rotate_left.ensures.after
