use Rattle.std.proofs.Common.{refl}
use Rattle.rd_graph.specs.Runs.{places_of}
use Rattle.rd_graph.proofs.LinedUp.WalkedLines.{walked_by}
use Rattle.rd_graph.proofs.walking.walked_line.Goals as goal

pub returns : goal.returns
returns c =
    walked_by c.args.change.removed.now c.args.change.chain.now c.args.change.old_places.now c.args.nodes.now c.requires.can c.requires.sound c.in_ok-stays.stays c.args.places.now (places_of c.in_ok-line.line.items)
    c.in_ok-stays.ensures.count c.in_ok-stays.ensures.stays c.requires.places (c.if-not-rises_where.ensures.0 refl) c.in_ok-line.ensures
