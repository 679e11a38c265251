use Rattle.rd_tree.proofs.Nodes.Freeing.{freed_one, dropped_one}
use Rattle.rd_tree.proofs.links.free.free_one.Goals as goal

pub returns-in-Some-clause-freed : goal.returns-in-Some-clause-freed
returns-in-Some-clause-freed c = freed_one c.args.nodes.now c.remove.new.self c.args.key c.in-Some.node c.in-Some.ensures.value c.in-Some.ensures.removed

pub returns-in-Some-clause-dropped : goal.returns-in-Some-clause-dropped
returns-in-Some-clause-dropped c = dropped_one c.args.nodes.now c.args.key c.in-Some.node c.text.result.now c.args.ids.now c.swap_remove.new.self
    c.in-Some.ensures.value c.text.ensures.same_text c.swap_remove.ensures.updates
