use Rattle.rd_tree.proofs.Nodes.Adding.{added_text}
use Rattle.rd_tree.proofs.drawn_tree.store.Goals as goal

pub returns-clause-listed : goal.returns-clause-listed
returns-clause-listed c = added_text c.args.ids.now c.reserve.new.self c.insert-2.new.self c.args.name c.args.node.item.id c.in_ok-key.key
    c.reserve.ensures.entries c.requires.named c.requires.spelled c.in-Ok.ensures.updates
