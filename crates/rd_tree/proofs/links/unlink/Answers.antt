use Rattle.rd_tree.proofs.Nodes.Relinking.{relinks_cut}
use Rattle.rd_tree.proofs.links.unlink.Goals as goal

pub returns-in-Some : goal.returns-in-Some
returns-in-Some c =
    relinks_cut c.args.nodes.now c.set_next.new.self c.set_prev.new.self c.set_ends.new.self c.args.key c.in-Some.parent c.place_of-up.result.0
    c.place_of-up.result.1 c.place_of-up.result.2 c.ends_of-ends.result c.end_after-first.result c.end_after-last.result
    c.place_of-up.ensures c.in-Some.is c.ends_of-ends.ensures c.end_after-first.ensures c.end_after-last.ensures c.set_next.ensures c.set_prev.ensures
    c.set_ends.ensures
