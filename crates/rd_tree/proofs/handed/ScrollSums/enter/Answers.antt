use Rattle.rd_tree.proofs.Offsets.{far_own}
use Rattle.rd_tree.proofs.handed.ScrollSums.enter.Goals as goal

pub farther-inside-requires-clause-b : goal.farther-inside-requires-clause-b
farther-inside-requires-clause-b c = rw c.own_scroll.ensures (far_own c.args.is_root c.args.style.now c.args.scroll c.requires.scroll)
