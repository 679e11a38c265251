use Rattle.std.proofs.Common.{refl}
use Rattle.rd_paint.proofs.rects.leaf_of.Goals as goal

pub returns-in-Leaf : goal.returns-in-Leaf
returns-in-Leaf g c = rw c.in-Leaf.is refl
