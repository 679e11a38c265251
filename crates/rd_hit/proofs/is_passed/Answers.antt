use Rattle.std.proofs.Common.{FitsSigned, w32, rules}
use Rattle.std.proofs.lemmas.Int.{to_z-of_z}
use Rattle.rd_hit.proofs.Downward.{unseen_missed}
use Rattle.rd_hit.proofs.is_passed.Goals as goal

pub returns-in-Leaf : goal.returns-in-Leaf
returns-in-Leaf g c = λ t.
    let fx : FitsSigned w32 c.args.x = search rules in
    let fy : FitsSigned w32 c.args.y = search rules in
    let e = simp to_z-of_z at c.misses.ensures in
    rw c.in-Leaf.is (unseen_missed c.args.x c.args.y c.in-Leaf.item.leaf (rw (← c.visible.ensures.value) (e t)))
