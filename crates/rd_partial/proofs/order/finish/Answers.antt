use Rattle.std.proofs.Common.{refl}
use Rattle.rd_partial.proofs.order.finish.Goals as goal

pub same-out : goal.same-out
same-out g c = refl

pub same-out-2 : goal.same-out-2
same-out-2 g c = refl

pub same-zeros : goal.same-zeros
same-zeros g c = refl

pub same-out-3 : goal.same-out-3
same-out-3 g c = refl

pub same-out-4 : goal.same-out-4
same-out-4 g c = refl

pub same-outlines : goal.same-outlines
same-outlines g c = refl

pub same-out-5 : goal.same-out-5
same-out-5 g c = refl
