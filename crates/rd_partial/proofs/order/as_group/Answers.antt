use Rattle.std.proofs.Common.{refl}
use Rattle.rd_partial.proofs.order.as_group.Goals as goal

pub same-inner : goal.same-inner
same-inner g c = refl

pub same-out : goal.same-out
same-out g c = refl
