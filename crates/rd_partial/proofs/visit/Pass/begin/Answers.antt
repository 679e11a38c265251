use Rattle.std.proofs.Common.{refl}
use Rattle.rd_partial.proofs.visit.Pass.begin.Goals as goal

pub same-own : goal.same-own
same-own g c = refl

pub same-line : goal.same-line
same-line g c = refl

pub same-own-else-blocky : goal.same-own-else-blocky
same-own-else-blocky g c = refl

pub same-out : goal.same-out
same-out g c = refl

pub same-outlines : goal.same-outlines
same-outlines g c = refl

pub same-out-2 : goal.same-out-2
same-out-2 g c = refl

pub same-line-2 : goal.same-line-2
same-line-2 g c = refl

pub same-outlines-2 : goal.same-outlines-2
same-outlines-2 g c = refl
