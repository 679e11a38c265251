use Rattle.std.proofs.Common.{refl}
use Rattle.rd_partial.proofs.walk.close_line.Goals as goal

pub same-contents : goal.same-contents
same-contents g c = refl
