use Rattle.std.proofs.Common.{refl}
use Rattle.rd_list.proofs.pieces.Pieces.lay_out.Goals as goal

pub same-self : goal.same-self
same-self g c = refl
