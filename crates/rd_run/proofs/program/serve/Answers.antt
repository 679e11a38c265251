use Rattle.std.proofs.Common.{refl}
use Rattle.rd_run.proofs.Finishing.{ends_at_once}
use Rattle.rd_run.proofs.program.serve.Goals as goal

pub returns-in-Err : goal.returns-in-Err
returns-in-Err g c = ends_at_once _ _ _ _ _ _ _ refl (refl, refl, refl) refl
