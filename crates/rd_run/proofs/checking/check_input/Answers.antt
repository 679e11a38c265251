use Rattle.std.proofs.Common.{refl, sym, subst}
use Rattle.rd_run.specs.Endings.{HasRead}
use Rattle.rd_run.proofs.Finishing.{bytes_refused, text_ends}
use Rattle.rd_run.proofs.checking.check_input.Goals as goal

pub returns-in-Ok : goal.returns-in-Ok
returns-in-Ok g c =
    text_ends (Unit {0}) _ _ _ _ _ _ _ (subst (HasRead _) (sym c.as_slice.ensures.value) c.in-Ok.ensures.read) c.check_bytes.ensures

pub returns-in-Err : goal.returns-in-Err
returns-in-Err g c = bytes_refused (Unit {0}) _ _ _ _ _ c.in-Err.status c.in-Err.ensures.refused (refl, refl, refl)
