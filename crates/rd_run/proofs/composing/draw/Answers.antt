use Rattle.std.proofs.Common.{refl, ◌∙◌, inl, arith}
use Rattle.rd_run.specs.Endings.{IsWirePicture}
use Rattle.rd_run.specs.Machine.{no_counts}
use Rattle.rd_run.proofs.Planted.{ends_written}
use Rattle.rd_run.proofs.composing.draw.Goals as goal

pub returns-in-Ok : goal.returns-in-Ok
returns-in-Ok g c = λ m l.
    ends_written _ (IsWirePicture c.args.wire.now) m m l l _ _ _ _ _ no_counts _ (c.deref.ensures.value ∙ c.in-Ok.ensures, refl) (omega arith) (omega arith) c.write.ensures

pub returns-in-Err : goal.returns-in-Err
returns-in-Err g c = λ m l. inl refl
