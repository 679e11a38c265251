use Rattle.std.proofs.Common.{refl}
use Rattle.rd_run.specs.declared.words.WordsForm.TheVariants.{Replay}
use Rattle.rd_run.proofs.Finishing.{replay_ends, script_refused}
use Rattle.rd_run.proofs.program.serve_replay.Goals as goal

pub returns-in-Ok : goal.returns-in-Ok
returns-in-Ok g c =
    let s = c.in-Ok.ensures.script in
    replay_ends (Unit {0}) _ _ _ _ _ c.in-Ok.script (s.0) _ s.1 s.2 c.answer.ensures

pub returns-in-Err : goal.returns-in-Err
returns-in-Err g c = script_refused (Unit {0}) _ _ _ _ _ Replay _ tt tt (λ bytes r. r) (λ bytes. refl) c.in-Err.ensures.refused (refl, refl, refl)
