use Rattle.std.proofs.Common.{refl}
use Rattle.rd_run.specs.declared.words.WordsForm.TheVariants.{Tiles}
use Rattle.rd_run.proofs.Finishing.{tiles_ends, script_refused}
use Rattle.rd_run.proofs.program.serve_tiles.Goals as goal

pub returns-in-Ok : goal.returns-in-Ok
returns-in-Ok g c =
    let s = c.in-Ok.ensures.script in
    tiles_ends (Unit {0}) _ _ _ _ _ c.in-Ok.script (s.0) _ s.1 s.2 c.tiles.ensures

pub returns-in-Err : goal.returns-in-Err
returns-in-Err g c = script_refused (Unit {0}) _ _ _ _ _ Tiles _ tt tt (λ bytes r. r) (λ bytes. refl) c.in-Err.ensures.refused (refl, refl, refl)
