-- Generated scripts. What they hold is this project's own choice.
use Rattle.std.specs.Prelude.{ℕ, [], ◌∷◌, ◌++◌}
use Rattle.rd_scene.specs.Scripts.{Script}
use Rattle.rd_scene.specs.declared.script.Command.TheVariants.{Paint}
use Rattle.rd_gen.specs.Draws.{Drawing, give, ◌>>=◌}
use Rattle.rd_gen.specs.Boxes.{canvas, boxes}
use Rattle.rd_gen.specs.Commands.{commands}

-- version 1; so many boxes; a paint, so many edits and a paint
unfoldable pub script : ℕ → ℕ → Drawing Script
script number edits = do
  made ← boxes number
  done ← commands number edits
  give (record { version = 1; canvas = canvas; boxes = made; commands = done ++ (Paint ∷ []) })

-- the script that the draws from this seed give, of so many boxes and edits
abbrev pub generated_script : ℕ → ℕ → ℕ → Script
generated_script seed number edits = (script number edits seed).0
