-- The commands that change the tree.
use Rattle.std.specs.Prelude.{ℕ, List}
use Rattle.serde_json.specs.Data.{Data, Members}
use Rattle.rd_scene.specs.declared.fault.Why.{Why}
use Rattle.rd_scene.specs.declared.script.Command.{Command}
use Rattle.rd_scene.specs.declared.script.Command.TheVariants.{Change}
use Rattle.rd_scene.specs.declared.version.Version.{Version}
use Rattle.rd_scene.specs.Checked.{Checked, good, ◌>>=◌}
use Rattle.rd_scene.specs.Edits.{edit_named}

-- the command of the edit that a word names
abbrev pub change_named : Version → List ℕ → Members → Data → Checked Why Command
change_named version w ms d = edit_named version w ms d >>= λ e. good (Change e)
