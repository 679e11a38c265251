use Rattle.std.proofs.Common.{◌≡◌, map, take}
use Rattle.serde_json.specs.View.{view}
use Rattle.rd_scene.specs.Writing.{command_value}
use Rattle.rd_scene.proofs.writing.commands_value.Given as goal

-- the values so far are those of the elements so far
abbrev pub invariant-loop-command : goal.invariant-loop-command
invariant-loop-command l = map view l.values.items ≡ map command_value (take l.command-index l.commands)
