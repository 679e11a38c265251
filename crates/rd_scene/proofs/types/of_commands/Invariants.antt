use Rattle.std.specs.List.{AllWithin}
use Rattle.rd_scene.specs.Canonical.{IsCommand}
use Rattle.rd_scene.proofs.types.of_commands.Given as goal

-- so far as the loop has come
abbrev pub invariant-loop-command : goal.invariant-loop-command
invariant-loop-command l = AllWithin IsCommand l.commands 0 l.command-index
