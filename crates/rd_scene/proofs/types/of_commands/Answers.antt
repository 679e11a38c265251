use Rattle.std.proofs.Common.{length, arith}
use Rattle.std.proofs.lemmas.List.Elements.{All-from_all_within, AllWithin-more, AllWithin-upto, at_read}
use Rattle.rd_scene.specs.Canonical.{IsCommand}
use Rattle.rd_scene.proofs.types.of_commands.Goals as goal

pub loop-command-preserved : goal.loop-command-preserved
loop-command-preserved c =
    AllWithin-more IsCommand c.args.commands.now 0 c.loop-command.command-index c.loop-command.invariant
    (at_read c.args.commands.now IsCommand c.loop-command.command-index c.command-item.result (omega arith) c.command-item.is c.of_command.ensures)

pub returns : goal.returns
returns c =
    All-from_all_within IsCommand c.args.commands.now
    (AllWithin-upto IsCommand c.args.commands.now 0 c.loop-command.command-index (length c.args.commands.now) (omega arith) c.loop-command.invariant)
