use Rattle.std.proofs.Common.{take}
use Rattle.rd_run.specs.Checks.{changes_of}
use Rattle.rd_run.specs.Endings.{counter}
use Rattle.rd_run.specs.Machine.{State}
use Rattle.rd_run.specs.Internal.Answered.{Performs}
use Rattle.rd_run.specs.Internal.Session.{Shows, IsFew}
use Rattle.rd_run.proofs.last.change_all.Given as goal

-- the changes so far are done
abbrev pub invariant-loop-command : goal.invariant-loop-command
invariant-loop-command g l = record {
  so_far : (s : State) → Shows l.fn.session s
      → Performs (counter l.fn.made l.made) (counter l.fn.looks l.looks) s (changes_of (take l.command-index l.commands)) l.session;
  few : IsFew l.session l.command-index;
}
