use Rattle.rd_run.proofs.Splitting.{NoneOpens}
use Rattle.rd_run.proofs.checking.script_start.Given as goal

-- none so far
abbrev pub invariant-loop-i : goal.invariant-loop-i
invariant-loop-i l = NoneOpens l.bytes l.i
