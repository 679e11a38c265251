use Rattle.std.proofs.Common.{◌≡◌, ◌++◌, take}
use Rattle.rd_trace.specs.Steps as spec
use Rattle.rd_trace.proofs.steps.floats.Given as goal

abbrev pub invariant-loop-x : goal.invariant-loop-x
invariant-loop-x l = l.out.items ≡ l.fn.out.items ++ spec.floats l.e (take l.x-index l.below)
