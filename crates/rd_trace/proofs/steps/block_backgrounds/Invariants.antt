use Rattle.std.proofs.Common.{◌≡◌, ◌++◌, take}
use Rattle.rd_trace.specs.Steps as spec
use Rattle.rd_trace.proofs.steps.block_backgrounds.Given as goal

abbrev pub invariant-loop-x : goal.invariant-loop-x
invariant-loop-x l = l.out.items ≡ l.fn.out.items ++ spec.block_backgrounds l.s l.e (take l.x-index l.below)
