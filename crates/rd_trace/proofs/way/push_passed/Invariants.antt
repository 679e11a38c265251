use Rattle.std.proofs.Common.{◌≡◌, ◌++◌, take}
use Rattle.rd_trace.specs.Ways as ways
use Rattle.rd_trace.proofs.way.push_passed.Given as goal

abbrev pub invariant-loop-t : goal.invariant-loop-t
invariant-loop-t l = l.out.items ≡ l.fn.out.items ++ ways.passed l.w (take l.t-index l.ts)
