use Rattle.std.proofs.Common.{◌≡◌, take}
use Rattle.rd_trace.proofs.way.copies.Given as goal

abbrev pub invariant-loop-t : goal.invariant-loop-t
invariant-loop-t l = l.all.items ≡ take l.t-index l.ts
