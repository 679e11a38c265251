use Rattle.std.proofs.Common.{◌≡◌, take, map}
use Rattle.rd_trace.specs.Ways as ways
use Rattle.rd_trace.proofs.way.within_all.Given as goal

abbrev pub invariant-loop-t : goal.invariant-loop-t
invariant-loop-t l = l.all.items ≡ map (ways.within l.g) (take l.t-index l.ts)
