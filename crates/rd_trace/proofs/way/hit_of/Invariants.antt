use Rattle.std.proofs.Common.{◌≡◌, drop}
use Rattle.rd_trace.specs.Ways.{hit_of}
use Rattle.rd_trace.proofs.way.hit_of.Given as goal

-- no leaf so far takes the hit
abbrev pub invariant-loop-t : goal.invariant-loop-t
invariant-loop-t l = hit_of (drop l.t-index l.ts) ≡ hit_of l.ts
