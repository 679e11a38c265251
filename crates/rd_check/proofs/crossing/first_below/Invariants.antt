use Rattle.rd_check.specs.Internal.Finding.{IsCrossedIn}
use Rattle.rd_check.specs.Internal.Sights.{sights_of}
use Rattle.rd_check.proofs.Searching.{NoneBelow}
use Rattle.rd_check.proofs.crossing.first_below.Given as goal

-- none so far
abbrev pub invariant-loop-i : goal.invariant-loop-i
invariant-loop-i l = NoneBelow (λ i. IsCrossedIn (sights_of l.seen) i l.j) l.i
