use Rattle.std.proofs.Common.{map}
use Rattle.rd_check.specs.Internal.Finding as finding
use Rattle.rd_check.specs.Internal.Rounds.{ways_in}
use Rattle.rd_check.specs.Internal.Finding.{IsHit}
use Rattle.rd_check.specs.Internal.Sights.{sights_of}
use Rattle.rd_check.proofs.Searching.{NoneBelow}
use Rattle.rd_check.proofs.judging.first_different.Given as goal

-- none so far
abbrev pub invariant-loop-i : goal.invariant-loop-i
invariant-loop-i l = NoneBelow (IsHit (map (finding.is_different (ways_in l.fresh)) (sights_of l.seen))) l.i
