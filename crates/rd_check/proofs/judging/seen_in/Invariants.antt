use Rattle.std.proofs.Common.{◌≡◌, map, take}
use Rattle.rd_check.specs.Internal.Keyed.{shown}
use Rattle.rd_check.specs.Internal.Finding.{sight_by}
use Rattle.rd_check.specs.Internal.Sights.{sights_of}
use Rattle.rd_check.proofs.judging.seen_in.Given as goal

-- what is seen of the entries so far
abbrev pub invariant-loop-entry : goal.invariant-loop-entry
invariant-loop-entry l = sights_of l.seen.items ≡ map (λ e. sight_by l.places (shown e)) (take l.entry-index l.entries)
