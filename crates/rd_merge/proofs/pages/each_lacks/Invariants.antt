use Rattle.std.proofs.Common.{◌≡◌, ℕ, ◌%◌, ◌<◌, ◌≤◌}
use Rattle.std.specs.Prelude.{slice_index}
use Rattle.std.specs.Int.{bit_at}
use Rattle.std.specs.Int.Bits.{bit_and}
use Rattle.rd_merge.proofs.pages.each_lacks.Given as goal

abbrev pub invariant-loop-page : goal.invariant-loop-page
invariant-loop-page l = (p : ℕ) → l.first ≤ p → p < l.page → bit_at l.keys.pages (p % 64) ≡ 1 → bit_and (slice_index l.pages (p % 256)) l.keys.slots ≡ 0
