use Rattle.std.proofs.Common.{◌≡◌, ℕ, ◌+◌, ◌<◌}
use Rattle.std.specs.Int.{bit_at}
use Rattle.rd_tree.specs.Internal.Cells.{word_at}
use Rattle.rd_tree.proofs.table.cells.any_of_many.Given as goal

abbrev pub invariant-loop-i : goal.invariant-loop-i
invariant-loop-i l = (j s : ℕ) → j < l.i → bit_at (word_at l.words (l.from + j)) s ≡ 1 → bit_at l.all s ≡ 1
