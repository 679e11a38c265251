use Rattle.std.proofs.Common.{◌≡◌, ℕ, ◌+◌, ◌%◌, ◌<◌, length}
use Rattle.std.specs.Int.{bit_at}
use Rattle.rd_tree.specs.Internal.Cells.{KeepsBits, word_at}
use Rattle.rd_tree.proofs.table.cells.set.Given as goal

abbrev pub invariant-loop-i : goal.invariant-loop-i
invariant-loop-i l = record {
  set : (j : ℕ) → j < l.i → bit_at (word_at l.words (l.fn.from + j)) (l.fn.slot % 64) ≡ 1;
  others : KeepsBits l.fn.words l.words l.fn.slot;
  len : length l.words ≡ 32;
}
