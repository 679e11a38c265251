use Rattle.std.proofs.Common.{◌≡◌, length}
use Rattle.rd_tree.specs.Internal.Cells.{KeepsBits}
use Rattle.rd_tree.proofs.table.cells.clear.Given as goal

abbrev pub invariant-loop-i : goal.invariant-loop-i
invariant-loop-i l = record {
  others : KeepsBits l.fn.words l.words l.fn.slot;
  len : length l.words ≡ 32;
}
