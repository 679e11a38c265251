use Rattle.std.proofs.Common.{◌≡◌, length}
use Rattle.rd_tiles.specs.Internal.Blank.{AreFirstBlank}
use Rattle.rd_tiles.proofs.canvas.blanks.Given as goal

abbrev pub invariant-loop-i : goal.invariant-loop-i
invariant-loop-i l = record {
  count : length l.tiles.items ≡ l.i;
  tiles : AreFirstBlank l.size l.tiles.items;
}
