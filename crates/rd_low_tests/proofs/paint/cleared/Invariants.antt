use Rattle.std.proofs.Common.{◌≡◌}
use Rattle.rd_low_tests.proofs.paint.cleared.Given as goal

abbrev pub invariant-loop-row : goal.invariant-loop-row
invariant-loop-row g l = record {
  width : l.canvas.width ≡ 6;
  height : l.canvas.height ≡ 4;
}
