use Rattle.std.proofs.Common.{◌≡◌, ◌≤◌, ◌<◌, ℕ, pos, false}
use Rattle.rd_geom.specs.Areas.{in_area}
use Rattle.rd_paint.proofs.frame.last_row.Given as goal

abbrev pub invariant-loop-step : goal.invariant-loop-step
invariant-loop-step l = record {
  order : l.fn.first ≤ l.last;
  within : l.last ≤ l.whole.bottom;
  below : (x y : ℕ) → l.whole.left ≤ x → x < l.whole.right → l.last ≤ y → y < l.whole.bottom → in_area l.area (pos x) (pos y) ≡ false;
}
