use Rattle.std.proofs.Common.{◌≡◌, ◌≤◌, ◌<◌, ℕ, pos, false}
use Rattle.rd_geom.specs.Areas.{in_area}
use Rattle.rd_paint.proofs.frame.first_column.Given as goal

abbrev pub invariant-loop-step : goal.invariant-loop-step
invariant-loop-step l = record {
  from : l.whole.left ≤ l.first;
  within : l.first ≤ l.whole.right;
  before : (x y : ℕ) → l.whole.left ≤ x → x < l.first → l.top ≤ y → y < l.bottom → in_area l.area (pos x) (pos y) ≡ false;
}
