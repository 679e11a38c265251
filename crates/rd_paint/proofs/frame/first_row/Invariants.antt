use Rattle.std.proofs.Common.{◌≡◌, ◌≤◌, ◌<◌, ℕ, pos, false}
use Rattle.rd_geom.specs.Areas.{in_area}
use Rattle.rd_paint.proofs.frame.first_row.Given as goal

abbrev pub invariant-loop-step : goal.invariant-loop-step
invariant-loop-step l = record {
  from : l.whole.top ≤ l.first;
  within : l.first ≤ l.whole.bottom;
  above : (x y : ℕ) → l.whole.left ≤ x → x < l.whole.right → l.whole.top ≤ y → y < l.first → in_area l.area (pos x) (pos y) ≡ false;
}
