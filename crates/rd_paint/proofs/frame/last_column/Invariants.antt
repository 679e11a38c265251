use Rattle.std.proofs.Common.{◌≡◌, ◌≤◌, ◌<◌, ℕ, pos, false}
use Rattle.rd_geom.specs.Areas.{in_area}
use Rattle.rd_paint.proofs.frame.last_column.Given as goal

abbrev pub invariant-loop-step : goal.invariant-loop-step
invariant-loop-step l = record {
  order : l.fn.first ≤ l.last;
  within : l.last ≤ l.fn.whole.right;
  after : (x y : ℕ) → l.last ≤ x → x < l.fn.whole.right → l.top ≤ y → y < l.bottom → in_area l.area (pos x) (pos y) ≡ false;
}
