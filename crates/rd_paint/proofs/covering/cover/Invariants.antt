use Rattle.std.proofs.Common.{◌≡◌, ◌≤◌, ◌<◌, ◌-◌, ◌+ℤ◌, ◌≤ℤ◌, ◌<ℤ◌, ℕ, ℤ, pos, length, drop}
use Rattle.std.specs.Prelude.{IfSome}
use Rattle.rd_geom.specs.Colors.{Premultiplied}
use Rattle.rd_list.specs.Displayed.{shown}
use Rattle.rd_list.specs.Lists.{composed}
use Rattle.rd_list.specs.Views.{levels}
use Rattle.rd_paint.specs.Internal.Picks.{picked}
use Rattle.rd_paint.proofs.Shown.Hiding.{IsUpper}
use Rattle.rd_paint.proofs.covering.cover.Given as goal

abbrev pub invariant-loop-i : goal.invariant-loop-i
invariant-loop-i g l = record {
  at : l.i ≤ length l.picks;
  upper : IsUpper (picked (drop l.i l.picks) (shown l.entries)) (picked l.picks (shown l.entries));
  within : IfSome l.found (λ i. i ≤ length l.picks);
  levels : IfSome l.found (λ i. levels (picked (drop i l.picks) (shown l.entries)) ≤ levels (picked l.picks (shown l.entries)));
  hides : IfSome l.found (λ i. (k : ℕ) (y : ℤ) (d e : Premultiplied) → k < l.count → l.y0 ≤ℤ y → y <ℤ l.y1 → composed (l.x0 +ℤ pos k) y d (picked (drop i l.picks) (shown l.entries)) ≡ composed (l.x0 +ℤ pos k) y e (picked l.picks (shown l.entries)));
}

abbrev pub decreases-loop-i : goal.decreases-loop-i
decreases-loop-i g l = length l.picks - l.i
