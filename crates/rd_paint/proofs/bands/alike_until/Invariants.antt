use Rattle.std.proofs.Common.{◌≡◌, ℕ, pos, ◌<◌, ◌≤◌, ◌-◌}
use Rattle.rd_geom.specs.Areas.{spans_at}
use Rattle.rd_paint.proofs.bands.alike_until.Given as goal

abbrev pub invariant-loop-end : goal.invariant-loop-end
invariant-loop-end l = record {
  more : l.y0 < l.end;
  within : l.end ≤ l.y1;
  alike : (y : ℕ) → l.y0 ≤ y → y < l.end → spans_at l.area.rows (pos y) ≡ spans_at l.area.rows (pos l.y0);
}

abbrev pub decreases-loop-end : goal.decreases-loop-end
decreases-loop-end l = l.y1 - l.end
