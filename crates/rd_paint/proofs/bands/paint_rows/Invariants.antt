use Rattle.std.proofs.Common.{◌≤◌, ◌-◌}
use Rattle.rd_list.specs.Displayed.{shown}
use Rattle.rd_paint.specs.Internal.Picks.{picked}
use Rattle.rd_paint.specs.Internal.Bands.{IsBandPainted}
use Rattle.rd_paint.proofs.bands.paint_rows.Given as goal

abbrev pub invariant-loop-row : goal.invariant-loop-row
invariant-loop-row g l = record {
  from : l.band.strip.y0 ≤ l.row;
  within : l.row ≤ l.band.strip.y1;
  painted : IsBandPainted l.band.strip.corner (picked l.picks (shown l.entries)) l.band.area.now l.band.strip.y0 l.row l.initial.canvas l.canvas;
}

abbrev pub decreases-loop-row : goal.decreases-loop-row
decreases-loop-row g l = l.band.strip.y1 - l.row
