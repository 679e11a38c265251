use Rattle.std.proofs.Common.{◌≤◌, ◌-◌, ◌≡◌, length, drop}
use Rattle.rd_list.specs.Displayed.{shown}
use Rattle.rd_list.specs.Views.{levels}
use Rattle.rd_paint.specs.Internal.Rects.{IsRectLaid}
use Rattle.rd_paint.specs.Internal.Picks.{picked}
use Rattle.rd_paint.specs.Pictures.{Picture}
use Rattle.rd_paint.proofs.rects.lay_picks_in.Given as goal

abbrev pub invariant-loop-i : goal.invariant-loop-i
invariant-loop-i g l = record {
  within : l.i ≤ length l.picks;
  width : l.canvas.width ≡ l.initial.canvas.width;
  height : l.canvas.height ≡ l.initial.canvas.height;
  levels : levels (picked (drop l.i l.picks) (shown l.entries)) ≤ levels (picked l.picks (shown l.entries));
  laid : (end : Picture) → IsRectLaid l.rect.strip.corner (picked (drop l.i l.picks) (shown l.entries)) l.rect.span l.rect.strip.y0 l.rect.strip.y1 l.canvas end
      → IsRectLaid l.rect.strip.corner (picked l.picks (shown l.entries)) l.rect.span l.rect.strip.y0 l.rect.strip.y1 l.initial.canvas end;
}

abbrev pub decreases-loop-i : goal.decreases-loop-i
decreases-loop-i g l = length l.picks - l.i
