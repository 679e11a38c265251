use Rattle.std.proofs.Common.{take}
use Rattle.rd_list.specs.Displayed.{shown}
use Rattle.rd_paint.specs.Internal.Picks.{picked}
use Rattle.rd_paint.specs.Internal.Rects.{IsRunPainted}
use Rattle.rd_paint.proofs.bands.paint_run.Given as goal

abbrev pub invariant-loop-span : goal.invariant-loop-span
invariant-loop-span g l = IsRunPainted l.strip.corner (picked l.picks (shown l.entries)) (take l.span-index l.spans) l.strip.y0 l.strip.y1 l.initial.canvas l.canvas
