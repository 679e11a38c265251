use Rattle.rd_paint.specs.Internal.Rects.{IsRectChanged, over_around}
use Rattle.rd_paint.proofs.rects.lay_rows.Given as goal

abbrev pub invariant-loop-row : goal.invariant-loop-row
invariant-loop-row l = IsRectChanged l.rect.strip.corner (over_around l.px l.hole) l.rect.span l.rect.strip.y0 l.row l.initial.canvas l.canvas
