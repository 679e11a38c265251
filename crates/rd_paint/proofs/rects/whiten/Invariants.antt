use Rattle.rd_geom.specs.Colors.{white}
use Rattle.rd_paint.specs.Internal.Rects.{IsRectChanged}
use Rattle.rd_paint.proofs.rects.whiten.Given as goal

abbrev pub invariant-loop-row : goal.invariant-loop-row
invariant-loop-row l = IsRectChanged l.rect.strip.corner (λ x y p. white) l.rect.span l.rect.strip.y0 l.row l.initial.canvas l.canvas
