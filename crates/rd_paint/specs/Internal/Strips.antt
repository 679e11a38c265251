-- Rows and rectangles of pixels that are on a canvas.
use Rattle.std.specs.Prelude.{ℕ, pos, ◌+◌, ◌<◌, ◌≤◌, ◌≤ℤ◌}
use Rattle.rd_paint.specs.Pictures.{Picture}
use Rattle.rd_paint.specs.declared.corner.Corner.{Corner}
use Rattle.rd_paint.specs.declared.strip.Strip.{Strip}
use Rattle.rd_paint.specs.declared.strip.PixelRect.{PixelRect}

-- The canvas shows columns and rows below 4,096.
pub record IsWithinLimits (c : Picture) (o : Corner) : Type 0 where
  pub wide : o.left + c.width ≤ 4096
  pub high : o.top + c.height ≤ 4096

-- The canvas shows these rows.
pub record IsStripOn (c : Picture) (s : Strip) : Type 0 where
  pub limits : IsWithinLimits c s.corner
  pub rows : s.y0 ≤ s.y1
  pub above : s.corner.top ≤ s.y0
  pub on : s.y1 ≤ s.corner.top + c.height

-- It shows these columns of them.
pub record IsRectOn (c : Picture) (b : PixelRect) : Type 0 where
  pub strip : IsStripOn c b.strip
  pub from : pos b.strip.corner.left ≤ℤ b.span.x0
  pub order : b.span.x0 ≤ℤ b.span.x1
  pub within : b.span.x1 ≤ℤ pos (b.strip.corner.left + c.width)

-- It shows this row of them.
pub record IsRowOn (c : Picture) (b : PixelRect) (row : ℕ) : Type 0 where
  pub rect : IsRectOn c b
  pub from : b.strip.y0 ≤ row
  pub to : row < b.strip.y1
