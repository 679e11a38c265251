-- Widths of borders within the limits.
use Rattle.std.specs.Prelude.{◌≤◌}
use Rattle.rd_geom.specs.declared.rect.Sides.{Sides}
use Rattle.rd_style.specs.Figures.{max_line_width}

-- none is too wide
pub record AreWidths (s : Sides) : Type 0 where
  pub top : s.top ≤ max_line_width
  pub right : s.right ≤ max_line_width
  pub bottom : s.bottom ≤ max_line_width
  pub left : s.left ≤ max_line_width
