-- The limits of widths and rectangles. They are this project's own choice.
use Rattle.std.specs.Prelude.{ℤ, pos, ◌-ℤ◌, Bool, ◌&&◌, nat_le, int_le, IsTrue}
use Rattle.rd_geom.specs.Plane.{Rectangle}
use Rattle.rd_style.specs.declared.styles.Style.{Style}
use Rattle.rd_style.specs.Figures.{max_line_width, max_coordinate, max_extent}

-- Is v from the one number to the other, both included?
abbrev pub is_between : ℤ → ℤ → ℤ → Bool
is_between low v high = int_le low v && int_le v high

-- Does it begin within a million pixels of the canvas's corner?
abbrev pub starts_near : Rectangle → Bool
starts_near r =
    is_between (pos 0 -ℤ max_coordinate) r.x max_coordinate
    && is_between (pos 0 -ℤ max_coordinate) r.y max_coordinate

-- Is it at most a million pixels wide and high?
abbrev pub is_small : Rectangle → Bool
is_small r = is_between (pos 0) r.w max_extent && is_between (pos 0) r.h max_extent

-- May a box have this rectangle?
unfoldable pub fits_rect : Rectangle → Bool
fits_rect r = starts_near r && is_small r

abbrev pub FitsRect : Rectangle → Type 0
FitsRect r = IsTrue (fits_rect r)

-- May a box have this style? Every border and its outline is at most 1,000 pixels wide.
unfoldable pub fits : Style → Bool
fits s =
    nat_le s.border_width.top max_line_width && nat_le s.border_width.right max_line_width
    && nat_le s.border_width.bottom max_line_width && nat_le s.border_width.left max_line_width
    && nat_le s.outline_width max_line_width

abbrev pub Fits : Style → Type 0
Fits s = IsTrue (fits s)
