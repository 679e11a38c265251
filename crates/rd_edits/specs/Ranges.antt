-- When a change of style keeps widths within the limits. It is this project's own choice.
use Rattle.std.specs.Prelude.{nat_le, Bool, true, ◌&&◌}
use Rattle.std.specs.Option.{option_map_or}
use Rattle.rd_geom.specs.declared.rect.Sides.{Sides}
use Rattle.rd_style.specs.declared.styles.StyleChange.{StyleChange}
use Rattle.rd_style.specs.Figures.{max_line_width}

-- Is each of the four widths within the limits?
abbrev pub fits_sides : Sides → Bool
fits_sides w =
    nat_le w.top max_line_width && nat_le w.right max_line_width && nat_le w.bottom max_line_width
    && nat_le w.left max_line_width

-- Is each width that the change names within the limits?
abbrev pub fits_change : StyleChange → Bool
fits_change c =
    option_map_or fits_sides c.border_width true && option_map_or (λ w. nat_le w
    max_line_width) c.outline_width true
