-- The canvas.
use Rattle.std.specs.Prelude.{pos, ◌≤ℤ◌}
use Rattle.rd_geom.specs.declared.rect.Size.{Size}
use Rattle.rd_geom.specs.Figures.{max_canvas_side}
use Rattle.rd_geom.specs.Plane.{Rectangle}

-- A canvas is from 1 to 4,096 pixels wide and high. The limit is this project's own choice.
pub record IsCanvas (s : Size) : Type 0 where
  pub some_wide : pos 1 ≤ℤ s.w
  pub wide : s.w ≤ℤ max_canvas_side
  pub some_high : pos 1 ≤ℤ s.h
  pub high : s.h ≤ℤ max_canvas_side

-- CSS 2.2 section 10.1: the initial containing block, which is the canvas
abbrev pub canvas_of : Size → Rectangle
canvas_of s = record { x = pos 0; y = pos 0; w = s.w; h = s.h }
