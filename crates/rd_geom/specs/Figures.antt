-- The largest rectangles and canvases, in canvas pixels. They are this project's own choice.
use Rattle.std.specs.Prelude.{ℤ, pos}

-- How far from the canvas's corner a rectangle may reach, to any side.
abbrev pub max_reach : ℤ
max_reach = pos 1000000000

-- The largest width and height of a canvas.
abbrev pub max_canvas_side : ℤ
max_canvas_side = pos 4096
