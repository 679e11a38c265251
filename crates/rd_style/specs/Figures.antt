-- The largest boxes and lines, in canvas pixels. They are this project's own choice.
use Rattle.std.specs.Prelude.{ℕ, ℤ, pos}

-- The widest border or outline.
abbrev pub max_line_width : ℕ
max_line_width = 1000

-- How far from the canvas's corner a box may begin, to either side.
abbrev pub max_coordinate : ℤ
max_coordinate = pos 1000000

-- The largest width and height of a box.
abbrev pub max_extent : ℤ
max_extent = pos 1000000
