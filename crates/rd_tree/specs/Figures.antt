-- The largest trees. They are this project's own choice.
use Rattle.std.specs.Prelude.{ℕ, ℤ, pos}

-- The most boxes of a tree.
abbrev pub max_boxes : ℕ
max_boxes = 20000

-- How deep a box of a tree may be, where the root is at depth 1.
abbrev pub max_depth : ℕ
max_depth = 256

-- The farthest that a box is scrolled, to either side, in canvas pixels.
abbrev pub max_scroll : ℤ
max_scroll = pos 1000000
