-- Rectangles beside each other, by their edges.
use Rattle.std.specs.Prelude.{ℤ, int_lt, Bool, not, ◌&&◌, ◌||◌}
use Rattle.rd_geom.specs.Plane.{Rectangle, right, bottom, has_none}

-- do both stretches of columns or rows begin before the other one ends?
abbrev pub overlap : ℤ → ℤ → ℤ → ℤ → Bool
overlap from to from' to' = int_lt from to' && int_lt from' to

-- is neither empty, and do their columns and their rows overlap?
abbrev pub crosses : Rectangle → Rectangle → Bool
crosses a b = not (has_none a || has_none b) && (overlap a.x (right a) b.x (right b) && overlap a.y (bottom a) b.y (bottom b))
