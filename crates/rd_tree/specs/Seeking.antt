-- Looks at siblings, one after the other, until one passes a test.
use Rattle.std.specs.Prelude.{ℕ, ◌+◌, Bool, ◌&&◌, ◌||◌, int_lt, if◌then◌else◌}
use Rattle.rd_geom.specs.Plane.{Rectangle, right, bottom, hull_of}
use Rattle.rd_tree.specs.Forest.{empty, tree}
use Rattle.rd_tree.specs.Document.{Item, BoxForest}
use Rattle.rd_tree.specs.Hulls.{any_touched, extent, hull_in}

module _ (test : Item → BoxForest → Bool) where
  -- the siblings from the first on that passes
  abbrev pub siblings_from : BoxForest → BoxForest
  siblings_from empty = empty
  siblings_from (tree k d below rest) = if test d below then tree k d below rest else siblings_from rest

  -- how many are looked at: those before it, and it
  abbrev pub looks_until : BoxForest → ℕ
  looks_until empty = 0
  looks_until (tree k d below rest) = 1 + (if test d below then 0 else looks_until rest)

-- Is the box touched, or has it a touched box below it?
abbrev pub is_marked : Item → BoxForest → Bool
is_marked d below = d.touched || any_touched below

-- Are there a column and a row that both may reach? Rectangles with a common pixel have them.
abbrev pub reaches : Rectangle → Rectangle → Bool
reaches r h = (int_lt h.x (right r) && int_lt r.x (right h)) && (int_lt h.y (bottom r) && int_lt r.y (bottom h))

-- Does the hull of the box and of all below it reach into the rectangle?
abbrev pub hull_reaches : Rectangle → Item → BoxForest → Bool
hull_reaches r d below = reaches r (hull_of (extent d) (hull_in below))
