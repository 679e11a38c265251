-- What a look at a box tells of all that is below it.
use Rattle.std.specs.Prelude.{ℕ, ◌+◌, Bool, false, ◌||◌, if◌then◌else◌}
use Rattle.rd_geom.specs.Plane.{Rectangle, no_pixels, hull_of, outset}
use Rattle.rd_style.specs.declared.styles.Style.{Style}
use Rattle.rd_tree.specs.Forest.{Forest, empty, tree}
use Rattle.rd_tree.specs.Document.{Item, BoxForest}

-- how many siblings there are, those below them not counted
abbrev pub breadth : {K D : Type 0} → Forest K D → ℕ
breadth empty = 0
breadth (tree k d below rest) = 1 + breadth rest

-- Is some box touched, those below counted too?
abbrev pub any_touched : BoxForest → Bool
any_touched empty = false
any_touched (tree k d below rest) = d.touched || (any_touched below || any_touched rest)

-- how many boxes are touched, those below counted too
abbrev pub touched_in : BoxForest → ℕ
touched_in empty = 0
touched_in (tree k d below rest) = (if d.touched then 1 else 0) + (touched_in below +
    touched_in rest)

-- CSS 2.2 section 18.4: a border box with its outline round it
abbrev pub outlined : Rectangle → Style → Rectangle
outlined r s = outset r s.outline_width

-- the same of an item
abbrev pub extent : Item → Rectangle
extent d = outlined d.rect d.style

-- the least rectangle with the border boxes of all, each with its outline, those of hidden boxes too
abbrev pub hull_in : BoxForest → Rectangle
hull_in empty = no_pixels
hull_in (tree k d below rest) = hull_of (hull_of (extent d) (hull_in below)) (hull_in rest)
