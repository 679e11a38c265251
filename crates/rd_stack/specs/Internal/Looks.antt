-- What the walk over a tree gives.
use Rattle.std.specs.Prelude.{◌≡◌, ℕ, Option, List, ◌∷◌}
use Rattle.rd_geom.specs.Plane.{Rectangle}
use Rattle.rd_keys.specs.Keys.{BoxKey, same_key}
use Rattle.rd_tree.specs.Forest.{head, size, from_some}
use Rattle.rd_tree.specs.Document.{Document}
use Rattle.rd_stack.specs.Paths.{BoxData}
use Rattle.rd_stack.specs.Painting.{Painted}
use Rattle.rd_stack.specs.Fresh.{grouping, painted_at, painted, with_below}

-- a box below others with all that it paints
abbrev pub painted_over : Rectangle → List BoxData → BoxData → List Painted → Painted
painted_over canvas above here below = painted_at grouping canvas (record { above = above; here = here }) below

-- the boxes from one on, each with all that it paints
abbrev pub painted_from : Rectangle → List BoxData → Option BoxKey → Document → List Painted
painted_from canvas above first t = painted grouping canvas above (from_some same_key first t.boxes)

-- a box and those below it, from the first child on
abbrev pub with_those_below : Rectangle → List BoxData → BoxData → Option BoxKey → Document → List Painted
with_those_below canvas above here child t = with_below grouping canvas above here (painted_from canvas (here ∷ above) child t)

-- a box that is there, or no box
abbrev pub IsFirst : Option BoxKey → Document → Type 0
IsFirst first t = first ≡ head (from_some same_key first t.boxes)

-- how many boxes there are from one on: it, its later siblings, and all below them
abbrev pub size_from : Option BoxKey → Document → ℕ
size_from first t = size (from_some same_key first t.boxes)
