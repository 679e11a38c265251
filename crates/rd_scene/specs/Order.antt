-- Which boxes may follow which. It is this project's own choice: a parent stands before its children, and a tree is not too
-- deep.
use Rattle.std.specs.Prelude.{ℕ, ◌+◌, Bool, true, false, ◌&&◌, nat_lt, if◌then◌else◌, List, [], ◌∷◌, bytes_eq, Option, Some, None, is_none, unwrap_or, option_and_then}
use Rattle.rd_tree.specs.Figures.{max_depth}
use Rattle.rd_scene.specs.declared.script.SceneBox.{SceneBox}

-- The root has depth 1, and any other box one more than its parent. Here of the box with
-- this id among these, the latest first; None where none has it.
abbrev pub depth_of : List ℕ → List SceneBox → Option ℕ
depth_of id [] = None
depth_of id (b ∷ before) =
    if bytes_eq b.id id then Some (unwrap_or (option_and_then (λ p. depth_of p before) b.parent) 0 + 1) else depth_of id before

-- the depth of a box with this parent after these boxes
abbrev pub depth_below : List SceneBox → Option (List ℕ) → ℕ
depth_below before parent = unwrap_or (option_and_then (λ p. depth_of p before) parent) 0 + 1

-- Does no box stand before?
abbrev pub is_first : List SceneBox → Bool
is_first [] = true
is_first (b ∷ before) = false

-- Does a depth leave room for a level below it?
abbrev pub has_level_below : Option ℕ → Bool
has_level_below None = false
has_level_below (Some depth) = nat_lt depth max_depth

-- Has the first box no parent, and any other one a parent before it that leaves room below it?
abbrev pub has_place : List SceneBox → Option (List ℕ) → Bool
has_place [] parent = is_none parent
has_place (b ∷ before) None = false
has_place (b ∷ before) (Some p) = has_level_below (depth_of p (b ∷ before))

-- After the boxes before, the latest first, each box has an id of its own and a place.
abbrev pub are_in_order : List SceneBox → List SceneBox → Bool
are_in_order before [] = true
are_in_order before (b ∷ bs) = is_none (depth_of b.id before) && has_place before b.parent && are_in_order (b ∷ before) bs
