-- The stacking contexts in which boxes stand, and blended boxes (CSS 2.2 section 9.9.1, CSS Compositing 1 section 3.2).
-- What names no section of a standard is this project's own choice.
use Rattle.std.specs.Prelude.{Bool, false, not, ◌&&◌, ◌||◌, if◌then◌else◌, Option, Some, None}
use Rattle.std.specs.Option.{option_map_or}
use Rattle.rd_style.specs.Classes.{real, blended}
use Rattle.rd_keys.specs.Keys.{same_key}
use Rattle.rd_tree.specs.Forest.{empty, tree, has, children, in_subtree, branch}
use Rattle.rd_tree.specs.Document.{Document, BoxKey, Item, BoxForest, or_else}

-- CSS 2.2 section 9.9.1: of a box that is not the root: it, where it makes a stacking context
abbrev pub own_context : BoxKey → Item → Option BoxKey
own_context k d = if real d.style false then Some k else None

-- CSS 2.2 section 9.9.1: of these boxes, none of which is the root, the nearest stacking context round a place; a test of
-- a box with those below it says which boxes the place is in.
abbrev pub nearest_context : (BoxKey → BoxForest → Bool) → BoxForest → Option BoxKey
nearest_context is_in empty = None
nearest_context is_in (tree k d below rest) =
    if is_in k below then or_else (nearest_context is_in below) (own_context k d) else nearest_context is_in rest

-- the boxes below the root
abbrev pub below_root : Document → BoxForest
below_root t = children same_key t.root t.boxes

-- CSS 2.2 section 9.9.1: the nearest stacking context above a box; None is the root's
abbrev pub context_round : BoxKey → Document → Option BoxKey
context_round j t = nearest_context (λ k below. has same_key j below) (below_root t)

-- CSS 2.2 section 9.9.1: the stacking context of a child of p, which is p or the nearest above it; None is the root's
abbrev pub context_of : BoxKey → Document → Option BoxKey
context_of p t = nearest_context (λ k below. same_key p k || has same_key p below) (below_root t)

-- Is j a stacking context, where there is one, or below it?
abbrev pub in_context : Option BoxKey → Document → BoxKey → Bool
in_context o t j = option_map_or (λ e. in_subtree same_key j e t.boxes) o false

-- Does this hold of the item of one of the boxes?
abbrev pub any_of : (Item → Bool) → BoxForest → Bool
any_of p empty = false
any_of p (tree k d below rest) = p d || any_of p below || any_of p rest

-- CSS Compositing 1 section 3.4.1: is a box blended, or one below it?
abbrev pub holds_blended : BoxKey → Document → Bool
holds_blended k t = any_of (λ d. blended d.style) (branch same_key k t.boxes)

-- CSS Compositing 1 section 3.2: does a box that is not the root put a blended layer into the stacking context round it?
-- It does where it is blended, or makes no stacking context and a box below it does.
abbrev pub blends : Item → Bool → Bool
blends d low = blended d.style || (not (real d.style false) && low)

-- CSS Compositing 1 section 3.2: the same of one of some siblings, none of which is the root: does a blended layer stand
-- among them and the boxes below them, with no stacking context above it there?
abbrev pub blends_in : BoxForest → Bool
blends_in empty = false
blends_in (tree k d below rest) = blends d (blends_in below) || blends_in rest
