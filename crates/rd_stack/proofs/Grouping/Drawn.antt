-- Boxes are grouped where they are drawn as they are where they are laid out.
use Rattle.std.proofs.Common.{◌≡◌, refl, true, false, not, ◌&&◌, ◌||◌, List, [], ◌∷◌}
use Rattle.std.specs.Prelude.{nat_lt}
use Rattle.rd_style.specs.Classes.{real, blended}
use Rattle.rd_keys.specs.Keys.{BoxKey, same_key}
use Rattle.rd_tree.specs.Forest.{empty, tree}
use Rattle.rd_tree.specs.Document.{BoxForest}
use Rattle.rd_tree.specs.Contexts.{blends_in}
use Rattle.rd_tree.specs.Drawn.{Above, above_of, is_none, drawn_below}
use Rattle.rd_stack.proofs.Grouping.Shape.{grouped_root, grouped_low, grouped_tree}

pub blends-drawn : (above : List Above) (f : BoxForest) → blends_in (drawn_below above f) ≡ blends_in f
blends-drawn above empty = refl
blends-drawn above (tree k d below rest) =
    λ i. (blended d.style || (not (real d.style false) && blends-drawn (above_of (is_none above) d ∷ above) below i)) || blends-drawn above rest i

low-drawn : (j : BoxKey) (above : List Above) (f : BoxForest) → grouped_low (drawn_below above f) j ≡ grouped_low f j
low-drawn j above empty = refl
low-drawn j above (tree k d below rest) =
    let inside : List Above = above_of (is_none above) d ∷ above in
    λ i. (same_key j k && (real d.style false && (nat_lt d.style.opacity 255 || blended d.style || blends-drawn inside below i))) || (low-drawn j inside below i || low-drawn j above rest i)

pub tree-drawn : (j : BoxKey) (f : BoxForest) → grouped_tree (drawn_below [] f) j ≡ grouped_tree f j
tree-drawn j empty = refl
tree-drawn j (tree k d below rest) = λ i. (same_key j k && grouped_root d) || (low-drawn j (above_of true d ∷ []) below i || false)
