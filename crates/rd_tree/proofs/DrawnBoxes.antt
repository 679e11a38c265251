-- Boxes have as many levels, and are touched as they are, where they are drawn.
use Rattle.std.proofs.Common.{◌≡◌, refl, ◌+◌, max, List, ◌∷◌, inl, inr}
use Rattle.rd_keys.specs.Keys.{same_key}
use Rattle.rd_tree.specs.Forest.{empty, tree, has, height}
use Rattle.rd_tree.specs.Document.{BoxKey, BoxForest, is_touched}
use Rattle.rd_tree.specs.Drawn.{Above, above_of, is_none, drawn_below}
use Rattle.rd_tree.proofs.Linking.Standing.{cases}
use Rattle.rd_tree.proofs.Drawing.{has-drawn}

pub height-drawn : (above : List Above) (f : BoxForest) → height (drawn_below above f) ≡ height f
height-drawn above empty = refl
height-drawn above (tree k d below rest) = λ i. max (1 + height-drawn (above_of (is_none above) d ∷ above) below i) (height-drawn above rest i)

pub is_touched-drawn : (k : BoxKey) (above : List Above) (f : BoxForest) → is_touched k (drawn_below above f) ≡ is_touched k f
is_touched-drawn k above empty = refl
is_touched-drawn k above (tree i d below rest) =
    elim (cases (same_key k i)) [
      | inl e ↦ rw e refl
      | inr e ↦ elim (cases (has same_key k below)) [
        | inl u ↦ rw (e, has-drawn (above_of (is_none above) d ∷ above) k below, u) (is_touched-drawn k (above_of (is_none above) d ∷ above) below)
        | inr u ↦ rw (e, has-drawn (above_of (is_none above) d ∷ above) k below, u) (is_touched-drawn k above rest)
      ]
    ]
