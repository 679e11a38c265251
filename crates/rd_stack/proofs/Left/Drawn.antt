-- Trees that are cut, and then drawn.
use Rattle.std.proofs.Common.{◌≡◌, refl, ap, ◌∙◌, Bool, true, false, ◌&&◌, ◌||◌, cond, List, [], ◌∷◌, ◌++◌, inl, inr}
use Rattle.rd_geom.specs.Plane.{Rectangle}
use Rattle.rd_keys.specs.Keys.{BoxKey, same_key}
use Rattle.rd_tree.specs.declared.scroll.Scroll.{Scroll}
use Rattle.rd_tree.specs.Forest.{empty, tree, at_box, map_where}
use Rattle.rd_tree.specs.declared.node.Item.{Item}
use Rattle.rd_tree.specs.Document.{BoxForest}
use Rattle.rd_tree.specs.Changes.{with_scroll}
use Rattle.rd_tree.specs.Drawn.{Above, above_of, is_none, drawn_below}
use Rattle.rd_tree.proofs.Linking.Standing.{cases}
use Rattle.rd_stack.specs.Paths.{BoxData}
use Rattle.rd_stack.specs.Painting.{entry_of}
use Rattle.rd_stack.specs.Fresh.{Grouping, root_order, painted_at, painted, with_below, box_data}
use Rattle.rd_stack.specs.Cut.{pruned, all_cut, IsClosed}
use Rattle.rd_stack.proofs.Left.Bare.{bare, bare_item}
use Rattle.rd_stack.proofs.Left.Cuts.{pruned_all}
use Rattle.rd_stack.proofs.Left.Alone.{OfKey}

module _ (cut : BoxKey → Bool) where
  -- To cut and to draw is to draw and to cut.
  pub pruned-drawn : (above : List Above) (f : BoxForest) → pruned cut (drawn_below above f) ≡ drawn_below above (pruned cut f)
  pruned-drawn above empty = refl
  pruned-drawn above (tree k d below rest) =
      elim (cases (cut k)) [
        | inl e ↦ rw e (pruned-drawn above rest)
        | inr e ↦ rw (e, pruned-drawn (above_of (is_none above) d ∷ above) below, pruned-drawn above rest) refl
      ]

  pub all-drawn : (above : List Above) (f : BoxForest) → all_cut cut (drawn_below above f) ≡ all_cut cut f
  all-drawn above empty = refl
  all-drawn above (tree k d below rest) = λ i. cut k && all-drawn (above_of (is_none above) d ∷ above) below i && all-drawn above rest i

  pub closed_drawn : (above : List Above) (f : BoxForest) → IsClosed cut f → IsClosed cut (drawn_below above f)
  closed_drawn above empty c = tt
  closed_drawn above (tree k d below rest) c = (
    (λ u. all-drawn (above_of (is_none above) d ∷ above) below ∙ c.0 u),
    closed_drawn (above_of (is_none above) d ∷ above) below c.1,
    closed_drawn above rest c.2,
  )

-- A scroll offset moves nothing where all below the box is cut off,
module _ (cut : BoxKey → Bool) (k : BoxKey) (v : Scroll) where
  -- All below the box of this key is cut.
  abbrev pub IsBared : BoxForest → Type 0
  IsBared empty = Unit {0}
  IsBared (tree i d below rest) = (same_key i k ≡ true → all_cut cut below ≡ true) × IsBared below × IsBared rest

  pub scrolled-cut : (above : List Above) (f : BoxForest) → IsBared f
      → drawn_below above (pruned cut (at_box same_key k (with_scroll v) f)) ≡ at_box same_key k (with_scroll v) (drawn_below above (pruned cut f))
  scrolled-cut above empty q = refl
  scrolled-cut above (tree i d below rest) q =
      let later = scrolled-cut above rest q.2 in
      elim (cases (cut i)) [
        | inl c ↦ rw c later
        | inr c ↦ elim (cases (same_key i k)) [
          | inl e ↦
              let none : pruned cut below ≡ empty = pruned_all cut below (q.0 e) in
              let none2 : pruned cut (at_box same_key k (with_scroll v) below) ≡ empty = pruned_all cut (at_box same_key k (with_scroll v) below) (all-same below ∙ q.0 e) in
              rw (c, e, none, none2, later) refl
          | inr e ↦ rw (c, e, scrolled-cut (above_of (is_none above) d ∷ above) below q.1, later) refl
        ]
      ]
    where
      all-same : (f : BoxForest) → all_cut cut (at_box same_key k (with_scroll v) f) ≡ all_cut cut f
      all-same empty = refl
      all-same (tree j d below rest) = λ t. cut j && all-same below t && all-same rest t

-- or where the box does not clip.
pub scrolled-kept : (k : BoxKey) (v : Scroll) (above : List Above) (f : BoxForest) → OfKey k (λ root d. above_of root (with_scroll v d) ≡ above_of root d) (is_none above) f
    → drawn_below above (at_box same_key k (with_scroll v) f) ≡ at_box same_key k (with_scroll v) (drawn_below above f)
scrolled-kept k v above empty q = refl
scrolled-kept k v above (tree i d below rest) q =
    elim (cases (same_key i k)) [
      | inl e ↦ rw (e, q.0 e, scrolled-kept k v (above_of (is_none above) d ∷ above) below q.1, scrolled-kept k v above rest q.2) refl
      | inr e ↦ rw (e, scrolled-kept k v (above_of (is_none above) d ∷ above) below q.1, scrolled-kept k v above rest q.2) refl
    ]

-- Painting reads nothing of a box but its key, its rectangle and its style.
module _ (groups : Grouping) (q : BoxKey → Bool) (h : Item → Item) (same : (k : BoxKey) (d : Item) → box_data k (h d) ≡ box_data k d) where
  box_same : (k : BoxKey) (d : Item) (b : Bool) → box_data k (cond b (h d) d) ≡ box_data k d
  box_same k d true = same k d
  box_same k d false = refl

  painted-same : (canvas : Rectangle) (above : List BoxData) (f : BoxForest) → painted groups canvas above (map_where q h f) ≡ painted groups canvas above f
  painted-same canvas above empty = refl
  painted-same canvas above (tree k d below rest) =
      ap (λ b. with_below groups canvas above b (painted groups canvas (b ∷ above) (map_where q h below)) ++ painted groups canvas above (map_where q h rest)) (box_same k d (q k))
      ∙ (λ i. with_below groups canvas above (box_data k d) (painted-same canvas (box_data k d ∷ above) below i) ++ painted-same canvas above rest i)

  pub order_same : (canvas : Rectangle) (f : BoxForest) → root_order groups canvas (map_where q h f) ≡ root_order groups canvas f
  order_same canvas empty = refl
  order_same canvas (tree k d below rest) =
      ap (λ b. entry_of (painted_at groups canvas (record { above = []; here = b }) (painted groups canvas (b ∷ []) (map_where q h below)))) (box_same k d (q k))
      ∙ ap (λ xs. entry_of (painted_at groups canvas (record { above = []; here = box_data k d }) xs)) (painted-same canvas (box_data k d ∷ []) below)

-- What is bare is as bare with another scroll offset.
pub bare-scrolled : (gone : BoxKey → Bool) (root : Bool) (k : BoxKey) (v : Scroll) (f : BoxForest) → bare gone root (at_box same_key k (with_scroll v) f) ≡ at_box same_key k (with_scroll v) (bare gone root f)
bare-scrolled gone root k v empty = refl
bare-scrolled gone root k v (tree i d below rest) = λ t. tree i (by (same_key i k) t) (bare-scrolled gone false k v below t) (bare-scrolled gone root k v rest t)
  where
    by : (b : Bool) → bare_item (gone i) root (cond b (with_scroll v d) d) ≡ cond b (with_scroll v (bare_item (gone i) root d)) (bare_item (gone i) root d)
    by true = refl
    by false = refl
