-- To leave leaves out of a fresh list is to paint a tree of which some boxes are cut off and others are bare.
use Rattle.std.proofs.Common.{◌≡◌, refl, ap, ◌∙◌, sym, Bool, true, false, ◌&&◌, cond, List, [], ◌∷◌, ◌++◌, inl, inr}
use Rattle.std.specs.Prelude.{filter}
use Rattle.std.specs.List.{list_any}
use Rattle.std.proofs.lemmas.List.{map-append}
use Rattle.std.proofs.lemmas.List.Elements.{filter-append}
use Rattle.rd_geom.specs.Plane.{Rectangle}
use Rattle.rd_keys.specs.Keys.{BoxKey}
use Rattle.rd_list.specs.Entries.{nil}
use Rattle.rd_list.specs.Lists.{without_touched}
use Rattle.rd_list.proofs.Merges.Routing.{both_true}
use Rattle.rd_tree.specs.Forest.{empty, tree}
use Rattle.rd_tree.specs.declared.node.Item.{Item}
use Rattle.rd_tree.specs.Document.{BoxForest}
use Rattle.rd_tree.proofs.Linking.Standing.{cases}
use Rattle.rd_stack.specs.Paths.{BoxData, BoxPath, is_none}
use Rattle.rd_stack.specs.Painting.{Painted, steps, entry_of}
use Rattle.rd_stack.specs.Fresh.{box_data, given, painted_at, painted, root_order}
use Rattle.rd_stack.specs.Cut.{pruned, all_cut, IsClosed}
use Rattle.rd_stack.proofs.Left.Bare.{bare}
use Rattle.rd_stack.proofs.Left.Bared.{bared, bare_path}
use Rattle.rd_stack.proofs.Left.Rests.{rest_of, lighter, kept, AllFine}
use Rattle.rd_stack.proofs.Left.StepsLeft.{steps-left, steps-gone, grouped-lighter, grouped-gone}

module _ (g cut gone : BoxKey → Bool) (within : (k : BoxKey) → cut k ≡ true → gone k ≡ true) (canvas : Rectangle) where
  rest-append : (xs ys : List Painted) → rest_of cut gone (xs ++ ys) ≡ rest_of cut gone xs ++ rest_of cut gone ys
  rest-append xs ys = rw (filter-append (kept cut gone) xs ys) (map-append (lighter cut gone) (filter (kept cut gone) xs) (filter (kept cut gone) ys))

  fine-append : (xs ys : List Painted) → AllFine cut gone xs → AllFine cut gone ys → AllFine cut gone (xs ++ ys)
  fine-append [] ys h k = k
  fine-append (x ∷ xs) ys h k = (h.0, fine-append xs ys h.1 k)

  -- nothing is left of boxes that all are cut off
  none-left : (above : List BoxData) (f : BoxForest) → all_cut cut f ≡ true → rest_of cut gone (painted (given g) canvas above f) ≡ []
  none-left above empty h = refl
  none-left above (tree k d children next) h =
      let p = both_true (cut k && all_cut cut children) (all_cut cut next) h in
      let q = both_true (cut k) (all_cut cut children) p.0 in
      rw (q.0, rest-append (painted (given g) canvas (box_data k d ∷ above) children) (painted (given g) canvas above next), none-left (box_data k d ∷ above) children q.1) (none-left above next p.1)

  under_cut : (above : List BoxData) (k : BoxKey) (d : Item) (children next : BoxForest) → (cut k ≡ true → all_cut cut children ≡ true)
      → (list_any (λ x. cut x.key) above ≡ true → all_cut cut (tree k d children next) ≡ true) → list_any (λ x. cut x.key) (box_data k d ∷ above) ≡ true → all_cut cut children ≡ true
  under_cut above k d children next c u h =
      elim (cases (cut k)) [
        | inl i ↦ c i
        | inr i ↦ (both_true (cut k) (all_cut cut children) (both_true (cut k && all_cut cut children) (all_cut cut next) (u (rw i at h))).0).1
      ]

  painted-fine : (above : List BoxData) (f : BoxForest) → IsClosed cut f → (list_any (λ b. cut b.key) above ≡ true → all_cut cut f ≡ true) → AllFine cut gone (painted (given g) canvas above f)
  painted-fine above empty c u = tt
  painted-fine above (tree k d children next) c u =
      let with_children = under_cut above k d children next c.0 u in
      let below = painted-fine (box_data k d ∷ above) children c.1 with_children in (
        record {
          bare = λ i. steps-gone cut gone within canvas (record { above = above; here = box_data k d }) (painted (given g) canvas (box_data k d ∷ above) children) below i (none-left (box_data k d ∷ above) children (c.0 i));
          below = λ h. (both_true (cut k) (all_cut cut children) (both_true (cut k && all_cut cut children) (all_cut cut next) (u h)).0).0;
        },
        fine-append (painted (given g) canvas (box_data k d ∷ above) children) (painted (given g) canvas above next) below
            (painted-fine above next c.2 (λ h. (both_true (cut k && all_cut cut children) (all_cut cut next) (u h)).1)),
      )

  painted-left : (above : List BoxData) (f : BoxForest) → IsClosed cut f → (list_any (λ b. cut b.key) above ≡ true → all_cut cut f ≡ true)
      → painted (given g) canvas (bared gone above) (bare gone (is_none above) (pruned cut f)) ≡ rest_of cut gone (painted (given g) canvas above f)
  painted-left above empty c u = refl
  painted-left above (tree k d children next) c u =
      let rest = painted-left above next c.2 (λ h. (both_true (cut k && all_cut cut children) (all_cut cut next) (u h)).1) in
      let with_children = under_cut above k d children next c.0 u in
      let inside = painted-left (box_data k d ∷ above) children c.1 with_children in
      elim (cases (cut k)) [
        | inl i ↦ rw (i, rest-append (painted (given g) canvas (box_data k d ∷ above) children) (painted (given g) canvas above next), none-left (box_data k d ∷ above) children (c.0 i)) rest
        | inr i ↦ rw (
          i,
          rest-append (painted (given g) canvas (box_data k d ∷ above) children) (painted (given g) canvas above next),
          ← rest,
          ← inside,
          steps-left cut gone within canvas (record { above = above; here = box_data k d }) (painted (given g) canvas (box_data k d ∷ above) children) (painted-fine (box_data k d ∷ above) children c.1 with_children),
          ← inside,
        ) refl
      ]

  no_root : {P : Type 0} (k : BoxKey) (d : Item) → cut k ≡ false → list_any (λ x. cut x.key) (box_data k d ∷ []) ≡ true → P
  no_root k d i h = let e = rw i at h in cc

  -- Cut off and made bare, then painted, is painted, then left out.
  pub order-left : (k : BoxKey) (d : Item) (f : BoxForest) → IsClosed cut f → cut k ≡ false
      → without_touched gone (root_order (given g) canvas (tree k d f empty)) ≡ root_order (given g) canvas (bare gone true (pruned cut (tree k d f empty)))
  order-left k d f c i =
      let with_children : list_any (λ x. cut x.key) (box_data k d ∷ []) ≡ true → all_cut cut f ≡ true = λ h. no_root k d i h in
      let below = painted (given g) canvas (box_data k d ∷ []) f in
      let e : BoxPath = record { above = []; here = box_data k d } in
      let root : Painted = painted_at (given g) canvas e below in
      grouped-lighter cut gone within root
      ∙ (ap (λ w. entry_of (record { at = bare_path gone e; order = w; grouped = g k }))
      (steps-left cut gone within canvas e below (painted-fine (box_data k d ∷ []) f c with_children)
      ∙ ap (steps canvas (bare_path gone e)) (sym (painted-left (box_data k d ∷ []) f c with_children)))
      ∙ ap (λ b. root_order (given g) canvas (bare gone true (cond b empty (tree k d (pruned cut f) empty)))) (sym i))

-- Where all boxes are gone, no leaf is left.
pub order-gone : (g gone : BoxKey → Bool) (canvas : Rectangle) (k : BoxKey) (d : Item) (f : BoxForest) → gone k ≡ true → all_cut gone f ≡ true → IsClosed gone f → without_touched gone (root_order (given g) canvas (tree k d f empty)) ≡ nil
order-gone g gone canvas k d f h a c =
    let within : (k : BoxKey) → gone k ≡ true → gone k ≡ true = λ k h. h in
    let below = painted (given g) canvas (box_data k d ∷ []) f in
    let e : BoxPath = record { above = []; here = box_data k d } in
    grouped-gone gone gone within (painted_at (given g) canvas e below)
    (steps-gone gone gone within canvas e below (painted-fine g gone gone within canvas (box_data k d ∷ []) f c (λ _. a)) h (none-left g gone gone within canvas (box_data k d ∷ []) f a))
