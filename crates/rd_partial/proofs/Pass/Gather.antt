-- Filters over the boxes below a box, as one downward pass.
use Rattle.std.proofs.Common.{◌≡◌, refl, ap, ◌∙◌, sym, Bool, true, false, ◌&&◌, cond, List, [], ◌∷◌, ◌++◌, append_assoc, inl, inr}
use Rattle.std.specs.Prelude.{filter}
use Rattle.std.specs.List.{list_all}
use Rattle.std.proofs.lemmas.List.Elements.{filter-append}
use Rattle.rd_geom.specs.Plane.{Rectangle}
use Rattle.rd_tree.specs.Forest.{empty, tree}
use Rattle.rd_tree.specs.Document.{BoxForest}
use Rattle.rd_tree.proofs.Linking.Standing.{cases}
use Rattle.rd_stack.specs.Paths.{BoxData, BoxPath, boxes_between}
use Rattle.rd_stack.specs.Painting.{Painted}
use Rattle.rd_stack.specs.Fresh.{box_data, grouping, painted, painted_at}
use Rattle.rd_stack.proofs.Counting.Paths.{between-path}
use Rattle.rd_partial.specs.Internal.ContextLists.{list_if}

module _ (canvas : Rectangle) where
  -- a box with all that it paints
  abbrev pub painted_box : List BoxData → BoxData → BoxForest → Painted
  painted_box above b children =
      painted_at grouping canvas (record { above = above; here = b }) (painted grouping canvas (b ∷ above) children)

  -- two tests that agree on the boxes of a forest
  pub filter-agree : (above : List BoxData) (f : BoxForest) (p r : Painted → Bool) → ((x : Painted) (q : List BoxData) → x.at.above ≡ q ++ above → p x ≡ r x) → filter p (painted grouping canvas above f) ≡ filter r (painted grouping canvas above f)
  filter-agree above empty p r h = refl
  filter-agree above (tree k d ch nx) p r h =
      let b = box_data k d in
      let x = painted_box above b ch in
      let c = filter-agree (b ∷ above) ch p r (λ y q e. h y (q ++ b ∷ []) (e ∙ sym (append_assoc q (b ∷ []) above))) in
      let n = filter-agree above nx p r h in
      one x (filter-append p (painted grouping canvas (b ∷ above) ch) (painted grouping canvas above nx)) (filter-append r (painted grouping canvas (b ∷ above) ch) (painted grouping canvas above nx)) c n (h x [] refl)
    where
      one : {xs ys : List Painted} {a1 a2 a3 a4 : List Painted} (x : Painted) → xs ≡ a1 ++ a2 → ys ≡ a3 ++ a4 → a1 ≡ a3 → a2 ≡ a4 → p x ≡ r x → cond (p x) (x ∷ xs) xs ≡ cond (r x) (x ∷ ys) ys
      one x g i c n e = rw (g, i, c, n, e) refl

  -- a filter of a box, of those below it and of its later siblings
  pub filter-tree : (p : Painted → Bool) (above : List BoxData) (k : _) (d : _) (ch nx : BoxForest) → filter p (painted grouping canvas above (tree k d ch nx)) ≡ (list_if (p (painted_box above (box_data k d) ch)) (painted_box above (box_data k d) ch ∷ []) ++ filter p (painted grouping canvas (box_data k d ∷ above) ch)) ++ filter p (painted grouping canvas above nx)
  filter-tree p above k d ch nx =
      let x = painted_box above (box_data k d) ch in
      elim (p x) as (λ t. cond t (x ∷ filter p (painted grouping canvas (box_data k d ∷ above) ch ++ painted grouping canvas above nx)) (filter p (painted grouping canvas (box_data k d ∷ above) ch ++ painted grouping canvas above nx)) ≡ (list_if t (x ∷ []) ++ filter p (painted grouping canvas (box_data k d ∷ above) ch)) ++ filter p (painted grouping canvas above nx)) [
        | true ↦ ap (λ zs. x ∷ zs) (filter-append p (painted grouping canvas (box_data k d ∷ above) ch) (painted grouping canvas above nx))
        | false ↦ filter-append p (painted grouping canvas (box_data k d ∷ above) ch) (painted grouping canvas above nx)
      ]

  module _ (q : Painted → Bool) (go : BoxData → Bool) where
    -- the boxes that pass a test, going down where one may
    abbrev pub gathered : List BoxData → BoxForest → List Painted
    gathered above empty = []
    gathered above (tree k d ch nx) =
        let b = box_data k d in
        let x = painted_box above b ch in
        (list_if (q x) (x ∷ []) ++ list_if (go b) (gathered (b ∷ above) ch)) ++ gathered above nx

    abbrev pub reached : BoxPath → Painted → Bool
    reached e x = list_all go (boxes_between e x.at) && q x

    at_box : (e : BoxPath) (path : List BoxData) (b : BoxData) (ch : BoxForest) (t : Bool) → list_all go path ≡ t → reached e (painted_box (path ++ e.here ∷ e.above) b ch) ≡ t && q (painted_box (path ++ e.here ∷ e.above) b ch)
    at_box e path b ch t h = rw (between-path e (record { above = path ++ e.here ∷ e.above; here = b }) path refl, h) refl

    also : (a b : Bool) → b ≡ false → (a && b) ≡ false
    also true b h = h
    also false b h = refl

    -- past one where one may not go on nothing is reached
    pub none_reached : (e : BoxPath) (path : List BoxData) (f : BoxForest) → list_all go path ≡ false → filter (reached e) (painted grouping canvas (path ++ e.here ∷ e.above) f) ≡ []
    none_reached e path empty h = refl
    none_reached e path (tree k d ch nx) h =
        let b = box_data k d in
        filter-tree (reached e) (path ++ e.here ∷ e.above) k d ch nx
        ∙ rw (at_box e path b ch false h, none_reached e (b ∷ path) ch (also (go b) (list_all go path) h), none_reached e path nx h) refl

    pub gathered-reached : (e : BoxPath) (path : List BoxData) (f : BoxForest) → list_all go path ≡ true → gathered (path ++ e.here ∷ e.above) f ≡ filter (reached e) (painted grouping canvas (path ++ e.here ∷ e.above) f)
    gathered-reached e path empty h = refl
    gathered-reached e path (tree k d ch nx) h =
        let b = box_data k d in
        let above = path ++ e.here ∷ e.above in
        let x = painted_box above b ch in
        let deeper : list_if (go b) (gathered (b ∷ above) ch) ≡ filter (reached e) (painted grouping canvas (b ∷ above) ch) =
        elim (cases (go b)) [
          | inl t ↦ rw t (gathered-reached e (b ∷ path) ch (rw t h))
          | inr t ↦ rw t (sym (none_reached e (b ∷ path) ch (rw t refl)))
        ] in
        rw (deeper, gathered-reached e path nx h) (sym (filter-tree (reached e) above k d ch nx ∙ rw (at_box e path b ch true h) refl))
