-- What a tree paints is what it paints where it is given which boxes are grouped.
use Rattle.std.proofs.Common.{◌≡◌, refl, ap, ◌∙◌, sym, subst, Bool, true, false, ◌||◌, List, [], ◌∷◌, ◌++◌}
use Rattle.rd_geom.specs.Plane.{Rectangle}
use Rattle.rd_geom.specs.Canvas.{canvas_of}
use Rattle.rd_keys.specs.Keys.{BoxKey, same_key}
use Rattle.rd_keys.proofs.Keys.{same_key-sound, same_key-refl}
use Rattle.rd_tree.specs.Forest.{empty, tree, has, IsApart}
use Rattle.rd_tree.specs.declared.node.Item.{Item}
use Rattle.rd_tree.specs.Contexts.{blends_in}
use Rattle.rd_tree.specs.Document.{Document, BoxForest, IsRooted}
use Rattle.rd_tree.specs.Drawn.{drawn}
use Rattle.rd_tree.proofs.Drawing.{apart_drawn, rooted_drawn}
use Rattle.rd_tree.proofs.Linking.Standing.{from_left, from_right, apart_back, differs}
use Rattle.rd_stack.specs.Paths.{BoxData, BoxPath}
use Rattle.rd_stack.specs.Painting.{steps, entry_of}
use Rattle.rd_stack.specs.Fresh.{box_data, grouping, given, grouped_in, painted, root_order, drawn_list, list_given}
use Rattle.rd_stack.specs.Cutting.{GivenLaw}
use Rattle.rd_stack.proofs.Present.{grouped-below}
use Rattle.rd_stack.proofs.Grouping.Shape.{grouped_box, grouped_root, grouped_low, grouped_tree, box-found, tree-found, low-absent}
use Rattle.rd_stack.proofs.Grouping.Drawn.{tree-drawn}

-- Of each box it is given what it is.
abbrev pub IsGiven : (BoxKey → Bool) → BoxForest → Type 0
IsGiven g empty = Unit {0}
IsGiven g (tree k d below rest) = (g k ≡ grouped_box d (blends_in below)) × IsGiven g below × IsGiven g rest

or_none : (a : Bool) → (a || (false || false)) ≡ a
or_none true = refl
or_none false = refl

or_low : (a : Bool) → (false || (a || false)) ≡ a
or_low true = refl
or_low false = refl

pub given_from : (g : BoxKey → Bool) (f : BoxForest) → IsApart same_key f → ((j : BoxKey) → has same_key j f ≡ true → g j ≡ grouped_low f j) → IsGiven g f
given_from g empty a h = tt
given_from g (tree k d below rest) a h = (
  h k (from_left (same_key k k) (has same_key k below || has same_key k rest) (same_key-refl k))
      ∙ rw (same_key-refl k, low-absent k below a.0, low-absent k rest a.1) (or_none (grouped_box d (blends_in below))),
  given_from g below a.3 (λ j u.
      h j (from_right (same_key j k) (has same_key j below || has same_key j rest) (from_left (has same_key j below) (has same_key j rest) u))
      ∙ rw (differs same_key same_key-sound same_key-refl below j k u a.0, low-absent j rest (a.2 j u)) (or_low (grouped_low below j))),
  given_from g rest a.4 (λ j u.
      h j (from_right (same_key j k) (has same_key j below || has same_key j rest) (from_right (has same_key j below) (has same_key j rest) u))
      ∙ rw (differs same_key same_key-sound same_key-refl rest j k u a.1, low-absent j below (apart_back same_key same_key-sound same_key-refl below rest a.2 j u)) refl),
)

module _ (canvas : Rectangle) (g : BoxKey → Bool) where
  painted-given : (b : BoxData) (up : List BoxData) (f : BoxForest) → IsGiven g f → painted grouping canvas (b ∷ up) f ≡ painted (given g) canvas (b ∷ up) f
  painted-given b up empty h = refl
  painted-given b up (tree k d below rest) h =
      let e : BoxPath = record { above = b ∷ up; here = box_data k d } in
      let low = painted-given (box_data k d) (b ∷ up) below h.1 in
      let later = painted-given b up rest h.2 in
      let here : grouping e (painted grouping canvas (box_data k d ∷ b ∷ up) below) ≡ g k =
      grouped-below canvas (record { at = e; below = below }) ∙ (box-found b up k d below ∙ sym h.0) in
      λ i. record { at = e; order = steps canvas e (low i); grouped = here i } ∷ low i ++ later i

  pub order-given : (k : BoxKey) (d : Item) (f : BoxForest) → IsGiven g f → g k ≡ grouped_root d → root_order grouping canvas (tree k d f empty) ≡ root_order (given g) canvas (tree k d f empty)
  order-given k d f h r =
      let e : BoxPath = record { above = []; here = box_data k d } in
      let low = painted-given (box_data k d) [] f h in
      λ i. entry_of (record { at = e; order = steps canvas e (low i); grouped = sym r i })

-- What a tree paints where its boxes stand, by its own grouping.
own_list : (t : Document) → IsApart same_key t.boxes → IsRooted t → drawn_list t ≡ list_given (grouped_in t.boxes) t
own_list t a r =
    let a2 : IsApart same_key (tree t.root r.0 r.1 empty) = subst (λ z. IsApart same_key z) r.2 a in
    let g : BoxKey → Bool = grouped_in (tree t.root r.0 r.1 empty) in
    let root : g t.root ≡ grouped_root r.0 =
    tree-found t.root t.root r.0 r.1 ∙ rw (same_key-refl t.root, low-absent t.root r.1 a2.0) (or_none (grouped_root r.0)) in
    let low : IsGiven g r.1 = given_from g r.1 a2.3 (λ j u. tree-found t.root j r.0 r.1 ∙ rw (differs same_key same_key-sound same_key-refl r.1 j t.root u a2.0) (or_low (grouped_low r.1 j))) in
    subst (λ z. root_order grouping (canvas_of t.canvas) z ≡ root_order (given (grouped_in z)) (canvas_of t.canvas) z) (sym r.2) (order-given (canvas_of t.canvas) g t.root r.0 r.1 low root)

pub given_list : GivenLaw
given_list t a r =
    own_list (drawn t) (apart_drawn [] t.boxes a) (rooted_drawn t r)
    ∙ ap (λ g. list_given g (drawn t)) (λ i j. same j i)
  where
    same : (j : BoxKey) → grouped_in (drawn t).boxes j ≡ grouped_in t.boxes j
    same j =
        let q = rooted_drawn t r in
        subst (λ z. grouped_in z j ≡ grouped_tree z j) (sym q.2) (tree-found t.root j q.0 q.1)
        ∙ (tree-drawn j t.boxes ∙ sym (subst (λ z. grouped_in z j ≡ grouped_tree z j) (sym r.2) (tree-found t.root j r.0 r.1)))
