-- The pass over what is handed down in place of the boxes above.
use Rattle.std.proofs.Common.{◌≡◌, refl, ap, ◌∙◌, Bool, false}
use Rattle.rd_keys.specs.declared.entry.Part.{Part}
use Rattle.rd_keys.specs.declared.entry.Part.TheVariants.{Back, Border, Content, Outline}
use Rattle.rd_list.specs.Entries.{Entries}
use Rattle.rd_list.specs.Wrappers.{Wrapper}
use Rattle.rd_tree.specs.Forest.{empty, tree}
use Rattle.rd_tree.specs.Document.{BoxForest}
use Rattle.rd_tree.specs.Contexts.{blends_in}
use Rattle.rd_stack.specs.Paths.{BoxData}
use Rattle.rd_stack.specs.Fresh.{box_data}
use Rattle.rd_partial.specs.Internal.ContextLists.{ContextLists, ◌⊕◌}
use Rattle.rd_partial.specs.Internal.Pass.{order_of, pass, box_lists, is_one}

module _ {S T L : Type 0} (enter : S → BoxData → S) (give : S → BoxData → Part → Entries Wrapper L) (enter2 : T → BoxData → T) (give2 : T → BoxData → Part → Entries Wrapper L) where
  -- one stands for the other
  pub record Stands (R : S → T → Type 0) : Type 0 where
    pub down : (s : S) (t : T) (b : BoxData) → R s t → R (enter s b) (enter2 t b)
    pub same : (s : S) (t : T) (b : BoxData) (p : Part) → R s t → give s b p ≡ give2 t b p

  module _ (R : S → T → Type 0) (h : Stands R) where
    pub order-handed : (root : Bool) (s : S) (t : T) (b : BoxData) (below : ContextLists L) → R s t → order_of enter give root s b below ≡ order_of enter2 give2 root t b below
    order-handed root s t b below r = rw (h.same s t b Back r, h.same s t b Border r, h.same s t b Content r, h.same s t b Outline r) refl

    box-handed : (s : S) (t : T) (b : BoxData) (grouped : Bool) (order : Entries Wrapper L) (below : ContextLists L) → R s t → box_lists enter give s b grouped order below ≡ box_lists enter2 give2 t b grouped order below
    box-handed s t b grouped order below r = rw (h.same s t b Back r, h.same s t b Border r, h.same s t b Content r, h.same s t b Outline r) refl

    pub pass-handed : (s : S) (t : T) (f : BoxForest) → R s t → pass enter give s f ≡ pass enter2 give2 t f
    pass-handed s t empty r = refl
    pass-handed s t (tree k d ch nx) r =
        let b = box_data k d in
        let below = pass enter give (enter s b) ch in
        let below2 = pass enter2 give2 (enter2 t b) ch in
        let one = is_one false (blends_in ch) b in
        let deeper : below ≡ below2 = pass-handed (enter s b) (enter2 t b) ch (h.down s t b r) in
        ap (λ z. z ⊕ pass enter give s nx) (box-handed s t b one (order_of enter give false s b below) below r)
        ∙ ap (λ z. box_lists enter2 give2 t b one z below ⊕ pass enter give s nx) (order-handed false s t b below r)
        ∙ ap (λ z. box_lists enter2 give2 t b one (order_of enter2 give2 false t b z) z ⊕ pass enter give s nx) deeper
        ∙ ap (λ z. box_lists enter2 give2 t b one (order_of enter2 give2 false t b below2) below2 ⊕ z) (pass-handed s t nx r)
