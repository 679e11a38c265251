-- What a forest gives, list by list, as what its boxes paint.
use Rattle.std.proofs.Common.{◌≡◌, refl, ap, ◌∙◌, sym, Bool, true, false, ◌&&◌, ◌||◌, cond, List, [], ◌∷◌, ◌++◌}
use Rattle.rd_geom.specs.Plane.{Rectangle}
use Rattle.rd_style.specs.declared.kinds.Class.{Class}
use Rattle.rd_style.specs.declared.kinds.Class.TheVariants.{Layer, Float, Atom, Block, Inline}
use Rattle.rd_keys.specs.declared.entry.Part.{Part}
use Rattle.rd_keys.specs.declared.entry.Part.TheVariants.{Outline}
use Rattle.rd_item.specs.declared.leaf.Leaf.{Leaf}
use Rattle.rd_list.specs.Entries.{Entries, ◌▷◌, each}
use Rattle.rd_list.proofs.Joins.{join-nil, each-append}
use Rattle.rd_list.specs.Wrappers.{Wrapper}
use Rattle.rd_tree.specs.Forest.{empty, tree}
use Rattle.rd_tree.specs.Document.{BoxForest}
use Rattle.rd_stack.specs.Paths.{BoxData, has_class, is_class, is_none, is_plain, is_inline, is_no_context, is_inline_level}
use Rattle.rd_stack.specs.Painting.{Painted, paint, back_border, inline_part, entry_of, is_negative, is_positive, is_zero, level_of}
use Rattle.rd_stack.specs.Fresh.{box_data}
use Rattle.rd_partial.specs.Internal.ContextLists.{ContextLists, LayerOrder, no_lists, ◌⊕◌, entries_if, list_if, stacked}
use Rattle.rd_partial.specs.Internal.Pass.{box_lists}
use Rattle.rd_partial.proofs.Pass.Joined.{joined, joined-append, joined-one, joined-some}
use Rattle.rd_partial.proofs.Pass.Gather.{painted_box, gathered}

module _ {A : Type 0} where
  each-one : (g : A → Entries Wrapper Leaf) (t : Bool) (x : A) → each g (list_if t (x ∷ [])) ≡ entries_if t (g x)
  each-one g true x = join-nil (g x)
  each-one g false x = refl

  each-some : (g : A → Entries Wrapper Leaf) (t : Bool) (xs : List A) → each g (list_if t xs) ≡ entries_if t (each g xs)
  each-some g true xs = refl
  each-some g false xs = refl

abbrev pub enter : List BoxData → BoxData → List BoxData
enter above b = b ∷ above

module _ (canvas : Rectangle) where
  abbrev pub give : List BoxData → BoxData → Part → Entries Wrapper Leaf
  give above b part = paint canvas part (record { above = above; here = b })

  -- the pass, with all that each box paints as the ten steps over the boxes below it
  abbrev pub passed : List BoxData → BoxForest → ContextLists Leaf
  passed above empty = no_lists
  passed above (tree k d ch nx) =
      let b = box_data k d in
      let x = painted_box canvas above b ch in
      box_lists enter give above b x.grouped x.order (passed (b ∷ above) ch) ⊕ passed above nx

  abbrev pub stack_of : Painted → List (LayerOrder Leaf)
  stack_of x = stacked (level_of x) (entry_of x)

  module _ (q : Painted → Bool) (go : BoxData → Bool) where
    pub gathered-each : (g : Painted → Entries Wrapper Leaf) (above : List BoxData) (k : _) (d : _) (ch nx : BoxForest)
        → each g (gathered canvas q go above (tree k d ch nx)) ≡ (entries_if (q (painted_box canvas above (box_data k d) ch)) (g (painted_box canvas above (box_data k d) ch)) ▷ entries_if (go (box_data k d)) (each g (gathered canvas q go (box_data k d ∷ above) ch))) ▷ each g (gathered canvas q go above nx)
    gathered-each g above k d ch nx =
        let b = box_data k d in
        let x = painted_box canvas above b ch in
        each-append g (list_if (q x) (x ∷ []) ++ list_if (go b) (gathered canvas q go (b ∷ above) ch)) (gathered canvas q go above nx)
        ∙ ap (λ zs. zs ▷ each g (gathered canvas q go above nx))
        (each-append g (list_if (q x) (x ∷ [])) (list_if (go b) (gathered canvas q go (b ∷ above) ch))
        ∙ rw (each-one g (q x) x, each-some g (go b) (gathered canvas q go (b ∷ above) ch)) refl)

    gathered-joined : (g : Painted → List (LayerOrder Leaf)) (above : List BoxData) (k : _) (d : _) (ch nx : BoxForest)
        → joined g (gathered canvas q go above (tree k d ch nx)) ≡ (list_if (q (painted_box canvas above (box_data k d) ch)) (g (painted_box canvas above (box_data k d) ch)) ++ list_if (go (box_data k d)) (joined g (gathered canvas q go (box_data k d ∷ above) ch))) ++ joined g (gathered canvas q go above nx)
    gathered-joined g above k d ch nx =
        let b = box_data k d in
        let x = painted_box canvas above b ch in
        joined-append g (list_if (q x) (x ∷ []) ++ list_if (go b) (gathered canvas q go (b ∷ above) ch)) (gathered canvas q go above nx)
        ∙ ap (λ zs. zs ++ joined g (gathered canvas q go above nx))
        (joined-append g (list_if (q x) (x ∷ [])) (list_if (go b) (gathered canvas q go (b ∷ above) ch))
        ∙ rw (joined-one g (q x) x, joined-some g (go b) (gathered canvas q go (b ∷ above) ch)) refl)

  pub backgrounds_are : (above : List BoxData) (f : BoxForest) → is_none above ≡ false → (passed above f).backgrounds ≡ each (λ x. back_border canvas x.at) (gathered canvas (λ x. has_class Block x.at) is_plain above f)
  backgrounds_are above empty h = refl
  backgrounds_are above (tree k d ch nx) h =
      let b = box_data k d in
      rw (backgrounds_are (b ∷ above) ch refl, backgrounds_are above nx h)
      (sym (gathered-each (λ x. has_class Block x.at) is_plain (λ x. back_border canvas x.at) above k d ch nx ∙ rw h refl))

  pub floats_are : (above : List BoxData) (f : BoxForest) → is_none above ≡ false → (passed above f).floats ≡ each (λ x. x.order) (gathered canvas (λ x. has_class Float x.at) is_plain above f)
  floats_are above empty h = refl
  floats_are above (tree k d ch nx) h =
      let b = box_data k d in
      rw (floats_are (b ∷ above) ch refl, floats_are above nx h)
      (sym (gathered-each (λ x. has_class Float x.at) is_plain (λ x. x.order) above k d ch nx ∙ rw h refl))

  pub outlines_are : (above : List BoxData) (f : BoxForest) → is_none above ≡ false → (passed above f).outlines ≡ each (λ x. paint canvas Outline x.at) (gathered canvas (λ x. has_class Block x.at || has_class Inline x.at) is_plain above f)
  outlines_are above empty h = refl
  outlines_are above (tree k d ch nx) h =
      let b = box_data k d in
      rw (outlines_are (b ∷ above) ch refl, outlines_are above nx h)
      (sym (gathered-each (λ x. has_class Block x.at || has_class Inline x.at) is_plain (λ x. paint canvas Outline x.at) above k d ch nx ∙ rw h refl))

  pub zeros_are : (above : List BoxData) (f : BoxForest) → is_none above ≡ false → (passed above f).zeros ≡ each entry_of (gathered canvas (λ x. has_class Layer x.at && is_zero x) is_no_context above f)
  zeros_are above empty h = refl
  zeros_are above (tree k d ch nx) h =
      let b = box_data k d in
      rw (zeros_are (b ∷ above) ch refl, zeros_are above nx h)
      (sym (gathered-each (λ x. has_class Layer x.at && is_zero x) is_no_context entry_of above k d ch nx ∙ rw h refl))

  pub negatives_are : (above : List BoxData) (f : BoxForest) → is_none above ≡ false → (passed above f).negatives ≡ joined stack_of (gathered canvas (λ x. has_class Layer x.at && is_negative x) is_no_context above f)
  negatives_are above empty h = refl
  negatives_are above (tree k d ch nx) h =
      let b = box_data k d in
      rw (negatives_are (b ∷ above) ch refl, negatives_are above nx h)
      (sym (gathered-joined (λ x. has_class Layer x.at && is_negative x) is_no_context stack_of above k d ch nx ∙ rw h refl))

  pub positives_are : (above : List BoxData) (f : BoxForest) → is_none above ≡ false → (passed above f).positives ≡ joined stack_of (gathered canvas (λ x. has_class Layer x.at && is_positive x) is_no_context above f)
  positives_are above empty h = refl
  positives_are above (tree k d ch nx) h =
      let b = box_data k d in
      rw (positives_are (b ∷ above) ch refl, positives_are above nx h)
      (sym (gathered-joined (λ x. has_class Layer x.at && is_positive x) is_no_context stack_of above k d ch nx ∙ rw h refl))

  in_line : (c : Class) (own order : Entries Wrapper Leaf) → entries_if (is_class Inline c || is_class Atom c) (cond (is_class Atom c) order own) ≡ entries_if (is_class Inline c) own ▷ entries_if (is_class Atom c) order
  in_line Layer own order = refl
  in_line Float own order = refl
  in_line Atom own order = refl
  in_line Block own order = refl
  in_line Inline own order = sym (join-nil own)

  pub line_is : (above : List BoxData) (f : BoxForest) → is_none above ≡ false → (passed above f).line ≡ each (inline_part canvas) (gathered canvas (λ x. is_inline_level x.at) is_inline above f)
  line_is above empty h = refl
  line_is above (tree k d ch nx) h =
      let b = box_data k d in
      rw (line_is (b ∷ above) ch refl, line_is above nx h)
      (sym (gathered-each (λ x. is_inline_level x.at) is_inline (inline_part canvas) above k d ch nx ∙ rw (h, in_line _ _ _) refl))
