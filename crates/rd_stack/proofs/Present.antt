-- Every leaf of every box is painted.
use Rattle.std.proofs.Common.{◌≡◌, refl, ap, ◌∙◌, sym, subst, Bool, true, false, not, ◌&&◌, ◌||◌, cond, List, [], ◌∷◌, ◌++◌, ◌⊎◌, inl, inr, map, ℕ, ◌+◌, ◌≤◌, arith}
use Rattle.std.specs.Prelude.{filter, count_by, Option, Some, None}
use Rattle.std.proofs.lemmas.List.{map-append}
use Rattle.std.proofs.lemmas.List.Recursion.{is_count_by}
use Rattle.rd_list.specs.Lists.{same_leaf}
use Rattle.std.specs.List.{list_all, list_any}
use Rattle.rd_geom.specs.Plane.{Rectangle}
use Rattle.rd_geom.specs.Canvas.{canvas_of}
use Rattle.rd_style.specs.declared.kinds.Class.{Class}
use Rattle.rd_style.specs.declared.kinds.Class.TheVariants.{Layer, Float, Atom, Block, Inline}
use Rattle.rd_style.specs.Classes.{class, real}
use Rattle.rd_keys.specs.Keys.{BoxKey, same_key}
use Rattle.rd_keys.proofs.Keys.{same_key-refl}
use Rattle.rd_keys.specs.declared.entry.Part.{Part}
use Rattle.rd_keys.specs.declared.entry.Part.TheVariants.{Back, Border, Content, Outline}
use Rattle.rd_item.specs.declared.leaf.Leaf.{Leaf}
use Rattle.rd_graph.proofs.Lists.Listing.{Has, has_from, contains_from, has_left, has_right, has_either, has_filter}
use Rattle.rd_list.specs.Wrappers.{Wrapper}
use Rattle.rd_list.specs.Entries.{Entries, nil, leaf, group, ◌▷◌, each, option_entry, flat, has_leaf}
use Rattle.rd_tree.specs.Forest.{empty, tree}
use Rattle.rd_tree.specs.declared.node.Item.{Item}
use Rattle.rd_tree.specs.Document.{BoxForest}
use Rattle.rd_tree.specs.Drawn.{drawn}
use Rattle.rd_tree.proofs.Drawing.{apart_drawn, rooted_drawn}
use Rattle.rd_tree.proofs.Linking.Standing.{cases}
use Rattle.rd_stack.specs.Paths.{BoxData, BoxPath, is_none, is_root, is_context, is_class, has_class, is_plain, is_inline, is_no_context, is_local, is_layer, is_in_line, is_blended_layer, is_grouped}
use Rattle.rd_stack.specs.Parts.{leaf_at}
use Rattle.rd_stack.specs.Painting.{Painted, by_level, insert_by_level, is_lower, entry_of, wrapper_of, paint_if, paint, back_border, inline_part, content_and_line, steps, root_background, own_background_and_border, negative_layers, block_backgrounds, floats, inline_context, block_contents, zero_layers, positive_layers, outlines, local_boxes, layers_of, line_of, of_class, is_negative, is_positive, is_zero, is_blocky}
use Rattle.rd_stack.specs.Fresh.{box_data, Subtree, preorder, descendants, is_grouped_at, grouping, painted_at, painted, painting_order, root_order, fresh_list}
use Rattle.rd_stack.specs.Whole.{IsLeafOf, DescendantsLaw, WholeLaw}
use Rattle.rd_stack.proofs.Counting.Sums.{total}
use Rattle.rd_stack.proofs.Counting.Counted.{one, leaf_once}
use Rattle.rd_stack.proofs.Orders.Orders.{same_leaf-refl}
use Rattle.rd_stack.proofs.Counting.Paths.{between-path, is_none-path}
use Rattle.rd_stack.proofs.Counting.Takes.{unreal}
use Rattle.rd_stack.proofs.Leafwise.{EachLeaf, OfLeaf, EachBox, in_order}

both : (a b : Bool) → a ≡ true → b ≡ true → (a && b) ≡ true
both true b h k = k
both false b h k = cc

first_true : (a b : Bool) → (a && b) ≡ true → a ≡ true
first_true true b h = refl
first_true false b h = cc

second_true : (a b : Bool) → (a && b) ≡ true → b ≡ true
second_true true b h = h
second_true false b h = cc

-- Boxes in lists of boxes.
put_new : (x : Painted) (ys : List Painted) → Has (insert_by_level x ys) x
put_new x [] = inl refl
put_new x (y ∷ ys) = elim (is_lower y x) as (λ b. Has (cond b (y ∷ insert_by_level x ys) (x ∷ y ∷ ys)) x) [ true ↦ inr (put_new x ys) | false ↦ inl refl ]

put_old : (x z : Painted) (ys : List Painted) → Has ys z → Has (insert_by_level x ys) z
put_old x z [] h = absurd h
put_old x z (y ∷ ys) h = by (is_lower y x) h (put_old x z ys)
  where
    by : (b : Bool) → Has (y ∷ ys) z → (Has ys z → Has (insert_by_level x ys) z) → Has (cond b (y ∷ insert_by_level x ys) (x ∷ y ∷ ys)) z
    by true (inl e) f = inl e
    by true (inr u) f = inr (f u)
    by false h f = inr h

of_by_level : (z : Painted) (xs : List Painted) → Has xs z → Has (by_level xs) z
of_by_level z [] h = absurd h
of_by_level z (x ∷ xs) (inl e) = subst (λ y. Has (insert_by_level x (by_level xs)) y) e (put_new x (by_level xs))
of_by_level z (x ∷ xs) (inr u) = put_old x z (by_level xs) (of_by_level z xs u)

module _ (canvas : Rectangle) (l : Leaf) where
  -- is it a leaf of this box?
  abbrev IsLeafAt : BoxPath → Type 0
  IsLeafAt x = (part : Part) × (leaf_at canvas x part ≡ Some l)

  -- is it a leaf of one of the boxes?
  abbrev IsLeafIn : List BoxData → BoxForest → Type 0
  IsLeafIn above empty = ⊥
  IsLeafIn above (tree k d below rest) =
      IsLeafAt (record { above = above; here = box_data k d }) ⊎ (IsLeafIn (box_data k d ∷ above) below ⊎ IsLeafIn above rest)

  -- The leaf is in the list.
  abbrev Holds : Entries Wrapper Leaf → Type 0
  Holds nil = ⊥
  Holds (leaf m rest) = (m ≡ l) ⊎ Holds rest
  Holds (group g inner rest) = Holds inner ⊎ Holds rest

  first : (xs ys : Entries Wrapper Leaf) → Holds xs → Holds (xs ▷ ys)
  first nil ys h = absurd h
  first (leaf m xs) ys (inl e) = inl e
  first (leaf m xs) ys (inr u) = inr (first xs ys u)
  first (group g inner xs) ys (inl e) = inl e
  first (group g inner xs) ys (inr u) = inr (first xs ys u)

  second : (xs ys : Entries Wrapper Leaf) → Holds ys → Holds (xs ▷ ys)
  second nil ys h = h
  second (leaf m xs) ys h = inr (second xs ys h)
  second (group g inner xs) ys h = inr (second xs ys h)

  in_flat : (xs : Entries Wrapper Leaf) → Holds xs → Has (flat xs) l
  in_flat nil h = absurd h
  in_flat (leaf m xs) (inl e) = inl e
  in_flat (leaf m xs) (inr u) = inr (in_flat xs u)
  in_flat (group g inner xs) (inl u) = has_left (flat inner) (flat xs) l (in_flat inner u)
  in_flat (group g inner xs) (inr u) = has_right (flat inner) (flat xs) l (in_flat xs u)

  in_each : (f : Painted → Entries Wrapper Leaf) (xs : List Painted) (x : Painted) → Has xs x → Holds (f x) → Holds (each f xs)
  in_each f [] x u h = absurd u
  in_each f (y ∷ ys) x (inl e) h = first (f y) (each f ys) (subst (λ z. Holds (f z)) (sym e) h)
  in_each f (y ∷ ys) x (inr u) h = second (f y) (each f ys) (in_each f ys x u h)

  in_single : (o : Option Leaf) → o ≡ Some l → Holds (option_entry o)
  in_single None e = cc
  in_single (Some m) e = inl (is_one m e)
    where
      is_one : (m : Leaf) → let o : Option Leaf = Some m in o ≡ Some l → m ≡ l
      is_one m e = cc

  in_when : (b : Bool) (xs : Entries Wrapper Leaf) → b ≡ true → Holds xs → Holds (paint_if b xs)
  in_when true xs e h = h
  in_when false xs e h = cc

  in_grouped : (x : Painted) → Holds x.order → Holds (entry_of x)
  in_grouped x h = by (x.grouped && has_leaf (flat x.order))
    where
      by : (b : Bool) → Holds (cond b (group (wrapper_of x.at) x.order nil) x.order)
      by true = inl h
      by false = h

  abbrev Own : BoxPath → Type 0
  Own x = IsLeafAt x

  -- What is in a step of e is in what e paints.
  module _ (e : BoxPath) (whole : List Painted) where
    abbrev from10 : Entries Wrapper Leaf
    from10 = outlines canvas e whole

    abbrev from9 : Entries Wrapper Leaf
    from9 = positive_layers e whole ▷ from10

    abbrev from8 : Entries Wrapper Leaf
    from8 = zero_layers e whole ▷ from9

    abbrev from7 : Entries Wrapper Leaf
    from7 = block_contents canvas e whole ▷ from8

    abbrev from6 : Entries Wrapper Leaf
    from6 = inline_context canvas e whole ▷ from7

    abbrev from5 : Entries Wrapper Leaf
    from5 = floats e whole ▷ from6

    abbrev from4 : Entries Wrapper Leaf
    from4 = block_backgrounds canvas e whole ▷ from5

    abbrev from3 : Entries Wrapper Leaf
    from3 = negative_layers e whole ▷ from4

    abbrev from2 : Entries Wrapper Leaf
    from2 = own_background_and_border canvas e ▷ from3

    abbrev from1 : Entries Wrapper Leaf
    from1 = root_background canvas e ▷ from2

    all : Holds from1 → Holds (steps canvas e whole)
    unfolding steps
    all h = h

    past2 : Holds from2 → Holds (steps canvas e whole)
    past2 h = all (second (root_background canvas e) from2 h)

    past3 : Holds from3 → Holds (steps canvas e whole)
    past3 h = past2 (second (own_background_and_border canvas e) from3 h)

    past4 : Holds from4 → Holds (steps canvas e whole)
    past4 h = past3 (second (negative_layers e whole) from4 h)

    past5 : Holds from5 → Holds (steps canvas e whole)
    past5 h = past4 (second (block_backgrounds canvas e whole) from5 h)

    past6 : Holds from6 → Holds (steps canvas e whole)
    past6 h = past5 (second (floats e whole) from6 h)

    past7 : Holds from7 → Holds (steps canvas e whole)
    past7 h = past6 (second (inline_context canvas e whole) from7 h)

    past8 : Holds from8 → Holds (steps canvas e whole)
    past8 h = past7 (second (block_contents canvas e whole) from8 h)

    past9 : Holds from9 → Holds (steps canvas e whole)
    past9 h = past8 (second (zero_layers e whole) from9 h)

    past10 : Holds from10 → Holds (steps canvas e whole)
    past10 h = past9 (second (positive_layers e whole) from10 h)

    at1 : Holds (root_background canvas e) → Holds (steps canvas e whole)
    at1 h = all (first (root_background canvas e) from2 h)

    at2 : Holds (own_background_and_border canvas e) → Holds (steps canvas e whole)
    at2 h = past2 (first (own_background_and_border canvas e) from3 h)

    at3 : Holds (negative_layers e whole) → Holds (steps canvas e whole)
    at3 h = past3 (first (negative_layers e whole) from4 h)

    at4 : Holds (block_backgrounds canvas e whole) → Holds (steps canvas e whole)
    at4 h = past4 (first (block_backgrounds canvas e whole) from5 h)

    at5 : Holds (floats e whole) → Holds (steps canvas e whole)
    at5 h = past5 (first (floats e whole) from6 h)

    at6 : Holds (inline_context canvas e whole) → Holds (steps canvas e whole)
    at6 h = past6 (first (inline_context canvas e whole) from7 h)

    at7 : Holds (block_contents canvas e whole) → Holds (steps canvas e whole)
    at7 h = past7 (first (block_contents canvas e whole) from8 h)

    at8 : Holds (zero_layers e whole) → Holds (steps canvas e whole)
    at8 h = past8 (first (zero_layers e whole) from9 h)

    at9 : Holds (positive_layers e whole) → Holds (steps canvas e whole)
    at9 h = past9 (first (positive_layers e whole) from10 h)

    at10 : Holds (outlines canvas e whole) → Holds (steps canvas e whole)
    at10 h = past10 h

    at_own : Holds (paint_if (is_blocky e) (content_and_line canvas e whole e)) → Holds (steps canvas e whole)
    at_own h = at7 (first (paint_if (is_blocky e) (content_and_line canvas e whole e)) (each (λ x. content_and_line canvas e whole x.at) (of_class Block (local_boxes e whole))) h)

    at_blocks : Holds (each (λ x. content_and_line canvas e whole x.at) (of_class Block (local_boxes e whole))) → Holds (steps canvas e whole)
    at_blocks h = at7 (second (paint_if (is_blocky e) (content_and_line canvas e whole e)) (each (λ x. content_and_line canvas e whole x.at) (of_class Block (local_boxes e whole))) h)

    at_outline : Holds (paint canvas Outline e) → Holds (steps canvas e whole)
    at_outline h = at10 (first (paint canvas Outline e) (each (λ x. paint canvas Outline x.at) (filter (λ x. has_class Block x.at || has_class Inline x.at) (local_boxes e whole))) h)

    at_outlines : Holds (each (λ x. paint canvas Outline x.at) (filter (λ x. has_class Block x.at || has_class Inline x.at) (local_boxes e whole))) → Holds (steps canvas e whole)
    at_outlines h = at10 (second (paint canvas Outline e) (each (λ x. paint canvas Outline x.at) (filter (λ x. has_class Block x.at || has_class Inline x.at) (local_boxes e whole))) h)

    -- the box itself
    itself : Own e → Holds (steps canvas e whole)
    itself (part, o) = by part (in_single (leaf_at canvas e part) o)
      where
        by : (part : Part) → Holds (paint canvas part e) → Holds (steps canvas e whole)
        by Back h =
            elim (cases (is_root e)) [
              | inl r ↦ at1 (in_when (is_root e) (paint canvas Back e) r h)
              | inr r ↦ elim (cases (is_blocky e)) [
                | inl b ↦ at2 (in_when (is_blocky e) (paint_if (not (is_root e)) (paint canvas Back e) ▷ paint canvas Border e) b (first (paint_if (not (is_root e)) (paint canvas Back e)) (paint canvas Border e) (in_when (not (is_root e)) (paint canvas Back e) (ap not r) h)))
                | inr b ↦ at6 (in_when (not (is_blocky e)) (back_border canvas e ▷ content_and_line canvas e whole e) (ap not b) (first (back_border canvas e) (content_and_line canvas e whole e) (first (paint canvas Back e) (paint canvas Border e) h)))
              ]
            ]
        by Border h =
            elim (cases (is_blocky e)) [
              | inl b ↦ at2 (in_when (is_blocky e) (paint_if (not (is_root e)) (paint canvas Back e) ▷ paint canvas Border e) b (second (paint_if (not (is_root e)) (paint canvas Back e)) (paint canvas Border e) h))
              | inr b ↦ at6 (in_when (not (is_blocky e)) (back_border canvas e ▷ content_and_line canvas e whole e) (ap not b) (first (back_border canvas e) (content_and_line canvas e whole e) (second (paint canvas Back e) (paint canvas Border e) h)))
            ]
        by Content h =
            elim (cases (is_blocky e)) [
              | inl b ↦ at_own (in_when (is_blocky e) (content_and_line canvas e whole e) b (first (paint canvas Content e) (each (inline_part canvas) (line_of e whole e)) h))
              | inr b ↦ at6 (in_when (not (is_blocky e)) (back_border canvas e ▷ content_and_line canvas e whole e) (ap not b) (second (back_border canvas e) (content_and_line canvas e whole e) (first (paint canvas Content e) (each (inline_part canvas) (line_of e whole e)) h)))
            ]
        by Outline h = at_outline h

    -- A block or an inline box, with its outline.
    outlined : (x : Painted) → Has whole x → is_local e x.at ≡ true → (has_class Block x.at || has_class Inline x.at) ≡ true → Holds (paint canvas Outline x.at) → Holds (steps canvas e whole)
    outlined x w local c h = at_outlines (in_each (λ x. paint canvas Outline x.at) _ x (has_filter (λ x. has_class Block x.at || has_class Inline x.at) (local_boxes e whole) x (has_filter (λ x. is_local e x.at) whole x w local) c) h)

    local_of : (c : Class) (x : Painted) → Has whole x → is_local e x.at ≡ true → has_class c x.at ≡ true → Has (of_class c (local_boxes e whole)) x
    local_of c x w local k = has_filter (λ x. has_class c x.at) (local_boxes e whole) x (has_filter (λ x. is_local e x.at) whole x w local) k

    block_row : (x : Painted) → Has whole x → is_local e x.at ≡ true → has_class Block x.at ≡ true → Own x.at → Holds (steps canvas e whole)
    block_row x w local c (part, o) = by part (in_single (leaf_at canvas x.at part) o)
      where
        by : (part : Part) → Holds (paint canvas part x.at) → Holds (steps canvas e whole)
        by Back h = at4 (in_each (λ x. back_border canvas x.at) (of_class Block (local_boxes e whole)) x (local_of Block x w local c) (first (paint canvas Back x.at) (paint canvas Border x.at) h))
        by Border h = at4 (in_each (λ x. back_border canvas x.at) (of_class Block (local_boxes e whole)) x (local_of Block x w local c) (second (paint canvas Back x.at) (paint canvas Border x.at) h))
        by Content h = at_blocks (in_each (λ x. content_and_line canvas e whole x.at) (of_class Block (local_boxes e whole)) x (local_of Block x w local c) (first (paint canvas Content x.at) (each (inline_part canvas) (line_of e whole x.at)) h))
        by Outline h = outlined x w local (rw c refl) h

    -- Whose line it is: that of e, or that of a block that is local to e.
    abbrev IsOwner : BoxPath → Type 0
    IsOwner c = (c ≡ e) ⊎ ((y : Painted) × Has whole y × (y.at ≡ c) × (is_local e c ≡ true) × (has_class Block c ≡ true))

    in_line : (c : BoxPath) → IsOwner c → (x : Painted) → Has whole x → is_in_line e c x.at ≡ true → Holds (inline_part canvas x) → Holds (steps canvas e whole)
    in_line c (inl i) x w t h =
        let t2 : is_in_line e e x.at ≡ true = subst (λ z. is_in_line e z x.at ≡ true) i t in
        let there : Holds (content_and_line canvas e whole e) = second (paint canvas Content e) (each (inline_part canvas) (line_of e whole e)) (in_each (inline_part canvas) (line_of e whole e) x (has_filter (λ x. is_in_line e e x.at) whole x w t2) h) in
        elim (cases (is_blocky e)) [
          | inl b ↦ at_own (in_when (is_blocky e) (content_and_line canvas e whole e) b there)
          | inr b ↦ at6 (in_when (not (is_blocky e)) (back_border canvas e ▷ content_and_line canvas e whole e) (ap not b) (second (back_border canvas e) (content_and_line canvas e whole e) there))
        ]
    in_line c (inr (y, v, i, local, k)) x w t h =
        let t2 : is_in_line e y.at x.at ≡ true = subst (λ z. is_in_line e z x.at ≡ true) (sym i) t in
        let l2 : is_local e y.at ≡ true = subst (λ z. is_local e z ≡ true) (sym i) local in
        let k2 : has_class Block y.at ≡ true = subst (λ z. has_class Block z ≡ true) (sym i) k in
        at_blocks (in_each (λ x. content_and_line canvas e whole x.at) (of_class Block (local_boxes e whole)) y (local_of Block y v l2 k2) (second (paint canvas Content y.at) (each (inline_part canvas) (line_of e whole y.at)) (in_each (inline_part canvas) (line_of e whole y.at) x (has_filter (λ x. is_in_line e y.at x.at) whole x w t2) h)))

    layer_row : (x : Painted) → Has whole x → is_context e ≡ true → is_layer e x.at ≡ true → Holds x.order → Holds (steps canvas e whole)
    layer_row x w c t h =
        let there : Has (layers_of e whole) x = has_filter (λ x. is_layer e x.at) whole x w t in
        elim (cases (is_negative x)) [
          | inl n ↦ at3 (in_when (is_context e) _ c (in_each entry_of _ x (of_by_level x _ (has_filter is_negative (layers_of e whole) x there n)) (in_grouped x h)))
          | inr n ↦ elim (cases (is_positive x)) [
            | inl p ↦ at9 (in_when (is_context e) _ c (in_each entry_of _ x (of_by_level x _ (has_filter is_positive (layers_of e whole) x there p)) (in_grouped x h)))
            | inr p ↦ at8 (in_when (is_context e) _ c (in_each entry_of _ x (of_by_level x _ (has_filter is_zero (layers_of e whole) x there (both _ _ (ap not n) (ap not p)))) (in_grouped x h)))
          ]
        ]

  -- What a box paints of one below it: context says whether it is the stacking context, open whether only plain boxes stand between.
  abbrev Enters : Class → Bool → Bool → Type 0 → Type 0 → Type 0
  Enters Layer context unblocked O I = (context ≡ true) × (O ⊎ I)
  Enters Float context unblocked O I = (unblocked ≡ true) × (O ⊎ I)
  Enters Atom context unblocked O I = (unblocked ≡ true) × (O ⊎ I)
  Enters Block context unblocked O I = (unblocked ≡ true) × O
  Enters Inline context unblocked O I = (unblocked ≡ true) × O

  abbrev TakenOf : List BoxData → Bool → Bool → BoxForest → Type 0
  TakenOf above context unblocked empty = ⊥
  TakenOf above context unblocked (tree k d below rest) =
      let b = box_data k d in
      Enters (class b.style false) context unblocked (Own (record { above = above; here = b })) (TakenOf (b ∷ above) (real b.style false) true below)
      ⊎ (TakenOf (b ∷ above) (context && not (real b.style false)) (is_plain b && unblocked) below ⊎ TakenOf above context unblocked rest)

  enters_more : (c : Class) (x u x' u' : Bool) (O I I' : Type 0) → (x ≡ true → x' ≡ true) → (u ≡ true → u' ≡ true) → (I → I') → Enters c x u O I → Enters c x' u' O I'
  enters_more Layer x u x' u' O I I' f g h (e, inl o) = (f e, inl o)
  enters_more Layer x u x' u' O I I' f g h (e, inr i) = (f e, inr (h i))
  enters_more Float x u x' u' O I I' f g h (e, inl o) = (g e, inl o)
  enters_more Float x u x' u' O I I' f g h (e, inr i) = (g e, inr (h i))
  enters_more Atom x u x' u' O I I' f g h (e, inl o) = (g e, inl o)
  enters_more Atom x u x' u' O I I' f g h (e, inr i) = (g e, inr (h i))
  enters_more Block x u x' u' O I I' f g h (e, o) = (g e, o)
  enters_more Inline x u x' u' O I I' f g h (e, o) = (g e, o)

  taken_more : (above : List BoxData) (x u x' u' : Bool) (f : BoxForest) → (x ≡ true → x' ≡ true) → (u ≡ true → u' ≡ true) → TakenOf above x u f → TakenOf above x' u' f
  taken_more above x u x' u' empty f g t = absurd t
  taken_more above x u x' u' (tree k d below rest) f g (inl t) = inl (enters_more (class d.style false) x u x' u' _ _ _ f g (λ i. i) t)
  taken_more above x u x' u' (tree k d below rest) f g (inr (inl t)) =
      let r = real d.style false in
      let p = is_plain (box_data k d) in
      inr (inl (taken_more (box_data k d ∷ above) (x && not r) (p && u) (x' && not r) (p && u') below
      (λ e. both x' (not r) (f (first_true x (not r) e)) (second_true x (not r) e))
      (λ e. both p u' (first_true p u e) (g (second_true p u e))) t))
  taken_more above x u x' u' (tree k d below rest) f g (inr (inr t)) = inr (inr (taken_more above x u x' u' rest f g t))

  abbrev Split : List BoxData → BoxForest → Type 0
  Split above f = TakenOf above false true f ⊎ TakenOf above true false f

  all_of : (above : List BoxData) (f : BoxForest) → Split above f → TakenOf above true true f
  all_of above f (inl t) = taken_more above false true true true f (λ e. refl) (λ e. refl) t
  all_of above f (inr t) = taken_more above true false true true f (λ e. refl) (λ e. refl) t

  -- Each leaf is taken outside of the layers or inside of them.
  split : (above : List BoxData) (f : BoxForest) → IsLeafIn above f → Split above f
  split above empty h = absurd h
  split above (tree k d below rest) (inl o) = by (class d.style false) refl
    where
      by : (c : Class) → class d.style false ≡ c → Split above (tree k d below rest)
      by Layer e = inr (inl (subst (λ c. Enters c true false (Own (record { above = above; here = box_data k d })) (TakenOf (box_data k d ∷ above) (real d.style false) true below)) (sym e) (refl, inl o)))
      by Float e = inl (inl (subst (λ c. Enters c false true (Own (record { above = above; here = box_data k d })) (TakenOf (box_data k d ∷ above) (real d.style false) true below)) (sym e) (refl, inl o)))
      by Atom e = inl (inl (subst (λ c. Enters c false true (Own (record { above = above; here = box_data k d })) (TakenOf (box_data k d ∷ above) (real d.style false) true below)) (sym e) (refl, inl o)))
      by Block e = inl (inl (subst (λ c. Enters c false true (Own (record { above = above; here = box_data k d })) (TakenOf (box_data k d ∷ above) (real d.style false) true below)) (sym e) (refl, o)))
      by Inline e = inl (inl (subst (λ c. Enters c false true (Own (record { above = above; here = box_data k d })) (TakenOf (box_data k d ∷ above) (real d.style false) true below)) (sym e) (refl, o)))
  split above (tree k d below rest) (inr (inr h)) = later (split above rest h)
    where
      later : Split above rest → Split above (tree k d below rest)
      later (inl t) = inl (inr (inr t))
      later (inr t) = inr (inr (inr t))
  split above (tree k d below rest) (inr (inl h)) = by (class d.style false) refl (split (box_data k d ∷ above) below h)
    where
      b : BoxData
      b = box_data k d

      passes : (c : Class) → class d.style false ≡ c → is_class Layer c ≡ false → TakenOf (b ∷ above) true false below → Split above (tree k d below rest)
      passes c e n t =
          let r : real d.style false ≡ false = unreal d.style (ap (is_class Layer) e ∙ n) in
          inr (inr (inl (taken_more (b ∷ above) true false (true && not (real d.style false)) (is_plain b && false) below (λ _. ap not r) (λ q. absurd_false q) t)))
        where
          absurd_false : {P : Type 0} → false ≡ true → P
          absurd_false q = cc

      enters : (c : Class) → class d.style false ≡ c → Enters c false true (Own (record { above = above; here = b })) (TakenOf (b ∷ above) (real d.style false) true below) → Split above (tree k d below rest)
      enters c e t = inl (inl (subst (λ c. Enters c false true (Own (record { above = above; here = b })) (TakenOf (b ∷ above) (real d.style false) true below)) (sym e) t))

      outer : TakenOf (b ∷ above) false true below → TakenOf (b ∷ above) (real d.style false) true below
      outer t = taken_more (b ∷ above) false true (real d.style false) true below (λ q. no q) (λ q. q) t
        where
          no : {P : Type 0} → false ≡ true → P
          no q = cc

      plain_on : (c : Class) → class d.style false ≡ c → (is_class Block c || is_class Inline c) ≡ true → TakenOf (b ∷ above) false true below → Split above (tree k d below rest)
      plain_on c e p t =
          let q : is_plain b ≡ true = ap (λ c. is_class Block c || is_class Inline c) e ∙ p in
          inl (inr (inl (taken_more (b ∷ above) false true (false && not (real d.style false)) (is_plain b && true) below (λ z. z) (λ _. both (is_plain b) true q refl) t)))

      layer_in : class d.style false ≡ Layer → TakenOf (b ∷ above) (real d.style false) true below → Split above (tree k d below rest)
      layer_in e t = inr (inl (subst (λ c. Enters c true false (Own (record { above = above; here = b })) (TakenOf (b ∷ above) (real d.style false) true below)) (sym e) (refl, inr t)))

      layer_by : (r : Bool) → real d.style false ≡ r → class d.style false ≡ Layer → Split (b ∷ above) below → Split above (tree k d below rest)
      layer_by true r e s = layer_in e (taken_more (b ∷ above) true true (real d.style false) true below (λ _. r) (λ q. q) (all_of (b ∷ above) below s))
      layer_by false r e (inl t) = layer_in e (outer t)
      layer_by false r e (inr t) = inr (inr (inl (taken_more (b ∷ above) true false (true && not (real d.style false)) (is_plain b && false) below (λ _. ap not r) (λ q. none q) t)))
        where
          none : {P : Type 0} → false ≡ true → P
          none q = cc

      by : (c : Class) → class d.style false ≡ c → Split (b ∷ above) below → Split above (tree k d below rest)
      by Layer e s = layer_by (real d.style false) refl e s
      by Float e (inl t) = enters Float e (refl, inr (outer t))
      by Float e (inr t) = passes Float e refl t
      by Atom e (inl t) = enters Atom e (refl, inr (outer t))
      by Atom e (inr t) = passes Atom e refl t
      by Block e (inl t) = plain_on Block e refl t
      by Block e (inr t) = passes Block e refl t
      by Inline e (inl t) = plain_on Inline e refl t
      by Inline e (inr t) = passes Inline e refl t

  -- Whose line the boxes at the end of a path are in.
  pub record Line (e : BoxPath) (whole : List Painted) (above : List BoxData) : Type 0 where
    pub owner : BoxPath
    pub way : List BoxData
    pub is : above ≡ way ++ owner.here ∷ owner.above
    pub inline : list_all is_inline way ≡ true
    pub owns : IsOwner e whole owner

  below_owner : (way : List BoxData) (c : BoxPath) → list_any (λ b. same_key b.key c.here.key) (way ++ c.here ∷ c.above) ≡ true
  below_owner [] c = rw (same_key-refl c.here.key) refl
  below_owner (b ∷ way) c = or_true (same_key b.key c.here.key) _ (below_owner way c)
    where
      or_true : (a b : Bool) → b ≡ true → (a || b) ≡ true
      or_true true b h = refl
      or_true false b h = h

  -- A box x at the end of a path below e.
  module _ (e : BoxPath) (whole : List Painted) (path : List BoxData) (x : Painted) (is_at : x.at.above ≡ path ++ e.here ∷ e.above) (w : Has whole x) where
    not_root : is_root x.at ≡ false
    not_root = ap is_none is_at ∙ is_none-path path e.here e.above

    class_is : (c : Class) → class x.at.here.style false ≡ c → has_class c x.at ≡ is_class c c
    class_is c k = ap (λ r. is_class c (class x.at.here.style r)) not_root ∙ ap (is_class c) k

    local_is : list_all is_plain path ≡ true → is_local e x.at ≡ true
    local_is u = ap (list_all is_plain) (between-path e x.at path is_at) ∙ u

    line_is : (c : Class) → class x.at.here.style false ≡ c → (is_class Inline c || is_class Atom c) ≡ true → list_all is_plain path ≡ true → (n : Line e whole x.at.above) → is_in_line e n.owner x.at ≡ true
    line_is c k f u n =
        both _ _ (both _ _ (both _ _ (local_is u) (ap (λ r. is_class Inline (class x.at.here.style r) || is_class Atom (class x.at.here.style r)) not_root ∙ (ap (λ c. is_class Inline c || is_class Atom c) k ∙ f)))
        (ap (list_any (λ b. same_key b.key n.owner.here.key)) n.is ∙ below_owner n.way n.owner))
        (ap (list_all is_inline) (between-path n.owner x.at n.way n.is) ∙ n.inline)

    entered : (I : Type 0) → (I → Holds x.order) → (Own x.at → Holds x.order) → (list_all is_plain path ≡ true → Line e whole x.at.above)
        → (c : Class) → class x.at.here.style false ≡ c → Enters c (is_context e && list_all is_no_context path) (list_all is_plain path) (Own x.at) I → Holds (steps canvas e whole)
    entered I inside own line Layer k (t, h) =
        layer_row e whole x w (first_true _ _ t) (both _ _ (class_is Layer k) (ap (list_all is_no_context) (between-path e x.at path is_at) ∙ second_true (is_context e) _ t)) (either own inside h)
      where
        either : (Own x.at → Holds x.order) → (I → Holds x.order) → Own x.at ⊎ I → Holds x.order
        either f g (inl o) = f o
        either f g (inr i) = g i
    entered I inside own line Float k (u, h) =
        at5 e whole (in_each (λ x. x.order) _ x (local_of e whole Float x w (local_is u) (class_is Float k)) (either own inside h))
      where
        either : (Own x.at → Holds x.order) → (I → Holds x.order) → Own x.at ⊎ I → Holds x.order
        either f g (inl o) = f o
        either f g (inr i) = g i
    entered I inside own line Atom k (u, h) =
        let n = line u in
        in_line e whole n.owner n.owns x w (line_is Atom k refl u n) (subst (λ b. Holds (cond b x.order (back_border canvas x.at ▷ paint canvas Content x.at))) (sym (class_is Atom k)) (either own inside h))
      where
        either : (Own x.at → Holds x.order) → (I → Holds x.order) → Own x.at ⊎ I → Holds x.order
        either f g (inl o) = f o
        either f g (inr i) = g i
    entered I inside own line Block k (u, o) = block_row e whole x w (local_is u) (class_is Block k) o
    entered I inside own line Inline k (u, (part, o)) = by part (in_single (leaf_at canvas x.at part) o)
      where
        no_atom : has_class Atom x.at ≡ false
        no_atom = ap (λ r. is_class Atom (class x.at.here.style r)) not_root ∙ ap (is_class Atom) k

        at_line : Holds (back_border canvas x.at ▷ paint canvas Content x.at) → Holds (steps canvas e whole)
        at_line h = let n = line u in in_line e whole n.owner n.owns x w (line_is Inline k refl u n) (subst (λ b. Holds (cond b x.order (back_border canvas x.at ▷ paint canvas Content x.at))) (sym no_atom) h)

        by : (part : Part) → Holds (paint canvas part x.at) → Holds (steps canvas e whole)
        by Back h = at_line (first (back_border canvas x.at) (paint canvas Content x.at) (first (paint canvas Back x.at) (paint canvas Border x.at) h))
        by Border h = at_line (first (back_border canvas x.at) (paint canvas Content x.at) (second (paint canvas Back x.at) (paint canvas Border x.at) h))
        by Content h = at_line (second (back_border canvas x.at) (paint canvas Content x.at) h)
        by Outline h = outlined e whole x w (local_is u) (or_true (has_class Block x.at) (has_class Inline x.at) (class_is Inline k)) h
          where
            or_true : (a b : Bool) → b ≡ true → (a || b) ≡ true
            or_true true b h = refl
            or_true false b h = h

    -- the line of the boxes below x
    onward : (b : BoxData) → x.at.here ≡ b → (list_all is_plain path ≡ true → Line e whole x.at.above) → list_all is_plain (b ∷ path) ≡ true → Line e whole (x.at.here ∷ x.at.above)
    onward b i line u = by (class x.at.here.style false) refl
      where
        u2 : list_all is_plain path ≡ true
        u2 = second_true (is_plain b) (list_all is_plain path) u

        p : is_plain x.at.here ≡ true
        p = ap is_plain i ∙ first_true (is_plain b) (list_all is_plain path) u

        never : {P : Type 0} (c : Class) → class x.at.here.style false ≡ c → (is_class Block c || is_class Inline c) ≡ false → P
        never c k f = let z : is_plain x.at.here ≡ false = ap (λ c. is_class Block c || is_class Inline c) k ∙ f in cc

        by : (c : Class) → class x.at.here.style false ≡ c → Line e whole (x.at.here ∷ x.at.above)
        by Block k = record { owner = x.at; way = []; is = refl; inline = refl; owns = inr (x, w, refl, local_is u2, class_is Block k) }
        by Inline k =
            let n = line u2 in
            record { owner = n.owner; way = x.at.here ∷ n.way; is = ap (λ z. x.at.here ∷ z) n.is; inline = both (is_inline x.at.here) (list_all is_inline n.way) (ap (is_class Inline) k) n.inline; owns = n.owns }
        by Layer k = never Layer k refl
        by Float k = never Float k refl
        by Atom k = never Atom k refl

  swapped : (c a n : Bool) → ((c && a) && n) ≡ true → (c && (n && a)) ≡ true
  swapped true true true h = refl
  swapped true true false h = h
  swapped true false n h = cc
  swapped false a n h = h

  and_right : (a : Bool) → a ≡ true → (a && true) ≡ true
  and_right true h = refl
  and_right false h = h

  -- What e takes of the boxes below it is painted.
  down : (e : BoxPath) (whole : List Painted) (path : List BoxData) (f : BoxForest) → ((y : Painted) → Has (painted grouping canvas (path ++ e.here ∷ e.above) f) y → Has whole y)
      → (list_all is_plain path ≡ true → Line e whole (path ++ e.here ∷ e.above))
      → TakenOf (path ++ e.here ∷ e.above) (is_context e && list_all is_no_context path) (list_all is_plain path) f → Holds (steps canvas e whole)
  down e whole path empty sub line t = absurd t
  down e whole path (tree k d ch nx) sub line (inl t) =
      let above = path ++ e.here ∷ e.above in
      let at : BoxPath = record { above = above; here = box_data k d } in
      let p1 = painted grouping canvas (box_data k d ∷ above) ch in
      let x : Painted = painted_at grouping canvas at p1 in
      let start : list_all is_plain [] ≡ true → Line at p1 (box_data k d ∷ above) = λ _. record { owner = at; way = []; is = refl; inline = refl; owns = inl refl } in
      let context : real d.style false ≡ true → (is_context at && true) ≡ true = λ q. and_right (is_context at) (ap (real d.style) (is_none-path path e.here e.above) ∙ q) in
      entered e whole path x refl (sub x (inl refl)) (TakenOf (box_data k d ∷ above) (real d.style false) true ch)
      (λ i. down at p1 [] ch (λ y u. u) start (taken_more (box_data k d ∷ above) (real d.style false) true (is_context at && true) true ch context (λ q. q) i))
      (itself at p1) line (class d.style false) refl t
  down e whole path (tree k d ch nx) sub line (inr (inl t)) =
      let above = path ++ e.here ∷ e.above in
      let at : BoxPath = record { above = above; here = box_data k d } in
      let p1 = painted grouping canvas (box_data k d ∷ above) ch in
      let x : Painted = painted_at grouping canvas at p1 in
      down e whole (box_data k d ∷ path) ch (λ y u. sub y (inr (has_left p1 (painted grouping canvas above nx) y u)))
      (λ u. onward e whole path x refl (sub x (inl refl)) (box_data k d) refl line u)
      (taken_more (box_data k d ∷ above) ((is_context e && list_all is_no_context path) && not (real d.style false)) (is_plain (box_data k d) && list_all is_plain path)
      (is_context e && (not (real d.style false) && list_all is_no_context path)) (is_plain (box_data k d) && list_all is_plain path) ch (swapped (is_context e) (list_all is_no_context path) (not (real d.style false))) (λ q. q) t)
  down e whole path (tree k d ch nx) sub line (inr (inr t)) =
      let above = path ++ e.here ∷ e.above in
      down e whole path nx (λ y u. sub y (inr (has_right (painted grouping canvas (box_data k d ∷ above) ch) (painted grouping canvas above nx) y u))) line t

  -- Each leaf of each box is in the list of the root.
  present : (k : BoxKey) (d : Item) (f : BoxForest) → IsLeafIn [] (tree k d f empty) → Holds (root_order grouping canvas (tree k d f empty))
  present k d f h = in_grouped (painted_at grouping canvas at whole) (by h)
    where
      at : BoxPath
      at = record { above = []; here = box_data k d }

      whole : List Painted
      whole = painted grouping canvas (box_data k d ∷ []) f

      by : IsLeafIn [] (tree k d f empty) → Holds (steps canvas at whole)
      by (inl o) = itself at whole o
      by (inr (inl o)) =
          down at whole [] f (λ y u. u) (λ _. record { owner = at; way = []; is = refl; inline = refl; owns = inl refl })
          (taken_more (box_data k d ∷ []) true true (is_context at && true) true f (λ _. refl) (λ q. q) (all_of (box_data k d ∷ []) f (split (box_data k d ∷ []) f o)))
      by (inr (inr o)) = absurd o

-- Each leaf of the list is one of a box.
of_boxes : (canvas : Rectangle) (Q : Leaf → Type 0) (above : List BoxData) (f : BoxForest) → ((l : Leaf) → IsLeafIn canvas l above f → Q l) → EachBox Q canvas above f
of_boxes canvas Q above empty h = tt
of_boxes canvas Q above (tree k d below rest) h = (
  (λ part. by (leaf_at canvas (record { above = above; here = box_data k d }) part) (λ l e. h l (inl (part, e)))),
  of_boxes canvas Q (box_data k d ∷ above) below (λ l u. h l (inr (inl u))),
  of_boxes canvas Q above rest (λ l u. h l (inr (inr u))),
)
  where
    by : (o : Option Leaf) → ((l : Leaf) → o ≡ Some l → Q l) → OfLeaf Q o
    by None q = tt
    by (Some l) q = q l refl

each_at : (Q : Leaf → Type 0) (xs : Entries Wrapper Leaf) → EachLeaf Q xs → (l : Leaf) → Has (flat xs) l → Q l
each_at Q nil h l u = absurd u
each_at Q (leaf m xs) h l (inl e) = subst Q e h.0
each_at Q (leaf m xs) h l (inr u) = each_at Q xs h.1 l u
each_at Q (group g inner xs) h l u = elim (has_either (flat inner) (flat xs) l u) [ inl v ↦ each_at Q inner h.0 l v | inr v ↦ each_at Q xs h.1 l v ]

-- The boxes of a forest where they stand, as their leaves name them.
box_of : (canvas : Rectangle) (l : Leaf) (above : List BoxData) (f : BoxForest) → IsLeafIn canvas l above f → (s : Subtree) × Has (preorder above f) s × IsLeafAt canvas l s.at
box_of canvas l above empty h = absurd h
box_of canvas l above (tree k d below rest) (inl o) = (record { at = record { above = above; here = box_data k d }; below = below }, inl refl, o)
box_of canvas l above (tree k d below rest) (inr (inl u)) =
    let (s, m, o) = box_of canvas l (box_data k d ∷ above) below u in
    (s, inr (has_left (preorder (box_data k d ∷ above) below) (preorder above rest) s m), o)
box_of canvas l above (tree k d below rest) (inr (inr u)) =
    let (s, m, o) = box_of canvas l above rest u in
    (s, inr (has_right (preorder (box_data k d ∷ above) below) (preorder above rest) s m), o)

of_box : (canvas : Rectangle) (l : Leaf) (above : List BoxData) (f : BoxForest) (s : Subtree) → Has (preorder above f) s → IsLeafAt canvas l s.at → IsLeafIn canvas l above f
of_box canvas l above empty s h o = absurd h
of_box canvas l above (tree k d below rest) s (inl e) o = inl (subst (λ (z : Subtree). IsLeafAt canvas l z.at) (sym e) o)
of_box canvas l above (tree k d below rest) s (inr u) o =
    elim (has_either (preorder (box_data k d ∷ above) below) (preorder above rest) s u) [
      | inl v ↦ inr (inl (of_box canvas l (box_data k d ∷ above) below s v o))
      | inr v ↦ inr (inr (of_box canvas l above rest s v o))
    ]

-- How often a leaf comes.
counted : (p : Leaf → Bool) (xs : List Leaf) → total (λ m. one (p m)) xs ≡ count_by p xs
counted p xs = is_count_by (total (λ m. one (p m))) p refl (λ m ms. by (p m) (total (λ m. one (p m)) ms)) xs
  where
    by : (b : Bool) (n : ℕ) → one b + n ≡ cond b (1 + n) n
    by true n = refl
    by false n = omega arith

some_there : (p : Leaf → Bool) (xs : List Leaf) (l : Leaf) → Has xs l → p l ≡ true → 1 ≤ total (λ m. one (p m)) xs
some_there p [] l h e = absurd h
some_there p (m ∷ ms) l (inl i) e = let k : one (p m) ≡ 1 = ap (λ z. one (p z)) i ∙ ap one e in omega (arith, k)
some_there p (m ∷ ms) l (inr u) e = let k = some_there p ms l u e in omega (arith, k)

pub whole_list : WholeLaw
whole_list t apart0 r0 =
    let canvas = canvas_of t.canvas in
    let apart = apart_drawn [] t.boxes apart0 in
    let r = rooted_drawn t r0 in
    let list = flat (fresh_list t) in
    let there : (l : Leaf) → IsLeafIn canvas l [] (drawn t).boxes → Has list l = λ l h. in_flat canvas l (fresh_list t)
    (subst (λ z. Holds canvas l (root_order grouping canvas z)) (sym r.2) (present canvas l t.root r.0 r.1 (subst (λ z. IsLeafIn canvas l [] z) r.2 h))) in
    let back : (l : Leaf) → Has list l → IsLeafIn canvas l [] (drawn t).boxes = λ l c. each_at (λ m. IsLeafIn canvas m [] (drawn t).boxes) (fresh_list t)
    (in_order (λ m. IsLeafIn canvas m [] (drawn t).boxes) canvas grouping (drawn t).boxes (of_boxes canvas (λ m. IsLeafIn canvas m [] (drawn t).boxes) [] (drawn t).boxes (λ m u. u))) l c in
    let from_box : (l : Leaf) → IsLeafOf t l → IsLeafIn canvas l [] (drawn t).boxes = λ l o. of_box canvas l [] (drawn t).boxes o.box (has_from (preorder [] (drawn t).boxes) o.box o.there) (o.part, o.is) in
    record {
      leaves = λ l. (
        (λ o. contains_from list l (there l (from_box l o))),
        (λ c. let (s, m, (part, o)) = box_of canvas l [] (drawn t).boxes (back l (has_from list l c)) in record { box = s; part = part; there = contains_from (preorder [] (drawn t).boxes) s m; is = o }),
      );
      once = λ l o.
          let most = leaf_once canvas l (drawn t).boxes apart in
          let least = some_there (same_leaf l) list l (there l (from_box l o)) (same_leaf-refl l) in
          let n = counted (same_leaf l) list in
          omega (arith, most, least, n);
    }

-- A box of a tree with all that it paints.
abbrev painted_of : Rectangle → Subtree → Painted
painted_of canvas s = record { at = s.at; order = painting_order grouping canvas s; grouped = is_grouped_at s }

any-map : (canvas : Rectangle) (p : BoxPath → Bool) (xs : List Subtree) → list_any (λ x. p x.at) (map (painted_of canvas) xs) ≡ list_any (λ x. p x.at) xs
any-map canvas p [] = refl
any-map canvas p (x ∷ xs) = ap (λ b. p x.at || b) (any-map canvas p xs)

-- Boxes are grouped by what is below them, painted or not.
grouped-painted : (canvas : Rectangle) (s : Subtree) (xs : List Painted) → xs ≡ map (painted_of canvas) (descendants s) → grouping s.at xs ≡ is_grouped_at s
grouped-painted canvas s xs h = ap (grouping s.at) h ∙ ap (is_grouped s.at) (any-map canvas (is_blended_layer s.at) (descendants s))

painted-is : (canvas : Rectangle) (above : List BoxData) (f : BoxForest) → painted grouping canvas above f ≡ map (painted_of canvas) (preorder above f)
painted-is canvas above empty = refl
painted-is canvas above (tree k d below rest) =
    let e : BoxPath = record { above = above; here = box_data k d } in
    let low = painted-is canvas (box_data k d ∷ above) below in
    let inside : List Painted = painted grouping canvas (box_data k d ∷ above) below in
    (λ i. record { at = e; order = steps canvas e inside; grouped = grouped-painted canvas (record { at = e; below = below }) inside low i } ∷ low i ++ painted-is canvas above rest i)
    ∙ ap (λ zs. painted_of canvas (record { at = e; below = below }) ∷ zs) (sym (map-append (painted_of canvas) (preorder (box_data k d ∷ above) below) (preorder above rest)))

-- The painted boxes of a tree, of which it is told whether each is grouped.
pub grouped-below : (canvas : Rectangle) (s : Subtree) → grouping s.at (painted grouping canvas (s.at.here ∷ s.at.above) s.below) ≡ is_grouped_at s
grouped-below canvas s = grouped-painted canvas s _ (painted-is canvas (s.at.here ∷ s.at.above) s.below)

pub descending : DescendantsLaw
descending canvas e = painted-is canvas (e.at.here ∷ e.at.above) e.below
