-- What holds of every leaf that a box paints, and of every group.
use Rattle.std.proofs.Common.{◌≡◌, refl, Bool, true, false, not, ◌&&◌, ◌||◌, cond, List, [], ◌∷◌, ◌++◌}
use Rattle.std.specs.Prelude.{filter, Option, Some, None}
use Rattle.rd_geom.specs.Plane.{Rectangle}
use Rattle.rd_style.specs.declared.kinds.Class.TheVariants.{Float, Atom, Block, Inline}
use Rattle.rd_keys.specs.declared.entry.Part.{Part}
use Rattle.rd_keys.specs.declared.entry.Part.TheVariants.{Back, Border, Content, Outline}
use Rattle.rd_item.specs.declared.leaf.Leaf.{Leaf}
use Rattle.rd_list.specs.Wrappers.{Wrapper}
use Rattle.rd_list.specs.Entries.{Entries, nil, leaf, group, ◌▷◌, each, option_entry, flat, has_leaf, only, grouped_if_any}
use Rattle.rd_tree.specs.Forest.{empty, tree}
use Rattle.rd_tree.specs.Document.{BoxForest}
use Rattle.rd_stack.specs.Paths.{BoxData, BoxPath, has_class, is_root, is_context, is_local, is_layer, is_in_line}
use Rattle.rd_stack.specs.Parts.{leaf_at}
use Rattle.rd_stack.specs.Painting.{Painted, by_level, insert_by_level, is_lower, entry_of, wrapper_of, paint_if, paint, back_border, inline_part, content_and_line, steps, layers_of, line_of, is_negative, is_positive, is_zero, is_blocky}
use Rattle.rd_stack.specs.Fresh.{box_data, Grouping, painted_at, painted, root_order}

module _ (Q : Leaf → Type 0) where
  abbrev pub OfLeaf : Option Leaf → Type 0
  OfLeaf None = Unit {0}
  OfLeaf (Some l) = Q l

  abbrev pub OfParts : Rectangle → BoxPath → Type 0
  OfParts canvas x = (part : Part) → OfLeaf (leaf_at canvas x part)

module _ (Q : Leaf → Type 0) (W : Wrapper → Type 0) where
  -- what is asked of each leaf and of each group
  abbrev pub EachEntry : Entries Wrapper Leaf → Type 0
  EachEntry nil = Unit {0}
  EachEntry (leaf l rest) = Q l × EachEntry rest
  EachEntry (group g inner rest) = W g × EachEntry inner × EachEntry rest

  leaf_join : (xs ys : Entries Wrapper Leaf) → EachEntry xs → EachEntry ys → EachEntry (xs ▷ ys)
  leaf_join nil ys h k = k
  leaf_join (leaf l xs) ys h k = (h.0, leaf_join xs ys h.1 k)
  leaf_join (group g inner xs) ys h k = (h.0, h.1, leaf_join xs ys h.2 k)

  leaf_single : (o : Option Leaf) → OfLeaf Q o → EachEntry (option_entry o)
  leaf_single None h = tt
  leaf_single (Some l) h = (h, tt)

  leaf_when : (b : Bool) (xs : Entries Wrapper Leaf) → EachEntry xs → EachEntry (paint_if b xs)
  leaf_when true xs h = h
  leaf_when false xs h = tt

  leaf_grouped : (x : Painted) → W (wrapper_of x.at) → EachEntry x.order → EachEntry (entry_of x)
  leaf_grouped x w h = by (x.grouped && has_leaf (flat x.order))
    where
      by : (b : Bool) → EachEntry (cond b (group (wrapper_of x.at) x.order nil) x.order)
      by true = (w, h, tt)
      by false = h

  -- a fact about each painted box
  abbrev AllOf : (Painted → Type 0) → List Painted → Type 0
  AllOf P [] = Unit {0}
  AllOf P (x ∷ xs) = P x × AllOf P xs

  all_filter : (P : Painted → Type 0) (p : Painted → Bool) (xs : List Painted) → AllOf P xs → AllOf P (filter p xs)
  all_filter P p [] h = tt
  all_filter P p (x ∷ xs) h = elim (p x) as (λ b. AllOf P (cond b (x ∷ filter p xs) (filter p xs))) [ true ↦ (h.0, all_filter P p xs h.1) | false ↦ all_filter P p xs h.1 ]

  all_put : (P : Painted → Type 0) (x : Painted) (ys : List Painted) → P x → AllOf P ys → AllOf P (insert_by_level x ys)
  all_put P x [] h k = (h, tt)
  all_put P x (y ∷ ys) h k = elim (is_lower y x) as (λ b. AllOf P (cond b (y ∷ insert_by_level x ys) (x ∷ y ∷ ys))) [ true ↦ (k.0, all_put P x ys h k.1) | false ↦ (h, k) ]

  all_by_level : (P : Painted → Type 0) (xs : List Painted) → AllOf P xs → AllOf P (by_level xs)
  all_by_level P [] h = tt
  all_by_level P (x ∷ xs) h = all_put P x (by_level xs) h.0 (all_by_level P xs h.1)

  all_append : (P : Painted → Type 0) (xs ys : List Painted) → AllOf P xs → AllOf P ys → AllOf P (xs ++ ys)
  all_append P [] ys h k = k
  all_append P (x ∷ xs) ys h k = (h.0, all_append P xs ys h.1 k)

  leaf_each : (P : Painted → Type 0) (f : Painted → Entries Wrapper Leaf) → ((x : Painted) → P x → EachEntry (f x)) → (xs : List Painted) → AllOf P xs → EachEntry (each f xs)
  leaf_each P f e [] h = tt
  leaf_each P f e (x ∷ xs) h = leaf_join (f x) (each f xs) (e x h.0) (leaf_each P f e xs h.1)

  module _ (canvas : Rectangle) where
    abbrev IsGood : Painted → Type 0
    IsGood x = OfParts Q canvas x.at × W (wrapper_of x.at) × EachEntry x.order

    part : (p : Part) (x : BoxPath) → OfParts Q canvas x → EachEntry (paint canvas p x)
    part p x h = leaf_single (leaf_at canvas x p) (h p)

    back : (x : BoxPath) → OfParts Q canvas x → EachEntry (back_border canvas x)
    back x h = leaf_join (paint canvas Back x) (paint canvas Border x) (part Back x h) (part Border x h)

    inline : (x : Painted) → IsGood x → EachEntry (inline_part canvas x)
    inline x h = elim (has_class Atom x.at) as (λ b. EachEntry (cond b x.order (back_border canvas x.at ▷ paint canvas Content x.at))) [
      | true ↦ h.2
      | false ↦ leaf_join (back_border canvas x.at) (paint canvas Content x.at) (back x.at h.0) (part Content x.at h.0)
    ]

    flowing : (e : BoxPath) (below : List Painted) (c : BoxPath) → AllOf IsGood below → OfParts Q canvas c → EachEntry (content_and_line canvas e below c)
    flowing e below c h k =
        leaf_join (paint canvas Content c) (each (inline_part canvas) (line_of e below c)) (part Content c k)
        (leaf_each IsGood (inline_part canvas) inline (line_of e below c) (all_filter IsGood (λ x. is_in_line e c x.at) below h))

    kind : (f : Painted → Entries Wrapper Leaf) (p q : Painted → Bool) → ((x : Painted) → IsGood x → EachEntry (f x)) → (below : List Painted) → AllOf IsGood below → EachEntry (each f (filter q (filter p below)))
    kind f p q e below h = leaf_each IsGood f e _ (all_filter IsGood q _ (all_filter IsGood p below h))

    layer : (e : BoxPath) (q : Painted → Bool) (below : List Painted) → AllOf IsGood below → EachEntry (each entry_of (by_level (filter q (layers_of e below))))
    layer e q below h = leaf_each IsGood entry_of (λ x g. leaf_grouped x g.1 g.2) _ (all_by_level IsGood _ (all_filter IsGood q _ (all_filter IsGood (λ x. is_layer e x.at) below h)))

    pub in_steps : (e : BoxPath) (below : List Painted) → OfParts Q canvas e → AllOf IsGood below → EachEntry (steps canvas e below)
    unfolding steps
    in_steps e below k h =
        leaf_join _ _ (leaf_when (is_root e) _ (part Back e k))
        (leaf_join _ _ (leaf_when (is_blocky e) _ (leaf_join _ _ (leaf_when (not (is_root e)) _ (part Back e k)) (part Border e k)))
        (leaf_join _ _ (leaf_when (is_context e) _ (layer e is_negative below h))
        (leaf_join _ _ (kind (λ x. back_border canvas x.at) (λ x. is_local e x.at) (λ x. has_class Block x.at) (λ x g. back x.at g.0) below h)
        (leaf_join _ _ (kind (λ x. x.order) (λ x. is_local e x.at) (λ x. has_class Float x.at) (λ x g. g.2) below h)
        (leaf_join _ _ (leaf_when (not (is_blocky e)) _ (leaf_join _ _ (back e k) (flowing e below e h k)))
        (leaf_join _ _ (leaf_join _ _ (leaf_when (is_blocky e) _ (flowing e below e h k))
        (kind (λ x. content_and_line canvas e below x.at) (λ x. is_local e x.at) (λ x. has_class Block x.at) (λ x g. flowing e below x.at h g.0) below h))
        (leaf_join _ _ (leaf_when (is_context e) _ (layer e is_zero below h))
        (leaf_join _ _ (leaf_when (is_context e) _ (layer e is_positive below h))
        (leaf_join _ _ (part Outline e k)
        (kind (λ x. paint canvas Outline x.at) (λ x. is_local e x.at) (λ x. has_class Block x.at || has_class Inline x.at) (λ x g. part Outline x.at g.0) below h))))))))))

    -- what is asked of a box of a forest: of its parts, and of its group
    abbrev pub OfBox : BoxPath → Type 0
    OfBox x = OfParts Q canvas x × W (wrapper_of x)

    abbrev pub EachPlace : List BoxData → BoxForest → Type 0
    EachPlace above empty = Unit {0}
    EachPlace above (tree k d below rest) = OfBox (record { above = above; here = box_data k d }) × EachPlace (box_data k d ∷ above) below × EachPlace above rest

    in_painted : (groups : Grouping) (above : List BoxData) (f : BoxForest) → EachPlace above f → AllOf IsGood (painted groups canvas above f)
    in_painted groups above empty h = tt
    in_painted groups above (tree k d below rest) h =
        let e : BoxPath = record { above = above; here = box_data k d } in
        let inside = in_painted groups (box_data k d ∷ above) below h.1 in
        ((h.0.0, h.0.1, in_steps e (painted groups canvas (box_data k d ∷ above) below) h.0.0 inside), all_append IsGood (painted groups canvas (box_data k d ∷ above) below) (painted groups canvas above rest) inside (in_painted groups above rest h.2))

    -- What holds of each box holds of every leaf that the root paints, and of every group.
    pub in_entries : (groups : Grouping) (f : BoxForest) → EachPlace [] f → EachEntry (root_order groups canvas f)
    in_entries groups empty h = tt
    in_entries groups (tree k d below rest) h =
        let e : BoxPath = record { above = []; here = box_data k d } in
        leaf_grouped (painted_at groups canvas e (painted groups canvas (box_data k d ∷ []) below)) h.0.1 (in_steps e (painted groups canvas (box_data k d ∷ []) below) h.0.0 (in_painted groups (box_data k d ∷ []) below h.1))

module _ (Q : Leaf → Type 0) where
  abbrev pub EachLeaf : Entries Wrapper Leaf → Type 0
  EachLeaf nil = Unit {0}
  EachLeaf (leaf l rest) = Q l × EachLeaf rest
  EachLeaf (group g inner rest) = EachLeaf inner × EachLeaf rest

  abbrev AnyGroup : Wrapper → Type 0
  AnyGroup g = Unit {0}

  each_leaf : (xs : Entries Wrapper Leaf) → EachEntry Q AnyGroup xs → EachLeaf xs
  each_leaf nil h = tt
  each_leaf (leaf l xs) h = (h.0, each_leaf xs h.1)
  each_leaf (group g inner xs) h = (each_leaf inner h.1, each_leaf xs h.2)

  module _ (canvas : Rectangle) where
    -- The parts of each box of a forest.
    abbrev pub EachBox : List BoxData → BoxForest → Type 0
    EachBox above empty = Unit {0}
    EachBox above (tree k d below rest) = OfParts Q canvas (record { above = above; here = box_data k d }) × EachBox (box_data k d ∷ above) below × EachBox above rest

    each_place : (above : List BoxData) (f : BoxForest) → EachBox above f → EachPlace Q AnyGroup canvas above f
    each_place above empty h = tt
    each_place above (tree k d below rest) h = ((h.0, tt), each_place (box_data k d ∷ above) below h.1, each_place above rest h.2)

    -- What holds of the parts of each box holds of every leaf that the root paints.
    pub in_order : (groups : Grouping) (f : BoxForest) → EachBox [] f → EachLeaf (root_order groups canvas f)
    in_order groups f h = each_leaf (root_order groups canvas f) (in_entries Q AnyGroup canvas groups f (each_place [] f h))

-- tests that agree on each leaf of a list leave the same of it
pub only_where : (p q : Leaf → Bool) (xs : Entries Wrapper Leaf) → EachLeaf (λ l. p l ≡ q l) xs → only p xs ≡ only q xs
only_where p q nil h = refl
only_where p q (leaf l xs) h = λ i. cond (h.0 i) (leaf l (only_where p q xs h.1 i)) (only_where p q xs h.1 i)
only_where p q (group g inner xs) h = λ i. grouped_if_any g (only_where p q inner h.0 i) (only_where p q xs h.1 i)
