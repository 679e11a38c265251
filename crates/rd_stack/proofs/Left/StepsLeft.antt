-- What is left of the twelve lists of a box is the twelve lists of what is left.
use Rattle.std.proofs.Common.{◌≡◌, refl, ap, ◌∙◌, sym, Bool, true, false, not, ◌&&◌, ◌||◌, cond, List, [], ◌∷◌, Option, Some, None, inl, inr}
use Rattle.std.specs.Prelude.{filter}
use Rattle.std.specs.List.{list_any}
use Rattle.rd_geom.specs.Plane.{Rectangle, has_none, meet}
use Rattle.rd_geom.specs.declared.color.Color.{Color}
use Rattle.rd_style.specs.declared.kinds.Class.{Class}
use Rattle.rd_style.specs.declared.kinds.Class.TheVariants.{Float, Atom, Block, Inline}
use Rattle.rd_keys.specs.Keys.{BoxKey, same_key}
use Rattle.rd_keys.proofs.Keys.{same_key-sound}
use Rattle.rd_keys.specs.declared.entry.Part.{Part}
use Rattle.rd_keys.specs.declared.entry.Part.TheVariants.{Back, Border, Content, Outline}
use Rattle.rd_item.specs.declared.leaf.Leaf.{Leaf}
use Rattle.rd_item.specs.declared.leaf.Shape.{Shape}
use Rattle.rd_list.specs.Wrappers.{Wrapper}
use Rattle.rd_list.specs.Entries.{Entries, nil, group, ◌▷◌, each, option_entry}
use Rattle.rd_list.specs.Lists.{without_touched}
use Rattle.rd_list.proofs.Merges.Levelling.{only-join}
use Rattle.rd_list.proofs.Merges.Routing.{both_true}
use Rattle.rd_tree.proofs.Linking.Standing.{cases}
use Rattle.rd_stack.specs.Paths.{BoxData, BoxPath, has_class, is_root, is_context, is_local, is_layer, is_in_line, is_inline_level, is_below, is_all_inline}
use Rattle.rd_stack.specs.Clips.{clip_of}
use Rattle.rd_stack.specs.Parts.{leaf_at, shown, shape_of, takes_hits, is_seen}
use Rattle.rd_stack.specs.Painting.{Painted, by_level, entry_of, wrapper_of, paint_if, paint, back_border, inline_part, content_and_line, steps, layers_of, line_of, is_negative, is_positive, is_zero, is_blocky}
use Rattle.rd_stack.proofs.Left.Bared.{bare_path, root-bare, context-bare, is-bare, blocky-bare, local-bare, layer-bare, in-line-bare, leaf-gone, leaf-kept}
use Rattle.rd_stack.proofs.Left.Onlies.{grouped-left}
use Rattle.rd_stack.proofs.Left.Rests.{rest_of, lighter, IsFine, AllFine, join2, when-left, filter_rest, fine_filter, each_rest, by_level_rest, fine_by_level, negative-lighter, positive-lighter, zero-lighter}

abbrev IsOwned : BoxKey → Option Leaf → Type 0
IsOwned k None = Unit {0}
IsOwned k (Some l) = l.owner ≡ k

shown-owned : (canvas : Rectangle) (x : BoxPath) (part : Part) (s : Option (Shape × Color)) → IsOwned x.here.key (shown (clip_of canvas x) x.here part s)
shown-owned canvas x part None = tt
shown-owned canvas x part (Some s) =
    let visible = meet s.0.outer (clip_of canvas x) in
    elim (has_none visible) as (λ b. IsOwned x.here.key (cond b None (Some (record { owner = x.here.key; part = part; visible = visible; shape = s.0; color = s.1; hits = takes_hits x.here.style.pointer })))) [ true ↦ tt | false ↦ refl ]

leaf-owned : (canvas : Rectangle) (x : BoxPath) (part : Part) → IsOwned x.here.key (leaf_at canvas x part)
leaf-owned canvas x part =
    elim (is_seen x.here.style.visibility) as (λ b. IsOwned x.here.key (cond b (shown (clip_of canvas x) x.here part (shape_of canvas (is_root x) x.here part)) None)) [
      | true ↦ shown-owned canvas x part (shape_of canvas (is_root x) x.here part)
      | false ↦ tt
    ]

or_later : (a b : Bool) → b ≡ true → (a || b) ≡ true
or_later true b h = refl
or_later false b h = h

module _ (cut gone : BoxKey → Bool) (within : (k : BoxKey) → cut k ≡ true → gone k ≡ true) where
  -- What is left of a is b.
  record Leaves (a b : Entries Wrapper Leaf) : Type 0 where
    holds : without_touched gone a ≡ b

  both : {a b a' b' : Entries Wrapper Leaf} → Leaves a a' → Leaves b b' → Leaves (a ▷ b) (a' ▷ b')
  both p q = record { holds = rw (only-join, p.holds, q.holds) refl }

  where_it_is : {c c' : Bool} {a a' : Entries Wrapper Leaf} → c' ≡ c → Leaves a a' → Leaves (paint_if c a) (paint_if c' a')
  where_it_is {c = c} {c' = c'} e p = record { holds = when-left cut gone c c' _ _ e p.holds }

  option_entry-left : (k : BoxKey) (o : Option Leaf) → IsOwned k o → gone k ≡ false → without_touched gone (option_entry o) ≡ option_entry o
  option_entry-left k None h g = refl
  option_entry-left k (Some l) h g = rw (h, g) refl

  option_entry-gone : (k : BoxKey) (o : Option Leaf) → IsOwned k o → gone k ≡ true → without_touched gone (option_entry o) ≡ nil
  option_entry-gone k None h g = refl
  option_entry-gone k (Some l) h g = rw (h, g) refl

  join_nil : (a b : Entries Wrapper Leaf) → without_touched gone a ≡ nil → without_touched gone b ≡ nil → without_touched gone (a ▷ b) ≡ nil
  join_nil a b p q = rw (only-join, p, q) refl

  below_cut : (c : BoxKey) (above : List BoxData) → cut c ≡ true → list_any (λ b. same_key b.key c) above ≡ true → list_any (λ b. cut b.key) above ≡ true
  below_cut c [] g h = h
  below_cut c (b ∷ bs) g h =
      elim (cases (same_key b.key c)) [
        | inl k ↦ rw (same_key-sound b.key c k, g) refl
        | inr k ↦ or_later (cut b.key) (list_any (λ b. cut b.key) bs) (below_cut c bs g (rw k at h))
      ]

  pub grouped-lighter : (x : Painted) → without_touched gone (entry_of x) ≡ entry_of (lighter cut gone x)
  grouped-lighter x = grouped-left (λ l. not (gone l.owner)) (wrapper_of x.at) x.grouped x.order

  pub grouped-gone : (x : Painted) → without_touched gone x.order ≡ nil → without_touched gone (entry_of x) ≡ nil
  grouped-gone x h = grouped-left (λ l. not (gone l.owner)) (wrapper_of x.at) (x.grouped) x.order ∙ rw h (no_group (x.grouped))
    where
      no_group : (c : Bool) → cond {A = Entries Wrapper Leaf} (c && false) (group (wrapper_of x.at) nil nil) nil ≡ nil
      no_group true = refl
      no_group false = refl

  module _ (canvas : Rectangle) where
    paint-left : (part : Part) (x : BoxPath) → without_touched gone (paint canvas part x) ≡ paint canvas part (bare_path gone x)
    paint-left part x =
        elim (cases (gone x.here.key)) [
          | inl g ↦ option_entry-gone x.here.key (leaf_at canvas x part) (leaf-owned canvas x part) g ∙ sym (ap option_entry (leaf-gone gone canvas x part g))
          | inr g ↦ option_entry-left x.here.key (leaf_at canvas x part) (leaf-owned canvas x part) g ∙ sym (ap option_entry (leaf-kept gone canvas x part g))
        ]

    paint-gone : (part : Part) (x : BoxPath) → cut x.here.key ≡ true → without_touched gone (paint canvas part x) ≡ nil
    paint-gone part x g = option_entry-gone x.here.key (leaf_at canvas x part) (leaf-owned canvas x part) (within x.here.key g)

    back-left : (x : BoxPath) → without_touched gone (back_border canvas x) ≡ back_border canvas (bare_path gone x)
    back-left x = join2 cut gone (paint canvas Back x) (paint canvas Border x) (paint canvas Back (bare_path gone x)) (paint canvas Border (bare_path gone x)) (paint-left Back x) (paint-left Border x)

    back-gone : (x : BoxPath) → cut x.here.key ≡ true → without_touched gone (back_border canvas x) ≡ nil
    back-gone x g = join_nil (paint canvas Back x) (paint canvas Border x) (paint-gone Back x g) (paint-gone Border x g)

    inline-left : (x : Painted) → IsFine cut gone x → cut x.at.here.key ≡ false → without_touched gone (inline_part canvas x) ≡ inline_part canvas (lighter cut gone x)
    inline-left x h g =
        elim (has_class Atom x.at) as (λ b. without_touched gone (cond b x.order (back_border canvas x.at ▷ paint canvas Content x.at)) ≡ cond b (without_touched gone x.order) (back_border canvas (bare_path gone x.at) ▷ paint canvas Content (bare_path gone x.at))) [
          | true ↦ refl
          | false ↦ join2 cut gone (back_border canvas x.at) (paint canvas Content x.at) (back_border canvas (bare_path gone x.at)) (paint canvas Content (bare_path gone x.at)) (back-left x.at) (paint-left Content x.at)
        ]
        ∙ ap (λ b. cond b (without_touched gone x.order) (back_border canvas (bare_path gone x.at) ▷ paint canvas Content (bare_path gone x.at))) (sym (is-bare gone Atom x.at))

    inline-gone : (x : Painted) → IsFine cut gone x → cut x.at.here.key ≡ true → without_touched gone (inline_part canvas x) ≡ nil
    inline-gone x h g =
        elim (has_class Atom x.at) as (λ b. without_touched gone (cond b x.order (back_border canvas x.at ▷ paint canvas Content x.at)) ≡ nil) [
          | true ↦ h.bare g
          | false ↦ join_nil (back_border canvas x.at) (paint canvas Content x.at) (back-gone x.at g) (paint-gone Content x.at g)
        ]

    -- boxes that all are cut off leave nothing
    each-gone : (f : Painted → Entries Wrapper Leaf) (q : Painted → Bool)
        → ((x : Painted) → IsFine cut gone x → cut x.at.here.key ≡ true → without_touched gone (f x) ≡ nil)
        → ((x : Painted) → IsFine cut gone x → q x ≡ true → cut x.at.here.key ≡ true)
        → (xs : List Painted) → AllFine cut gone xs → without_touched gone (each f (filter q xs)) ≡ nil
    each-gone f q goes are [] h = refl
    each-gone f q goes are (x ∷ xs) h =
        elim (cases (q x)) [
          | inl k ↦ rw (k, only-join, goes x h.0 (are x h.0 k)) (each-gone f q goes are xs h.1)
          | inr k ↦ rw k (each-gone f q goes are xs h.1)
        ]

    line-rest : (e : BoxPath) (below : List Painted) (c : BoxPath) → line_of (bare_path gone e) (rest_of cut gone below) (bare_path gone c) ≡ rest_of cut gone (line_of e below c)
    line-rest e below c = filter_rest cut gone (λ x. is_in_line e c x.at) (λ x. is_in_line (bare_path gone e) (bare_path gone c) x.at) (λ x. in-line-bare gone e c x.at) below

    flow-left : (e : BoxPath) (below : List Painted) (c : BoxPath) → AllFine cut gone below → without_touched gone (content_and_line canvas e below c) ≡ content_and_line canvas (bare_path gone e) (rest_of cut gone below) (bare_path gone c)
    flow-left e below c h =
        join2 cut gone (paint canvas Content c) (each (inline_part canvas) (line_of e below c)) (paint canvas Content (bare_path gone c))
        (each (inline_part canvas) (line_of (bare_path gone e) (rest_of cut gone below) (bare_path gone c))) (paint-left Content c)
        (each_rest cut gone (inline_part canvas) (inline_part canvas) inline-left inline-gone (line_of e below c) (fine_filter cut gone (λ x. is_in_line e c x.at) below h)
        ∙ ap (each (inline_part canvas)) (sym (line-rest e below c)))

    flow-gone : (e : BoxPath) (below : List Painted) (c : BoxPath) → AllFine cut gone below → cut c.here.key ≡ true → without_touched gone (content_and_line canvas e below c) ≡ nil
    flow-gone e below c h g =
        join_nil (paint canvas Content c) (each (inline_part canvas) (line_of e below c)) (paint-gone Content c g) (each-gone (inline_part canvas) (λ x. is_in_line e c x.at) inline-gone in_cut below h)
      where
        in_cut : (x : Painted) → IsFine cut gone x → is_in_line e c x.at ≡ true → cut x.at.here.key ≡ true
        in_cut x h q =
            let a = both_true (is_local e x.at && is_inline_level x.at && is_below c x.at) (is_all_inline c x.at) q in
            let b = both_true (is_local e x.at && is_inline_level x.at) (is_below c x.at) a.0 in
            h.below (below_cut c.here.key x.at.above g b.1)

    -- one of the twelve lists: what f paints for the boxes of a kind
    kind-left : (f g : Painted → Entries Wrapper Leaf) (p q p' q' : Painted → Bool)
        → ((x : Painted) → IsFine cut gone x → cut x.at.here.key ≡ false → without_touched gone (f x) ≡ g (lighter cut gone x))
        → ((x : Painted) → IsFine cut gone x → cut x.at.here.key ≡ true → without_touched gone (f x) ≡ nil)
        → ((x : Painted) → p' (lighter cut gone x) ≡ p x) → ((x : Painted) → q' (lighter cut gone x) ≡ q x)
        → (below : List Painted) → AllFine cut gone below
        → without_touched gone (each f (filter q (filter p below))) ≡ each g (filter q' (filter p' (rest_of cut gone below)))
    kind-left f g p q p' q' stays goes p-same q-same below h =
        each_rest cut gone f g stays goes _ (fine_filter cut gone q _ (fine_filter cut gone p below h))
        ∙ ap (each g) (sym (filter_rest cut gone q q' q-same (filter p below)) ∙ ap (filter q') (sym (filter_rest cut gone p p' p-same below)))

    layer-left : (e : BoxPath) (q : Painted → Bool) → ((x : Painted) → q (lighter cut gone x) ≡ q x) → (below : List Painted) → AllFine cut gone below
        → without_touched gone (each entry_of (by_level (filter q (layers_of e below)))) ≡ each entry_of (by_level (filter q (layers_of (bare_path gone e) (rest_of cut gone below))))
    layer-left e q q-same below h =
        each_rest cut gone entry_of entry_of (λ x _ _. grouped-lighter x) (λ x k g. grouped-gone x (k.bare g)) _ (fine_by_level cut gone _ (fine_filter cut gone q _ (fine_filter cut gone (λ x. is_layer e x.at) below h)))
        ∙ ap (each entry_of) (sym (by_level_rest cut gone (filter q (layers_of e below)))
        ∙ ap by_level (sym (filter_rest cut gone q q q-same (layers_of e below)) ∙ ap (filter q) (sym (filter_rest cut gone (λ x. is_layer e x.at) (λ x. is_layer (bare_path gone e) x.at) (λ x. layer-bare gone e x.at) below))))

    paint-rest : (part : Part) (x : BoxPath) → Leaves (paint canvas part x) (paint canvas part (bare_path gone x))
    paint-rest part x = record { holds = paint-left part x }

    back-rest : (x : BoxPath) → Leaves (back_border canvas x) (back_border canvas (bare_path gone x))
    back-rest x = record { holds = back-left x }

    flow-rest : (e : BoxPath) (below : List Painted) (c : BoxPath) → AllFine cut gone below → Leaves (content_and_line canvas e below c) (content_and_line canvas (bare_path gone e) (rest_of cut gone below) (bare_path gone c))
    flow-rest e below c h = record { holds = flow-left e below c h }

    kind-rest : (f g : Painted → Entries Wrapper Leaf) (p q p' q' : Painted → Bool)
        → ((x : Painted) → IsFine cut gone x → cut x.at.here.key ≡ false → without_touched gone (f x) ≡ g (lighter cut gone x))
        → ((x : Painted) → IsFine cut gone x → cut x.at.here.key ≡ true → without_touched gone (f x) ≡ nil)
        → ((x : Painted) → p' (lighter cut gone x) ≡ p x) → ((x : Painted) → q' (lighter cut gone x) ≡ q x)
        → (below : List Painted) → AllFine cut gone below
        → Leaves (each f (filter q (filter p below))) (each g (filter q' (filter p' (rest_of cut gone below))))
    kind-rest f g p q p' q' stays goes p-same q-same below h = record { holds = kind-left f g p q p' q' stays goes p-same q-same below h }

    layer-rest : (e : BoxPath) (q : Painted → Bool) → ((x : Painted) → q (lighter cut gone x) ≡ q x) → (below : List Painted) → AllFine cut gone below
        → Leaves (each entry_of (by_level (filter q (layers_of e below)))) (each entry_of (by_level (filter q (layers_of (bare_path gone e) (rest_of cut gone below)))))
    layer-rest e q q-same below h = record { holds = layer-left e q q-same below h }

    -- What is left of what e paints is what e paints over what is left.
    pub steps-left : (e : BoxPath) (below : List Painted) → AllFine cut gone below → without_touched gone (steps canvas e below) ≡ steps canvas (bare_path gone e) (rest_of cut gone below)
    unfolding steps
    steps-left e below h =
        let e' = bare_path gone e in
        let root = root-bare gone e in
        let block = blocky-bare gone e in
        let context = context-bare gone e in
        let back : Leaves (paint canvas Back e) (paint canvas Back e') = paint-rest Back e in
        let is_there : Painted → Bool = λ x. is_local e x.at in
        let is_there' : Painted → Bool = λ x. is_local e' x.at in
        let there : (x : Painted) → is_there' (lighter cut gone x) ≡ is_there x = λ x. local-bare gone e x.at in
        let of : (c : Class) (x : Painted) → has_class c (bare_path gone x.at) ≡ has_class c x.at = λ c x. is-bare gone c x.at in
        (both (where_it_is root back)
        (both (where_it_is block (both (where_it_is (ap not root) back) (paint-rest Border e)))
        (both (where_it_is context (layer-rest e is_negative (negative-lighter cut gone) below h))
        (both (kind-rest (λ x. back_border canvas x.at) (λ x. back_border canvas x.at) is_there (λ x. has_class Block x.at) is_there' (λ x. has_class Block x.at) (λ x _ k. back-left x.at) (λ x _ k. back-gone x.at k) there (of Block) below h)
        (both (kind-rest (λ x. x.order) (λ x. x.order) is_there (λ x. has_class Float x.at) is_there' (λ x. has_class Float x.at) (λ x _ k. refl) (λ x w k. w.bare k) there (of Float) below h)
        (both (where_it_is (ap not block) (both (back-rest e) (flow-rest e below e h)))
        (both (both (where_it_is block (flow-rest e below e h))
        (kind-rest (λ x. content_and_line canvas e below x.at) (λ x. content_and_line canvas e' (rest_of cut gone below) x.at) is_there (λ x. has_class Block x.at) is_there' (λ x. has_class Block x.at) (λ x _ k. flow-left e below x.at h) (λ x _ k. flow-gone e below x.at h k) there (of Block) below h))
        (both (where_it_is context (layer-rest e is_zero (zero-lighter cut gone) below h))
        (both (where_it_is context (layer-rest e is_positive (positive-lighter cut gone) below h))
        (both (paint-rest Outline e)
        (kind-rest (λ x. paint canvas Outline x.at) (λ x. paint canvas Outline x.at) is_there (λ x. has_class Block x.at || has_class Inline x.at) is_there' (λ x. has_class Block x.at || has_class Inline x.at) (λ x _ k. paint-left Outline x.at) (λ x _ k. paint-gone Outline x.at k) there (λ x. λ i. of Block x i || of Inline x i) below h))))))))))).holds

    none-both : {a b : Entries Wrapper Leaf} → Leaves a nil → Leaves b nil → Leaves (a ▷ b) nil
    none-both {a = a} {b = b} p q = record { holds = join_nil a b p.holds q.holds }

    none-when : (c : Bool) {a : Entries Wrapper Leaf} → Leaves a nil → Leaves (paint_if c a) nil
    none-when true p = p
    none-when false p = record { holds = refl }

    none-paint : (part : Part) (x : BoxPath) → cut x.here.key ≡ true → Leaves (paint canvas part x) nil
    none-paint part x g = record { holds = paint-gone part x g }

    none-back : (x : BoxPath) → cut x.here.key ≡ true → Leaves (back_border canvas x) nil
    none-back x g = record { holds = back-gone x g }

    none-flow : (e : BoxPath) (below : List Painted) (c : BoxPath) → AllFine cut gone below → cut c.here.key ≡ true → Leaves (content_and_line canvas e below c) nil
    none-flow e below c h g = record { holds = flow-gone e below c h g }

    none-each : (f : Painted → Entries Wrapper Leaf) → ((x : Painted) → IsFine cut gone x → cut x.at.here.key ≡ true → without_touched gone (f x) ≡ nil)
        → (xs : List Painted) → AllFine cut gone xs → rest_of cut gone xs ≡ [] → Leaves (each f xs) nil
    none-each f goes xs h n = record { holds = all_go xs h n }
      where
        all_go : (xs : List Painted) → AllFine cut gone xs → rest_of cut gone xs ≡ [] → without_touched gone (each f xs) ≡ nil
        all_go [] h n = refl
        all_go (x ∷ xs) h n =
            elim (cases (cut x.at.here.key)) [
              | inl k ↦ rw (only-join, goes x h.0 k) (all_go xs h.1 (rw k at n))
              | inr k ↦ let m : lighter cut gone x ∷ rest_of cut gone xs ≡ [] = rw k at n in cc
            ]

    none-filter : (q : Painted → Bool) (xs : List Painted) → rest_of cut gone xs ≡ [] → rest_of cut gone (filter q xs) ≡ []
    none-filter q [] n = refl
    none-filter q (x ∷ xs) n =
        elim (cases (cut x.at.here.key)) [
          | inl k ↦ let m : rest_of cut gone xs ≡ [] = rw k at n in elim (q x) as (λ b. rest_of cut gone (cond b (x ∷ filter q xs) (filter q xs)) ≡ []) [ true ↦ rw k (none-filter q xs m) | false ↦ none-filter q xs m ]
          | inr k ↦ let m : lighter cut gone x ∷ rest_of cut gone xs ≡ [] = rw k at n in cc
        ]

    none-kind : (f : Painted → Entries Wrapper Leaf) (p q : Painted → Bool)
        → ((x : Painted) → IsFine cut gone x → cut x.at.here.key ≡ true → without_touched gone (f x) ≡ nil)
        → (below : List Painted) → AllFine cut gone below → rest_of cut gone below ≡ []
        → Leaves (each f (filter q (filter p below))) nil
    none-kind f p q goes below h n = none-each f goes _ (fine_filter cut gone q _ (fine_filter cut gone p below h)) (none-filter q (filter p below) (none-filter p below n))

    none-layer : (e : BoxPath) (q : Painted → Bool) → (below : List Painted) → AllFine cut gone below → rest_of cut gone below ≡ []
        → Leaves (each entry_of (by_level (filter q (layers_of e below)))) nil
    none-layer e q below h n =
        none-each entry_of (λ x k g. grouped-gone x (k.bare g)) _ (fine_by_level cut gone _ (fine_filter cut gone q _ (fine_filter cut gone (λ x. is_layer e x.at) below h)))
        (sym (by_level_rest cut gone (filter q (layers_of e below))) ∙ ap by_level (none-filter q (layers_of e below) (none-filter (λ x. is_layer e x.at) below n)))

    -- A box that is cut off leaves nothing, where all below it are cut off.
    pub steps-gone : (e : BoxPath) (below : List Painted) → AllFine cut gone below → cut e.here.key ≡ true → rest_of cut gone below ≡ [] → without_touched gone (steps canvas e below) ≡ nil
    unfolding steps
    steps-gone e below h g n =
        let root = is_root e in
        let block = is_blocky e in
        let context = is_context e in
        let back = none-paint Back e g in
        let is_there : Painted → Bool = λ x. is_local e x.at in
        (none-both (none-when root back)
        (none-both (none-when block (none-both (none-when (not root) back) (none-paint Border e g)))
        (none-both (none-when context (none-layer e is_negative below h n))
        (none-both (none-kind (λ x. back_border canvas x.at) is_there (λ x. has_class Block x.at) (λ x _ k. back-gone x.at k) below h n)
        (none-both (none-kind (λ x. x.order) is_there (λ x. has_class Float x.at) (λ x w k. w.bare k) below h n)
        (none-both (none-when (not block) (none-both (none-back e g) (none-flow e below e h g)))
        (none-both (none-both (none-when block (none-flow e below e h g))
        (none-kind (λ x. content_and_line canvas e below x.at) is_there (λ x. has_class Block x.at) (λ x _ k. flow-gone e below x.at h k) below h n))
        (none-both (none-when context (none-layer e is_zero below h n))
        (none-both (none-when context (none-layer e is_positive below h n))
        (none-both (none-paint Outline e g)
        (none-kind (λ x. paint canvas Outline x.at) is_there (λ x. has_class Block x.at || has_class Inline x.at) (λ x _ k. paint-gone Outline x.at k) below h n))))))))))).holds
