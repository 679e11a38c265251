-- The pass over picked leaves gives the picked list.
use Rattle.std.proofs.Common.{◌≡◌, refl, ap, ◌∙◌, sym, Bool, true, false, not, ◌&&◌, cond, List, [], ◌∷◌, ◌++◌, append_assoc, ℤ}
use Rattle.std.specs.Prelude.{Option, Some, None}
use Rattle.rd_style.specs.Classes.{blocky, real}
use Rattle.rd_style.specs.declared.kinds.Class.TheVariants.{Layer, Float, Atom, Block, Inline}
use Rattle.rd_keys.specs.declared.entry.Part.{Part}
use Rattle.rd_keys.specs.declared.entry.Part.TheVariants.{Back, Border, Content, Outline}
use Rattle.rd_list.specs.Entries.{Entries, nil, leaf, group, ◌▷◌, each, flat, has_leaf, option_entry, is_empty, grouped_if_any}
use Rattle.rd_list.proofs.Joins.{join_assoc}
use Rattle.rd_list.specs.Wrappers.{Wrapper, wrapper}
use Rattle.rd_tree.specs.Forest.{empty, tree}
use Rattle.rd_tree.specs.Document.{BoxForest}
use Rattle.rd_tree.specs.Contexts.{blends_in}
use Rattle.rd_stack.specs.Paths.{BoxData, is_plain}
use Rattle.rd_stack.specs.Fresh.{box_data}
use Rattle.rd_partial.specs.Internal.ContextLists.{ContextLists, LayerOrder, ◌⊕◌, entries_if, list_if, stacked, by_level}
use Rattle.rd_partial.specs.Internal.Pass.{order_of, pass, whole, box_lists, is_one, as_group, is_of, has_negative_level, has_positive_level, has_zero_level, level_in}
use Rattle.rd_partial.specs.Internal.Picking.{picked, picked_stacks, picked_lists}
use Rattle.rd_partial.proofs.Pass.Joined.{joined}
use Rattle.rd_partial.proofs.Pass.Levels.{levels_are, none_there}

module _ {M : Type 0} where
  group-join : (w : Wrapper) (inner xs ys : Entries Wrapper M) → grouped_if_any w inner (xs ▷ ys) ≡ grouped_if_any w inner xs ▷ ys
  group-join w nil xs ys = refl
  group-join w (leaf l i) xs ys = refl
  group-join w (group j q i) xs ys = refl

  group-leaf : (w : Wrapper) (inner : Entries Wrapper M) → has_leaf (flat inner) ≡ true → grouped_if_any w inner nil ≡ group w inner nil
  group-leaf w nil h = cc
  group-leaf w (leaf l i) h = refl
  group-leaf w (group j q i) h = refl

  has_leaf-join : (xs ys : List M) → has_leaf xs ≡ true → has_leaf (xs ++ ys) ≡ true
  has_leaf-join [] ys h = cc
  has_leaf-join (x ∷ xs) ys h = refl

  -- where no group is empty a list with an entry has a leaf
  filled_group : (w : Wrapper) (inner rest : Entries Wrapper M) → has_leaf (flat inner) ≡ not (is_empty inner) → has_leaf (flat rest) ≡ not (is_empty rest)
      → has_leaf (flat (grouped_if_any w inner rest)) ≡ not (is_empty (grouped_if_any w inner rest))
  filled_group w nil rest h i = i
  filled_group w (leaf l xs) rest h i = refl
  filled_group w (group j q xs) rest h i = has_leaf-join (flat (group j q xs)) (flat rest) h

module _ {L M : Type 0} (pick : L → Option M) where
  abbrev pub on : Entries Wrapper L → Entries Wrapper M
  on xs = picked pick xs

  pub on-join : (xs ys : Entries Wrapper L) → on (xs ▷ ys) ≡ on xs ▷ on ys
  on-join nil ys = refl
  on-join (leaf l xs) ys = ap (λ zs. option_entry (pick l) ▷ zs) (on-join xs ys) ∙ sym (join_assoc (option_entry (pick l)) (on xs) (on ys))
  on-join (group w inner xs) ys = ap (grouped_if_any w (on inner)) (on-join xs ys) ∙ group-join w (on inner) (on xs) (on ys)

  pub on-so : (t : Bool) (xs : Entries Wrapper L) → on (entries_if t xs) ≡ entries_if t (on xs)
  on-so true xs = refl
  on-so false xs = refl

  pub on-filled : (xs : Entries Wrapper L) → has_leaf (flat (on xs)) ≡ not (is_empty (on xs))
  on-filled nil = refl
  on-filled (leaf l xs) = by (pick l) (on-filled xs)
    where
      by : (o : Option M) → has_leaf (flat (on xs)) ≡ not (is_empty (on xs)) → has_leaf (flat (option_entry o ▷ on xs)) ≡ not (is_empty (option_entry o ▷ on xs))
      by None h = h
      by (Some m) h = refl
  on-filled (group w inner xs) = filled_group w (on inner) (on xs) (on-filled inner) (on-filled xs)

  no_leaf : (xs ys : List L) → has_leaf (xs ++ ys) ≡ false → (has_leaf xs ≡ false) × (has_leaf ys ≡ false)
  no_leaf [] ys h = (refl, h)
  no_leaf (x ∷ xs) ys h = cc

  -- of a list without a leaf nothing is picked
  on-none : (xs : Entries Wrapper L) → has_leaf (flat xs) ≡ false → on xs ≡ nil
  on-none nil h = refl
  on-none (leaf l xs) h = cc
  on-none (group w inner xs) h =
      let s = no_leaf (flat inner) (flat xs) h in
      rw (on-none inner s.0, on-none xs s.1) refl

  pub on-group : (grouped : Bool) (b : BoxData) (order : Entries Wrapper L) → on (as_group grouped b order) ≡ as_group grouped b (on order)
  on-group grouped b order = by grouped (has_leaf (flat order)) refl
    where
      wrap : (t : Bool) → has_leaf (flat (on order)) ≡ t → grouped_if_any (wrapper b.key b.style.opacity b.style.blend) (on order) nil ≡ cond t (group (wrapper b.key b.style.opacity b.style.blend) (on order) nil) (on order)
      wrap true h = group-leaf (wrapper b.key b.style.opacity b.style.blend) (on order) h
      wrap false h =
          let e : on order ≡ nil = none_there (on order) (not_not (is_empty (on order)) (sym (on-filled order) ∙ h)) in
          rw e refl
        where
          not_not : (t : Bool) → not t ≡ false → t ≡ true
          not_not true h = refl
          not_not false h = cc

      by : (t u : Bool) → has_leaf (flat order) ≡ u → on (cond (t && u) (group (wrapper b.key b.style.opacity b.style.blend) order nil) order) ≡ cond (t && has_leaf (flat (on order))) (group (wrapper b.key b.style.opacity b.style.blend) (on order) nil) (on order)
      by false u h = refl
      by true true h = wrap (has_leaf (flat (on order))) refl
      by true false h = rw (on-none order h) refl

  -- piece by piece
  pub record On (xs : Entries Wrapper L) (us : Entries Wrapper M) : Type 0 where
    pub is : on xs ≡ us

  self : (xs : Entries Wrapper L) → On xs (on xs)
  self xs = record { is = refl }

  over : {xs ys : Entries Wrapper L} {us vs : Entries Wrapper M} → On xs us → On ys vs → On (xs ▷ ys) (us ▷ vs)
  over {xs = xs} {ys = ys} h k = record { is = on-join xs ys ∙ rw (h.is, k.is) refl }

  under_so : {xs : Entries Wrapper L} {us : Entries Wrapper M} → (t : Bool) → On xs us → On (entries_if t xs) (entries_if t us)
  under_so {xs = xs} t h = record { is = on-so t xs ∙ ap (entries_if t) h.is }

  stacks-append : (xs ys : List (LayerOrder L)) → picked_stacks pick (xs ++ ys) ≡ picked_stacks pick xs ++ picked_stacks pick ys
  stacks-append [] ys = refl
  stacks-append (x ∷ xs) ys = ap (λ zs. stacked x.level (on x.order) ++ zs) (stacks-append xs ys) ∙ sym (append_assoc (stacked x.level (on x.order)) (picked_stacks pick xs) (picked_stacks pick ys))

  stacks-some : (t : Bool) (xs : List (LayerOrder L)) → picked_stacks pick (list_if t xs) ≡ list_if t (picked_stacks pick xs)
  stacks-some true xs = refl
  stacks-some false xs = refl

  stacks-one : (n : ℤ) (order : Entries Wrapper L) → picked_stacks pick (stacked n order) ≡ stacked n (on order)
  stacks-one n order = by (is_empty order) refl
    where
      append_none : {A : Type 0} (xs : List A) → xs ++ [] ≡ xs
      append_none [] = refl
      append_none (x ∷ xs) = ap (λ zs. x ∷ zs) (append_none xs)

      by : (t : Bool) → is_empty order ≡ t → picked_stacks pick (list_if (not t) (record { level = n; order = order } ∷ [])) ≡ stacked n (on order)
      by true e = rw (none_there order e) refl
      by false e = append_none (stacked n (on order))

  on-each : (ys : List (LayerOrder L)) → on (each (λ y. y.order) ys) ≡ each (λ (y : LayerOrder L). on y.order) ys
  on-each [] = refl
  on-each (y ∷ ys) = on-join y.order (each (λ z. z.order) ys) ∙ ap (λ zs. on y.order ▷ zs) (on-each ys)

  stacks-joined : (ys : List (LayerOrder L)) → picked_stacks pick ys ≡ joined (λ (y : LayerOrder L). stacked y.level (on y.order)) ys
  stacks-joined [] = refl
  stacks-joined (y ∷ ys) = ap (λ zs. stacked y.level (on y.order) ++ zs) (stacks-joined ys)

  on-levels : (ys : List (LayerOrder L)) → each (λ y. y.order) (by_level (picked_stacks pick ys)) ≡ on (each (λ y. y.order) (by_level ys))
  on-levels ys =
      ap (λ zs. each (λ y. y.order) (by_level zs)) (stacks-joined ys)
      ∙ levels_are (λ (y : LayerOrder L). y.level) (λ (y : LayerOrder L). on y.order) ys
      ∙ sym (on-each (by_level ys))

  module _ {S : Type 0} (enter : S → BoxData → S) (give : S → BoxData → Part → Entries Wrapper L) where
    abbrev pub give_on : S → BoxData → Part → Entries Wrapper M
    give_on s b part = on (give s b part)

    part : (s : S) (b : BoxData) (p : Part) → On (give s b p) (give_on s b p)
    part s b p = self (give s b p)

    levels : (ys : List (LayerOrder L)) → On (each (λ y. y.order) (by_level ys)) (each (λ y. y.order) (by_level (picked_stacks pick ys)))
    levels ys = record { is = sym (on-levels ys) }

    pub on-order : (root : Bool) (s : S) (b : BoxData) (below : ContextLists L) → On (order_of enter give root s b below) (order_of enter give_on root s b (picked_lists pick below))
    on-order root s b below =
        over (under_so root (part s b Back))
        (over (under_so (blocky b.style root) (over (under_so (not root) (part s b Back)) (part s b Border)))
        (over (under_so (real b.style root) (levels below.negatives))
        (over (self below.backgrounds)
        (over (self below.floats)
        (over (under_so (not (blocky b.style root)) (over (over (part s b Back) (part s b Border)) (over (part s b Content) (self below.line))))
        (over (under_so (blocky b.style root) (over (part s b Content) (self below.line)))
        (over (self below.contents)
        (over (under_so (real b.style root) (self below.zeros))
        (over (under_so (real b.style root) (levels below.positives))
        (over (part s b Outline) (self below.outlines)))))))))))

    abbrev pub pb : ContextLists L → ContextLists M
    pb below = picked_lists pick below

    same_lists : (a b : ContextLists M) → a.negatives ≡ b.negatives → a.backgrounds ≡ b.backgrounds → a.floats ≡ b.floats → a.line ≡ b.line → a.contents ≡ b.contents → a.zeros ≡ b.zeros → a.positives ≡ b.positives → a.outlines ≡ b.outlines → a ≡ b
    same_lists a b h1 h2 h3 h4 h5 h6 h7 h8 = of_parts a.negatives b.negatives a.backgrounds b.backgrounds a.floats b.floats a.line b.line a.contents b.contents a.zeros b.zeros a.positives b.positives a.outlines b.outlines h1 h2 h3 h4 h5 h6 h7 h8
      where
        of_parts : (u u2 : List (LayerOrder M)) (k k2 f f2 l l2 w w2 z z2 : Entries Wrapper M) (o o2 : List (LayerOrder M)) (t t2 : Entries Wrapper M) → u ≡ u2 → k ≡ k2 → f ≡ f2 → l ≡ l2 → w ≡ w2 → z ≡ z2 → o ≡ o2 → t ≡ t2
            → ◌≡◌ {A = ContextLists M} (record { negatives = u; backgrounds = k; floats = f; line = l; contents = w; zeros = z; positives = o; outlines = t }) (record { negatives = u2; backgrounds = k2; floats = f2; line = l2; contents = w2; zeros = z2; positives = o2; outlines = t2 })
        of_parts u u2 k k2 f f2 l l2 w w2 z z2 o o2 t t2 h1 h2 h3 h4 h5 h6 h7 h8 = rw (h1, h2, h3, h4, h5, h6, h7, h8) refl

    on-box : (s : S) (b : BoxData) (grouped : Bool) (order : Entries Wrapper L) (below : ContextLists L) → pb (box_lists enter give s b grouped order below) ≡ box_lists enter give_on s b grouped (on order) (pb below)
    on-box s b grouped order below =
        let back_border = over (part s b Back) (part s b Border) in
        let h2 = over (under_so (is_of Block b) back_border) (under_so (is_plain b) (self below.backgrounds)) in
        let h3 = over (under_so (is_of Float b) (self order)) (under_so (is_plain b) (self below.floats)) in
        let h4 = over (over (under_so (is_of Inline b) (over back_border (part s b Content))) (under_so (is_of Atom b) (self order))) (under_so (is_of Inline b) (self below.line)) in
        let h5 = over (under_so (is_of Block b) (over (part s b Content) (self below.line))) (under_so (is_plain b) (self below.contents)) in
        let entry : On (as_group grouped b order) (as_group grouped b (on order)) = record { is = on-group grouped b order } in
        let h6 = over (under_so (is_of Layer b && has_zero_level b) entry) (under_so (not (real b.style false)) (self below.zeros)) in
        let h8 = over (under_so (is_plain b) (part s b Outline)) (under_so (is_plain b) (self below.outlines)) in
        same_lists (pb (box_lists enter give s b grouped order below)) (box_lists enter give_on s b grouped (on order) (pb below))
        (layers (is_of Layer b && has_negative_level b) below.negatives) h2.is h3.is h4.is h5.is h6.is (layers (is_of Layer b && has_positive_level b) below.positives) h8.is
      where
        layers : (t : Bool) (below_of : List (LayerOrder L)) → picked_stacks pick (list_if t (stacked (level_in b) (as_group grouped b order)) ++ list_if (not (real b.style false)) below_of)
            ≡ list_if t (stacked (level_in b) (as_group grouped b (on order))) ++ list_if (not (real b.style false)) (picked_stacks pick below_of)
        layers t below_of =
            stacks-append (list_if t (stacked (level_in b) (as_group grouped b order))) (list_if (not (real b.style false)) below_of)
            ∙ rw (stacks-some t (stacked (level_in b) (as_group grouped b order)), stacks-some (not (real b.style false)) below_of, stacks-one (level_in b) (as_group grouped b order), on-group grouped b order) refl

    on-add : (x y : ContextLists L) → pb (x ⊕ y) ≡ pb x ⊕ pb y
    on-add x y =
        same_lists (pb (x ⊕ y)) (pb x ⊕ pb y) (stacks-append x.negatives y.negatives) (on-join x.backgrounds y.backgrounds) (on-join x.floats y.floats) (on-join x.line y.line) (on-join x.contents y.contents) (on-join x.zeros y.zeros) (stacks-append x.positives y.positives) (on-join x.outlines y.outlines)

    pub on-pass : (s : S) (f : BoxForest) → pb (pass enter give s f) ≡ pass enter give_on s f
    on-pass s empty = refl
    on-pass s (tree k d ch nx) =
        let b = box_data k d in
        let below = pass enter give (enter s b) ch in
        let order = order_of enter give false s b below in
        let one = is_one false (blends_in ch) b in
        on-add (box_lists enter give s b one order below) (pass enter give s nx)
        ∙ ap (λ z. z ⊕ pb (pass enter give s nx)) (on-box s b one order below)
        ∙ ap (λ z. box_lists enter give_on s b one z (pb below) ⊕ pb (pass enter give s nx)) ((on-order false s b below).is)
        ∙ ap (λ z. box_lists enter give_on s b one (order_of enter give_on false s b z) z ⊕ pb (pass enter give s nx)) (on-pass (enter s b) ch)
        ∙ ap (λ z. box_lists enter give_on s b one (order_of enter give_on false s b (pass enter give_on (enter s b) ch)) (pass enter give_on (enter s b) ch) ⊕ z) (on-pass s nx)

    pub on-whole : (s : S) (f : BoxForest) → on (whole enter give s f) ≡ whole enter give_on s f
    on-whole s empty = refl
    on-whole s (tree k d ch nx) =
        let b = box_data k d in
        let below = pass enter give (enter s b) ch in
        let one = is_one true (blends_in ch) b in
        on-group one b (order_of enter give true s b below) ∙ ap (as_group one b) ((on-order true s b below).is ∙ ap (order_of enter give_on true s b) (on-pass (enter s b) ch))
