-- The leaves of touched boxes in a fresh list are those that a walk to the touched boxes finds.
use Rattle.std.proofs.Common.{◌≡◌, refl, ap, ◌∙◌, sym, subst, Bool, true, false, cond, ◌&&◌, ◌||◌, ℤ, ℕ, suc, ◌+◌, List, [], ◌∷◌, length, arith}
use Rattle.std.specs.Prelude.{Option, Some, None, nat_lt, filter}
use Rattle.std.specs.List.{list_any}
use Rattle.rd_geom.specs.Plane.{Rectangle, meet, has_none}
use Rattle.rd_geom.specs.Canvas.{canvas_of}
use Rattle.rd_geom.specs.declared.color.Color.{Color}
use Rattle.rd_keys.specs.Keys.{BoxKey, same_key}
use Rattle.rd_keys.proofs.Keys.{same_key-sound, same_key-refl}
use Rattle.rd_keys.specs.declared.entry.Part.{Part}
use Rattle.rd_keys.specs.declared.entry.Part.TheVariants.{Back, Border, Content, Outline}
use Rattle.rd_item.specs.declared.leaf.Leaf.{Leaf}
use Rattle.rd_item.specs.declared.leaf.Shape.{Shape}
use Rattle.rd_item.specs.Items.{Made}
use Rattle.rd_list.specs.Wrappers.{Wrapper}
use Rattle.rd_list.specs.Entries.{Entries, nil, ◌▷◌, option_entry, flat, only}
use Rattle.rd_list.proofs.Merges.Levelling.{flat-only}
use Rattle.rd_tree.specs.Forest.{empty, tree, has, IsApart}
use Rattle.rd_tree.specs.declared.node.Item.{Item}
use Rattle.rd_tree.specs.Document.{BoxForest, Document, IsRooted, is_touched}
use Rattle.rd_tree.proofs.Linking.Standing.{from_left, from_right, differs, apart_back}
use Rattle.rd_stack.specs.Paths.{BoxData, is_none}
use Rattle.rd_stack.specs.Parts.{leaf_at, leaf_of, shown, shape_of, is_seen, takes_hits}
use Rattle.rd_stack.specs.Fresh.{box_data, drawn_list}
use Rattle.rd_partial.specs.Invalid.{shows_touched, any_shows}
use Rattle.rd_partial.specs.Internal.Counting.{leaves_in, given_of, given}
use Rattle.rd_partial.specs.Internal.Pass.{whole, is_one}
use Rattle.rd_partial.specs.Internal.Picking.{picked, made_if}
use Rattle.rd_partial.specs.Internal.Inherited.{Inherited, standing_below, at_root, below, clip_in, leaf_in}
use Rattle.rd_partial.specs.Internal.Touched.{leaf_shows, box_shows, touched_shows}
use Rattle.rd_partial.proofs.Pass.Count.{count-root}
use Rattle.rd_partial.proofs.Pass.Fields.{enter, give}
use Rattle.rd_partial.proofs.Pass.Only.{only_is, numbered_leaves}
use Rattle.rd_partial.proofs.Pass.Picked.{on-whole, give_on}
use Rattle.rd_partial.proofs.Pass.Steps.{fresh_is}
use Rattle.rd_partial.proofs.Pass.Stood.{down}
use Rattle.rd_partial.proofs.Pass.Top.{same_leaf}

-- each box of a forest is touched as its item says
abbrev Marks : (BoxKey → Bool) → BoxForest → Type 0
Marks T empty = Unit {0}
Marks T (tree k d below rest) = (T k ≡ d.touched) × Marks T below × Marks T rest

marks_of : (T : BoxKey → Bool) (f : BoxForest) → IsApart same_key f → ((j : BoxKey) → has same_key j f ≡ true → T j ≡ is_touched j f) → Marks T f
marks_of T empty a h = tt
marks_of T (tree k d ch nx) a h = (
  h k (from_left (same_key k k) (has same_key k ch || has same_key k nx) (same_key-refl k)) ∙ rw (same_key-refl k) refl,
  marks_of T ch a.3 (λ j u.
      h j (from_right (same_key j k) (has same_key j ch || has same_key j nx) (from_left (has same_key j ch) (has same_key j nx) u))
      ∙ rw (differs same_key same_key-sound same_key-refl ch j k u a.0, u) refl),
  marks_of T nx a.4 (λ j u.
      h j (from_right (same_key j k) (has same_key j ch || has same_key j nx) (from_right (has same_key j ch) (has same_key j nx) u))
      ∙ rw (differs same_key same_key-sound same_key-refl nx j k u a.1, apart_back same_key same_key-sound same_key-refl ch nx a.2 j u) refl),
)

positive : (n : ℕ) → true ≡ nat_lt 0 (suc n)
positive n = grind arith

some_filtered : {A : Type 0} (p : A → Bool) (xs : List A) → list_any p xs ≡ nat_lt 0 (length (filter p xs))
some_filtered p [] = refl
some_filtered p (x ∷ xs) = by (p x) (some_filtered p xs)
  where
    by : (t : Bool) → list_any p xs ≡ nat_lt 0 (length (filter p xs)) → (t || list_any p xs) ≡ nat_lt 0 (length (cond t (x ∷ filter p xs) (filter p xs)))
    by true h = positive (length (filter p xs))
    by false h = h

some_sum : (a b : ℕ) → nat_lt 0 (a + b) ≡ (nat_lt 0 a || nat_lt 0 b)
some_sum a b = grind arith

module _ (canvas : Rectangle) (T : BoxKey → Bool) (x y : ℤ) where
  abbrev p : Leaf → Bool
  p l = shows_touched T x y l

  abbrev pick : Leaf → Option Made
  pick l = made_if p 0 l

  abbrev given_here : List BoxData → BoxForest → ℕ
  given_here above f = given enter (give_on pick enter (give canvas)) above f

  abbrev given_own : List BoxData → BoxData → ℕ
  given_own above b = given_of enter (give_on pick enter (give canvas)) above b

  -- is the leaf picked, if there is one?
  abbrev tests : Option Leaf → Bool
  tests None = false
  tests (Some l) = p l

  one_leaf : (o : Option Leaf) → nat_lt 0 (leaves_in (picked pick (option_entry o))) ≡ tests o
  one_leaf None = refl
  one_leaf (Some l) = by (p l)
    where
      item : Made
      item = record { leaf = l; made_at = 0 }

      wrapped : Option Made → Entries Wrapper Made
      wrapped o = option_entry o ▷ nil

      by : (t : Bool) → nat_lt 0 (leaves_in (wrapped (cond t (Some item) None))) ≡ t
      by true = sym (positive 0)
      by false = refl

  and_false : (a : Bool) → false ≡ (a && false)
  and_false true = refl
  and_false false = refl

  tests_shown : (clip : Rectangle) (b : BoxData) (part : Part) (o : Option (Shape × Color)) → tests (shown clip b part o) ≡ (T b.key && leaf_shows (shown clip b part o) x y)
  tests_shown clip b part None = and_false (T b.key)
  tests_shown clip b part (Some s) =
      let made : Leaf = record { owner = b.key; part = part; visible = meet s.0.outer clip; shape = s.0; color = s.1; hits = takes_hits b.style.pointer } in
      elim (has_none (meet s.0.outer clip)) as (λ t. tests (cond t None (Some made)) ≡ (T b.key && leaf_shows (cond t None (Some made)) x y)) [ true ↦ and_false (T b.key) | false ↦ refl ]

  tests_leaf : (root : Bool) (clip : Rectangle) (b : BoxData) (part : Part) → tests (leaf_of canvas root clip b part) ≡ (T b.key && leaf_shows (leaf_of canvas root clip b part) x y)
  tests_leaf root clip b part =
      elim (is_seen b.style.visibility) as (λ t. tests (cond t (shown clip b part (shape_of canvas root b part)) None) ≡ (T b.key && leaf_shows (cond t (shown clip b part (shape_of canvas root b part)) None) x y)) [
        | true ↦ tests_shown clip b part (shape_of canvas root b part)
        | false ↦ and_false (T b.key)
      ]

  abbrev stood : List BoxData → Inherited
  stood above = standing_below canvas above

  abbrev part_shows : List BoxData → BoxData → Part → Bool
  part_shows above b part = leaf_shows (leaf_in (stood above) b part) x y

  of_part : (above : List BoxData) (b : BoxData) (part : Part) → nat_lt 0 (leaves_in (give_on pick enter (give canvas) above b part)) ≡ (T b.key && part_shows above b part)
  of_part above b part =
      one_leaf (leaf_at canvas (record { above = above; here = b }) part)
      ∙ ap tests (same_leaf canvas above b part)
      ∙ tests_leaf (is_none above) (clip_in (stood above) b.style) b part

  spread : (t a b c d : Bool) → ((((t && a) || (t && b)) || (t && c)) || (t && d)) ≡ (t && (a || (b || (c || d))))
  spread true true b c d = refl
  spread true false true c d = refl
  spread true false false true d = refl
  spread true false false false d = refl
  spread false a b c d = refl

  own_is : (above : List BoxData) (b : BoxData) → nat_lt 0 (given_own above b) ≡ (T b.key && box_shows (stood above) b x y)
  own_is above b =
      let n = λ (part : Part). leaves_in (give_on pick enter (give canvas) above b part) in
      some_sum (n Back + n Border + n Content) (n Outline)
      ∙ ap (λ z. z || nat_lt 0 (n Outline)) (some_sum (n Back + n Border) (n Content) ∙ ap (λ z. z || nat_lt 0 (n Content)) (some_sum (n Back) (n Border)))
      ∙ rw (of_part above b Back, of_part above b Border, of_part above b Content, of_part above b Outline)
      (spread (T b.key) (part_shows above b Back) (part_shows above b Border) (part_shows above b Content) (part_shows above b Outline))

  three : (a b c : Bool) → ((a || b) || c) ≡ (a || (b || c))
  three true b c = refl
  three false b c = refl

  all_is : (above : List BoxData) (f : BoxForest) → Marks T f → nat_lt 0 (given_here above f) ≡ touched_shows (stood above) f x y
  all_is above empty m = refl
  all_is above (tree k d ch nx) m =
      let b = box_data k d in
      some_sum (given_own above b + given_here (b ∷ above) ch) (given_here above nx)
      ∙ ap (λ z. z || nat_lt 0 (given_here above nx)) (some_sum (given_own above b) (given_here (b ∷ above) ch))
      ∙ three (nat_lt 0 (given_own above b)) (nat_lt 0 (given_here (b ∷ above) ch)) (nat_lt 0 (given_here above nx))
      ∙ ap (λ z. z || (nat_lt 0 (given_here (b ∷ above) ch) || nat_lt 0 (given_here above nx))) (own_is above b ∙ ap (λ z. z && box_shows (stood above) b x y) m.0)
      ∙ ap (λ z. (d.touched && box_shows (stood above) b x y) || (z || nat_lt 0 (given_here above nx))) (all_is (b ∷ above) ch m.1 ∙ ap (λ z. touched_shows z ch x y) (down canvas above b))
      ∙ ap (λ z. (d.touched && box_shows (stood above) b x y) || (touched_shows (below (stood above) b) ch x y || z)) (all_is above nx m.2)

  counted : (k : BoxKey) (d : Item) (ch : BoxForest) → leaves_in (whole enter (give_on pick enter (give canvas)) [] (tree k d ch empty)) ≡ given_here [] (tree k d ch empty)
  counted k d ch =
      let e = count-root enter (give_on pick enter (give canvas)) [] (box_data k d) (is_one true false (box_data k d)) ch in
      e ∙ no_more (given_own [] (box_data k d) + given_here (box_data k d ∷ []) ch)
    where
      no_more : (n : ℕ) → n ≡ n + 0
      no_more n = omega arith

-- so it is of a fresh list
pub fresh_shows : (t : Document) → IsRooted t → IsApart same_key t.boxes → (x y : ℤ) → any_shows t (drawn_list t) x y ≡ touched_shows (at_root (canvas_of t.canvas)) t.boxes x y
fresh_shows t r a x y =
    let canvas = canvas_of t.canvas in
    let T : BoxKey → Bool = λ k. is_touched k t.boxes in
    let q : Leaf → Bool = p canvas T x y in
    let list = drawn_list t in
    some_filtered q (flat list)
    ∙ ap (λ z. nat_lt 0 (length z)) (sym (flat-only q list))
    ∙ ap (nat_lt 0)
    (sym (ap leaves_in (only_is q 0 list) ∙ numbered_leaves 0 (only q list))
    ∙ ap (λ z. leaves_in (picked (made_if q 0) z)) (fresh_is t a)
    ∙ ap leaves_in (on-whole (made_if q 0) enter (give canvas) [] t.boxes)
    ∙ subst (λ f. leaves_in (whole enter (give_on (made_if q 0) enter (give canvas)) [] f) ≡ given_here canvas T x y [] f) (sym r.2) (counted canvas T x y t.root r.0 r.1))
    ∙ all_is canvas T x y [] t.boxes (marks_of T t.boxes a (λ j u. refl))
