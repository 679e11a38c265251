-- The contents and lines of blocks.
use Rattle.std.proofs.Common.{◌≡◌, refl, ap, ◌∙◌, sym, subst, Bool, true, false, ◌&&◌, ◌||◌, List, [], ◌∷◌, ◌++◌, append_assoc, inl, inr}
use Rattle.std.specs.Prelude.{filter}
use Rattle.std.specs.List.{list_all}
use Rattle.std.proofs.lemmas.List.{append-nil}
use Rattle.rd_geom.specs.Plane.{Rectangle}
use Rattle.rd_style.specs.declared.kinds.Class.{Class}
use Rattle.rd_style.specs.declared.kinds.Class.TheVariants.{Block, Inline}
use Rattle.rd_style.specs.Classes.{class}
use Rattle.rd_keys.specs.Keys.{BoxKey, same_key}
use Rattle.rd_keys.proofs.Keys.{same_key-sound, same_key-refl}
use Rattle.rd_keys.specs.declared.entry.Part.TheVariants.{Content}
use Rattle.rd_list.specs.Entries.{◌▷◌, each}
use Rattle.rd_tree.specs.Forest.{empty, tree, has, IsApart}
use Rattle.rd_tree.specs.Document.{BoxForest}
use Rattle.rd_tree.proofs.Linking.Standing.{cases, differs_back, apart_back, from_left, either}
use Rattle.rd_stack.specs.Paths.{BoxData, BoxPath, has_class, is_class, is_none, is_plain, is_inline, is_local, is_in_line, is_below, is_all_inline, is_inline_level, boxes_between}
use Rattle.rd_stack.specs.Painting.{Painted, paint, inline_part, content_and_line, line_of}
use Rattle.rd_stack.specs.Fresh.{box_data, grouping, painted}
use Rattle.rd_stack.proofs.Counting.Paths.{between-path, is_none-path}
use Rattle.rd_stack.proofs.Counting.InlineLines.{key_in, AreOff, in_below, in_rest, off_below}
use Rattle.rd_partial.specs.Internal.ContextLists.{entries_if}
use Rattle.rd_partial.specs.Internal.Pass.{is_of}
use Rattle.rd_partial.proofs.Pass.Gather.{painted_box, gathered, gathered-reached, filter-agree, filter-tree}
use Rattle.rd_partial.proofs.Pass.Fields.{passed, line_is, gathered-each}

pub filter-same : {A : Type 0} (p r : A → Bool) (xs : List A) → ((x : A) → p x ≡ r x) → filter p xs ≡ filter r xs
filter-same p r [] h = refl
filter-same p r (x ∷ xs) h = rw (h x, filter-same p r xs h) refl

list_all-append : {A : Type 0} (p : A → Bool) (xs ys : List A) → list_all p (xs ++ ys) ≡ list_all p xs && list_all p ys
list_all-append p [] ys = refl
list_all-append p (x ∷ xs) ys = elim (p x) as (λ t. (t && list_all p (xs ++ ys)) ≡ (t && list_all p xs) && list_all p ys) [ true ↦ list_all-append p xs ys | false ↦ refl ]

any_there : (k : BoxKey) (q : List BoxData) (b : BoxData) (above : List BoxData) → b.key ≡ k → key_in k (q ++ b ∷ above) ≡ true
any_there k [] b above e = rw (e, same_key-refl k) refl
any_there k (c ∷ q) b above e = rw (any_there k q b above e) (always (same_key c.key k))
  where
    always : (t : Bool) → (t || true) ≡ true
    always true = refl
    always false = refl

inline_plain : (q : List BoxData) → list_all is_inline q ≡ true → list_all is_plain q ≡ true
inline_plain [] h = refl
inline_plain (b ∷ q) h = elim (cases (is_inline b)) [
  | inl t ↦ rw (inline_plain q (rw t at h)) (rw t (always (is_class Block (class b.style false))))
  | inr t ↦ let k : false ≡ true = rw t at h in cc
]
  where
    always : (t : Bool) → ((t || true) && true) ≡ true
    always true = refl
    always false = refl

module _ (canvas : Rectangle) where
  -- what is in the line of c, of the boxes below it
  pub line_below : (e c : BoxPath) (f : BoxForest) (way : List BoxData) → c.here ∷ c.above ≡ way ++ e.here ∷ e.above → list_all is_plain way ≡ true
      → filter (λ x. list_all is_inline (boxes_between c x.at) && is_inline_level x.at) (painted grouping canvas (c.here ∷ c.above) f) ≡ filter (λ x. is_in_line e c x.at) (painted grouping canvas (c.here ∷ c.above) f)
  line_below e c f way h plain =
      filter-agree canvas (c.here ∷ c.above) f (λ x. list_all is_inline (boxes_between c x.at) && is_inline_level x.at) (λ x. is_in_line e c x.at)
      (λ x q g.
      let e1 : boxes_between c x.at ≡ q = between-path c x.at q g in
      let e2 : boxes_between e x.at ≡ q ++ way = between-path e x.at (q ++ way) (g ∙ ap (λ zs. q ++ zs) h ∙ sym (append_assoc q way (e.here ∷ e.above))) in
      let e3 : is_local e x.at ≡ list_all is_plain q && true = ap (list_all is_plain) e2 ∙ list_all-append is_plain q way ∙ ap (λ t. list_all is_plain q && t) plain in
      let e4 : is_below c x.at ≡ true = ap (key_in c.here.key) g ∙ any_there c.here.key q c.here c.above refl in
      rw (e1, e3, e4) (logic (list_all is_inline q) (list_all is_plain q) (is_inline_level x.at) (inline_plain q)))
    where
      logic : (i p f : Bool) → (i ≡ true → p ≡ true) → (i && f) ≡ ((p && true) && f && true && i)
      logic true true true h = refl
      logic true true false h = refl
      logic true false f h = let k : false ≡ true = h refl in cc
      logic false true true h = refl
      logic false true false h = refl
      logic false false f h = refl

  abbrev at_key : BoxKey → (Painted → Bool) → Painted → Bool
  at_key j r x = key_in j x.at.above && r x

  off : (a b : Bool) → a ≡ false → (a && b) ≡ false
  off a b h = rw h refl

  turn : (j k : BoxKey) → same_key j k ≡ false → same_key k j ≡ false
  turn j k e = elim (cases (same_key k j)) [
    | inl u ↦ let v : k ≡ j = same_key-sound k j u in let w : same_key j k ≡ true = subst (λ x. same_key j x ≡ true) (sym v) (same_key-refl j) in cc
    | inr u ↦ u
  ]

  -- below a key that is nowhere there is nothing
  none_below : (j : BoxKey) (r : Painted → Bool) (above : List BoxData) (f : BoxForest) → key_in j above ≡ false → has same_key j f ≡ false → filter (at_key j r) (painted grouping canvas above f) ≡ []
  none_below j r above empty o n = refl
  none_below j r above (tree k d ch nx) o n =
      let s : (same_key j k ≡ false) × ((has same_key j ch || has same_key j nx) ≡ false) = either (same_key j k) (has same_key j ch || has same_key j nx) n in
      let t : (has same_key j ch ≡ false) × (has same_key j nx ≡ false) = either (has same_key j ch) (has same_key j nx) s.1 in
      let b = box_data k d in
      let turned : same_key k j ≡ false = turn j k s.0 in
      let o2 : key_in j (b ∷ above) ≡ false = rw turned o in
      filter-tree canvas (at_key j r) above k d ch nx
      ∙ rw (o, none_below j r (b ∷ above) ch o2 t.0, none_below j r above nx o t.1) refl

  -- of the whole, what is below a box of the forest is in the forest
  abbrev pub IsWhole : BoxForest → List BoxData → List Painted → Type 0
  IsWhole f above whole = (j : BoxKey) → has same_key j f ≡ true → (r : Painted → Bool) → filter (at_key j r) whole ≡ filter (at_key j r) (painted grouping canvas above f)

  module _ (e : BoxPath) (whole : List Painted) where
    of_block : (c : Class) → is_class Block c ≡ true → (is_class Block c || is_class Inline c) ≡ true
    of_block c h = rw h refl

    pub contents_are : (path : List BoxData) (f : BoxForest) → list_all is_plain path ≡ true → IsApart same_key f → AreOff f (path ++ e.here ∷ e.above) → IsWhole f (path ++ e.here ∷ e.above) whole
        → (passed canvas (path ++ e.here ∷ e.above) f).contents ≡ each (λ x. content_and_line canvas e whole x.at) (gathered canvas (λ x. has_class Block x.at) is_plain (path ++ e.here ∷ e.above) f)
    contents_are path empty plain a o w = refl
    contents_are path (tree k d ch nx) plain a o w =
        let above = path ++ e.here ∷ e.above in
        let b = box_data k d in
        let x = painted_box canvas above b ch in
        let root : is_none above ≡ false = is_none-path path e.here e.above in
        let k_off : key_in k above ≡ false = o k (from_left (same_key k k) (has same_key k ch || has same_key k nx) (same_key-refl k)) in
        let o1 : AreOff ch above = λ j m. o j (in_below j k (has same_key j ch) (has same_key j nx) m) in
        let o2 : AreOff nx above = λ j m. o j (in_rest j k (has same_key j ch) (has same_key j nx) m) in
        let o3 : AreOff ch (b ∷ above) = off_below k b ch above refl a.0 o1 in
        let w1 : IsWhole ch (b ∷ above) whole = λ j m r.
        w j (in_below j k (has same_key j ch) (has same_key j nx) m) r
        ∙ filter-tree canvas (at_key j r) above k d ch nx
        ∙ rw (o1 j m, none_below j r above nx (o1 j m) (a.2 j m)) (append-nil _) in
        let w2 : IsWhole nx above whole = λ j m r.
        let not_in : has same_key j ch ≡ false = apart_back same_key same_key-sound same_key-refl ch nx a.2 j m in
        let apart : same_key k j ≡ false = differs_back same_key same_key-sound same_key-refl nx k j a.1 m in
        let off_too : key_in j (b ∷ above) ≡ false = rw apart (o2 j m) in
        w j (in_rest j k (has same_key j ch) (has same_key j nx) m) r
        ∙ filter-tree canvas (at_key j r) above k d ch nx
        ∙ rw (o2 j m, none_below j r (b ∷ above) ch off_too not_in) refl in
        let later = contents_are path nx plain a.4 o2 w2 in
        let seen = gathered-each canvas (λ y. has_class Block y.at) is_plain (λ y. content_and_line canvas e whole y.at) above k d ch nx in
        let own : entries_if (is_of Block b) (paint canvas Content x.at ▷ (passed canvas (b ∷ above) ch).line) ≡ entries_if (is_of Block b) (content_and_line canvas e whole x.at) =
        elim (cases (is_of Block b)) [
          | inl t ↦
              let way : list_all is_plain (b ∷ path) ≡ true = rw (of_block (class b.style false) t) plain in
              let in_whole : filter (λ y. is_in_line e x.at y.at) whole ≡ filter (λ y. is_in_line e x.at y.at) (painted grouping canvas (b ∷ above) ch) =
              filter-same (λ y. is_in_line e x.at y.at) (at_key k (λ y. is_in_line e x.at y.at)) whole (λ y. keyed (is_local e y.at) (is_inline_level y.at) (key_in k y.at.above) (is_all_inline x.at y.at))
              ∙ w k (from_left (same_key k k) (has same_key k ch || has same_key k nx) (same_key-refl k)) (λ y. is_in_line e x.at y.at)
              ∙ filter-tree canvas (at_key k (λ y. is_in_line e x.at y.at)) above k d ch nx
              ∙ rw (k_off, none_below k (λ y. is_in_line e x.at y.at) above nx k_off a.1)
              (append-nil _ ∙ filter-same (at_key k (λ y. is_in_line e x.at y.at)) (λ y. is_in_line e x.at y.at) (painted grouping canvas (b ∷ above) ch) (λ y. sym (keyed (is_local e y.at) (is_inline_level y.at) (key_in k y.at.above) (is_all_inline x.at y.at)))) in
              let line : (passed canvas (b ∷ above) ch).line ≡ each (inline_part canvas) (line_of e whole x.at) =
              line_is canvas (b ∷ above) ch refl
              ∙ ap (each (inline_part canvas))
              (gathered-reached canvas (λ y. is_inline_level y.at) is_inline x.at [] ch refl
              ∙ line_below e x.at ch (b ∷ path) refl way
              ∙ sym in_whole) in
              rw (t, line) refl
          | inr t ↦ rw t refl
        ] in
        let deeper : entries_if (is_plain b) (passed canvas (b ∷ above) ch).contents ≡ entries_if (is_plain b) (each (λ y. content_and_line canvas e whole y.at) (gathered canvas (λ y. has_class Block y.at) is_plain (b ∷ above) ch)) =
        elim (cases (is_plain b)) [
          | inl t ↦ ap (entries_if (is_plain b)) (contents_are (b ∷ path) ch (rw t plain) a.3 o3 w1)
          | inr t ↦ rw t refl
        ] in
        rw (own, deeper, later) (sym (seen ∙ rw root refl))
      where
        keyed : (l f k i : Bool) → (l && f && k && i) ≡ (k && (l && f && k && i))
        keyed true true true i = refl
        keyed true true false i = refl
        keyed true false true i = refl
        keyed true false false i = refl
        keyed false f true i = refl
        keyed false f false i = refl
