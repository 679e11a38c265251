-- A list is known by the ways to its leaves, where each group comes once and has a leaf.
use Rattle.std.proofs.Common.{◌≡◌, refl, ap, ◌∙◌, sym, subst, Bool, true, false, not, ◌||◌, cond, List, [], ◌∷◌, ◌++◌, map, ◌⊎◌, inl, inr, append-nil}
use Rattle.std.specs.Prelude.{filter, Option, Some, None}
use Rattle.std.specs.List.{IsDistinct, AllByRecursion}
use Rattle.std.proofs.lemmas.Map.Keys.{IsDistinct-head, IsDistinct-tail}
use Rattle.std.proofs.lemmas.List.Elements.{filter-append}
use Rattle.rd_keys.specs.Keys.{BoxKey, same_key}
use Rattle.rd_keys.proofs.Keys.{same_key-refl}
use Rattle.rd_item.specs.declared.leaf.Leaf.{Leaf}
use Rattle.rd_list.specs.Wrappers.{Wrapper}
use Rattle.rd_list.specs.Entries.{Entries, nil, leaf, group, has_leaf, only, grouped_if_any}
use Rattle.rd_list.specs.Lists.{groups}
use Rattle.rd_list.proofs.Leafy.{has-first}
use Rattle.rd_stack.proofs.Orders.Ways.{Way, into, ways}

-- Is this the key of a group that stands in no other?
abbrev pub is_top : BoxKey → Entries Wrapper Leaf → Bool
is_top j nil = false
is_top j (leaf l rest) = is_top j rest
is_top j (group g inner rest) = same_key j g.key || is_top j rest

-- The groups at each level have different keys.
abbrev pub AreApart : Entries Wrapper Leaf → Type 0
AreApart nil = Unit {0}
AreApart (leaf l rest) = AreApart rest
AreApart (group g inner rest) = (is_top g.key rest ≡ false) × AreApart inner × AreApart rest

-- Each group has a leaf.
abbrev pub AreFilled : Entries Wrapper Leaf → Type 0
AreFilled nil = Unit {0}
AreFilled (leaf l rest) = AreFilled rest
AreFilled (group g inner rest) = (has_leaf (ways inner) ≡ true) × AreFilled inner × AreFilled rest

every_first : {A : Type 0} (P : A → Type 0) (xs ys : List A) → AllByRecursion P (xs ++ ys) → AllByRecursion P xs
every_first P [] ys h = tt
every_first P (x ∷ xs) ys h = (h.0, every_first P xs ys h.1)

every_second : {A : Type 0} (P : A → Type 0) (xs ys : List A) → AllByRecursion P (xs ++ ys) → AllByRecursion P ys
every_second P [] ys h = h
every_second P (x ∷ xs) ys h = every_second P xs ys h.1

distinct_first : {A : Type 0} (e : A → A → Bool) (xs ys : List A) → IsDistinct e (xs ++ ys) → IsDistinct e xs
unfolding IsDistinct
distinct_first e [] ys h = tt
distinct_first e (x ∷ xs) ys h = (every_first (λ y. e x y ≡ false) xs ys h.0, distinct_first e xs ys h.1)

distinct_second : {A : Type 0} (e : A → A → Bool) (xs ys : List A) → IsDistinct e (xs ++ ys) → IsDistinct e ys
unfolding IsDistinct
distinct_second e [] ys h = h
distinct_second e (x ∷ xs) ys h = distinct_second e xs ys h.1

none_top : (j : BoxKey) (xs : Entries Wrapper Leaf) → AllByRecursion (λ k. same_key j k ≡ false) (groups xs) → is_top j xs ≡ false
none_top j nil h = refl
none_top j (leaf l rest) h = none_top j rest h
none_top j (group g inner rest) h = rw h.0 (none_top j rest (every_second _ (groups inner) (groups rest) h.1))

pub apart_from : (xs : Entries Wrapper Leaf) → IsDistinct same_key (groups xs) → AreApart xs
apart_from nil d = tt
apart_from (leaf l rest) d = apart_from rest d
apart_from (group g inner rest) d =
    let h = IsDistinct-head same_key g.key (groups inner ++ groups rest) d in
    let t = IsDistinct-tail same_key g.key (groups inner ++ groups rest) d in (
      none_top g.key rest (every_second _ (groups inner) (groups rest) h),
      apart_from inner (distinct_first same_key (groups inner) (groups rest) t),
      apart_from rest (distinct_second same_key (groups inner) (groups rest) t),
    )

false_or : (a b : Bool) → (a || b) ≡ false → (a ≡ false) × (b ≡ false)
false_or true b h = cc
false_or false b h = (refl, h)

module _ (p : Leaf → Bool) where
  top_only : (j : BoxKey) (xs : Entries Wrapper Leaf) → is_top j xs ≡ false → is_top j (only p xs) ≡ false
  top_only j nil h = refl
  top_only j (leaf l rest) h = elim (p l) as (λ b. is_top j (cond b (leaf l (only p rest)) (only p rest)) ≡ false) [ true ↦ top_only j rest h | false ↦ top_only j rest h ]
  top_only j (group g inner rest) h =
      let s = false_or (same_key j g.key) (is_top j rest) h in
      by (only p inner) s.0 (top_only j rest s.1)
    where
      by : (i : Entries Wrapper Leaf) → same_key j g.key ≡ false → is_top j (only p rest) ≡ false → is_top j (grouped_if_any g i (only p rest)) ≡ false
      by nil e t = t
      by (leaf l i) e t = rw e t
      by (group g' i' i) e t = rw e t

  pub apart_only : (xs : Entries Wrapper Leaf) → AreApart xs → AreApart (only p xs)
  apart_only nil a = tt
  apart_only (leaf l rest) a = elim (p l) as (λ b. AreApart (cond b (leaf l (only p rest)) (only p rest))) [ true ↦ apart_only rest a | false ↦ apart_only rest a ]
  apart_only (group g inner rest) a = by (only p inner) (top_only g.key rest a.0) (apart_only inner a.1) (apart_only rest a.2)
    where
      by : (i : Entries Wrapper Leaf) → is_top g.key (only p rest) ≡ false → AreApart i → AreApart (only p rest) → AreApart (grouped_if_any g i (only p rest))
      by nil t u v = v
      by (leaf l i) t u v = (t, u, v)
      by (group g' i' i) t u v = (t, u, v)

  has-map : {A B : Type 0} (f : A → B) (xs : List A) → has_leaf xs ≡ true → has_leaf (map f xs) ≡ true
  has-map f [] h = cc
  has-map f (x ∷ xs) h = refl

  pub filled_only : (xs : Entries Wrapper Leaf) → AreFilled (only p xs)
  filled_only nil = tt
  filled_only (leaf l rest) = elim (p l) as (λ b. AreFilled (cond b (leaf l (only p rest)) (only p rest))) [ true ↦ filled_only rest | false ↦ filled_only rest ]
  filled_only (group g inner rest) = by (only p inner) (filled_only inner) (filled_only rest)
    where
      some : (i : Entries Wrapper Leaf) → AreFilled i → (i ≡ nil) ⊎ (has_leaf (ways i) ≡ true)
      some nil u = inl refl
      some (leaf l i) u = inr refl
      some (group g' i' i) u = inr (has-first (map (into g') (ways i')) (ways i) (has-map (into g') (ways i') u.0))

      by : (i : Entries Wrapper Leaf) → AreFilled i → AreFilled (only p rest) → AreFilled (grouped_if_any g i (only p rest))
      by nil u v = v
      by (leaf l i) u v = (refl, u, v)
      by (group g' i' i) u v = (has-first (map (into g') (ways i')) (ways i) (has-map (into g') (ways i') u.0), u, v)

-- The first way, and the group that it goes into first.
abbrev first_group : List Wrapper → Option Wrapper
first_group [] = None
first_group (g ∷ gs) = Some g

abbrev front : List Way → Option (Option Wrapper)
front [] = None
front (w ∷ ws) = Some (first_group w.0)

front_into : (g : Wrapper) (ws vs : List Way) → has_leaf ws ≡ true → front (map (into g) ws ++ vs) ≡ Some (Some g)
front_into g [] vs h = cc
front_into g (w ∷ ws) vs h = refl

-- Does the way go into this group?
abbrev is_into : BoxKey → List Wrapper → Bool
is_into j [] = false
is_into j (g ∷ gs) = same_key j g.key

abbrev goes_into : BoxKey → Way → Bool
goes_into j w = is_into j w.0

filter-all : {A : Type 0} (p : A → Bool) (xs : List A) → AllByRecursion (λ x. p x ≡ true) xs → filter p xs ≡ xs
filter-all p [] h = refl
filter-all p (x ∷ xs) h = rw h.0 (ap (λ zs. x ∷ zs) (filter-all p xs h.1))

filter-none : {A : Type 0} (p : A → Bool) (xs : List A) → AllByRecursion (λ x. p x ≡ false) xs → filter p xs ≡ []
filter-none p [] h = refl
filter-none p (x ∷ xs) h = rw h.0 (filter-none p xs h.1)

every_append : {A : Type 0} (P : A → Type 0) (xs ys : List A) → AllByRecursion P xs → AllByRecursion P ys → AllByRecursion P (xs ++ ys)
every_append P [] ys h k = k
every_append P (x ∷ xs) ys h k = (h.0, every_append P xs ys h.1 k)

all_into : (j : BoxKey) (g : Wrapper) (b : Bool) (ws : List Way) → same_key j g.key ≡ b → AllByRecursion (λ w. goes_into j w ≡ b) (map (into g) ws)
all_into j g b [] e = tt
all_into j g b (w ∷ ws) e = (e, all_into j g b ws e)

none_into : (j : BoxKey) (xs : Entries Wrapper Leaf) → is_top j xs ≡ false → AllByRecursion (λ w. goes_into j w ≡ false) (ways xs)
none_into j nil h = tt
none_into j (leaf l rest) h = (refl, none_into j rest h)
none_into j (group g inner rest) h =
    let s = false_or (same_key j g.key) (is_top j rest) h in
    every_append _ (map (into g) (ways inner)) (ways rest) (all_into j g false (ways inner) s.0) (none_into j rest s.1)

opposite : (j : BoxKey) (b : Bool) (ws : List Way) → AllByRecursion (λ w. goes_into j w ≡ b) ws → AllByRecursion (λ w. not (goes_into j w) ≡ not b) ws
opposite j b [] h = tt
opposite j b (w ∷ ws) h = (ap not h.0, opposite j b ws h.1)

module _ (j : BoxKey) (g : Wrapper) (inner rest : Entries Wrapper Leaf) (e : same_key j g.key ≡ true) (t : is_top j rest ≡ false) where
  into_part : filter (goes_into j) (map (into g) (ways inner) ++ ways rest) ≡ map (into g) (ways inner)
  into_part =
      filter-append (goes_into j) (map (into g) (ways inner)) (ways rest)
      ∙ rw (filter-all (goes_into j) (map (into g) (ways inner)) (all_into j g true (ways inner) e), filter-none (goes_into j) (ways rest) (none_into j rest t)) (append-nil _)

  past_part : filter (λ w. not (goes_into j w)) (map (into g) (ways inner) ++ ways rest) ≡ ways rest
  past_part =
      filter-append (λ w. not (goes_into j w)) (map (into g) (ways inner)) (ways rest)
      ∙ rw (
        filter-none (λ w. not (goes_into j w)) (map (into g) (ways inner)) (opposite j true (map (into g) (ways inner)) (all_into j g true (ways inner) e)),
        filter-all (λ w. not (goes_into j w)) (ways rest) (opposite j false (ways rest) (none_into j rest t)),
      ) refl

abbrev further : List Wrapper → List Wrapper
further [] = []
further (g ∷ gs) = gs

out_of : (g : Wrapper) (ws : List Way) → map (λ w. (further w.0, w.1)) (map (into g) ws) ≡ ws
out_of g [] = refl
out_of g (w ∷ ws) = ap (λ zs. w ∷ zs) (out_of g ws)

into_same : (g h : Wrapper) (ws vs : List Way) → map (into g) ws ≡ map (into h) vs → ws ≡ vs
into_same g h ws vs e = sym (out_of g ws) ∙ ap (map (λ w. (further w.0, w.1))) e ∙ out_of h vs

some_is : {A : Type 0} (a b : A) → Some a ≡ Some b → a ≡ b
some_is a b e = cc

-- A list that begins in one way does not begin in another.
none_some : {P : Type 0} (g : Option Wrapper) → let n : Option (Option Wrapper) = None in n ≡ Some g → P
none_some g e = cc

bare_into : {P : Type 0} (g : Wrapper) → let n : Option Wrapper = None in Some n ≡ Some (Some g) → P
bare_into g e = cc

pub rebuilt : (xs ys : Entries Wrapper Leaf) → AreFilled xs → AreFilled ys → AreApart xs → AreApart ys → ways xs ≡ ways ys → xs ≡ ys
rebuilt nil nil f g a b e = refl
rebuilt nil (leaf m ys) f g a b e = none_some None (ap front e)
rebuilt nil (group v' inner' ys) f g a b e = none_some (Some v') (ap front e ∙ front_into v' (ways inner') (ways ys) g.0)
rebuilt (leaf l xs) nil f g a b e = none_some None (sym (ap front e))
rebuilt (leaf l xs) (leaf m ys) f g a b e =
    let t : ways xs ≡ ways ys = cc in
    let w : l ≡ m = same_first l m (ways xs) (ways ys) e in
    let r = rebuilt xs ys f g a b t in
    λ i. leaf (w i) (r i)
  where
    same_first : (l m : Leaf) (ws vs : List Way) → ([], l) ∷ ws ≡ ([], m) ∷ vs → l ≡ m
    same_first l m ws vs e = ap (first_leaf l) e
      where
        first_leaf : Leaf → List Way → Leaf
        first_leaf d [] = d
        first_leaf d (w ∷ ws) = w.1
rebuilt (leaf l xs) (group v' inner' ys) f g a b e = bare_into v' (ap front e ∙ front_into v' (ways inner') (ways ys) g.0)
rebuilt (group v inner xs) nil f g a b e = none_some (Some v) (sym (ap front e) ∙ front_into v (ways inner) (ways xs) f.0)
rebuilt (group v inner xs) (leaf m ys) f g a b e = bare_into v (sym (ap front e) ∙ front_into v (ways inner) (ways xs) f.0)
rebuilt (group v inner xs) (group v' inner' ys) f g a b e =
    let h : Some (Some v) ≡ Some (Some v') = sym (front_into v (ways inner) (ways xs) f.0) ∙ (ap front e ∙ front_into v' (ways inner') (ways ys) g.0) in
    let u : v ≡ v' = some_is _ _ (some_is _ _ h) in
    let s : same_key v.key v'.key ≡ true = subst (λ z. same_key v.key z ≡ true) (ap (λ z. z.key) u) (same_key-refl v.key) in
    let t : is_top v.key ys ≡ false = subst (λ z. is_top z ys ≡ false) (sym (ap (λ z. z.key) u)) b.0 in
    let inside : map (into v) (ways inner) ≡ map (into v') (ways inner') =
    sym (into_part v.key v inner xs (same_key-refl v.key) a.0) ∙ (ap (filter (goes_into v.key)) e ∙ into_part v.key v' inner' ys s t) in
    let after : ways xs ≡ ways ys = sym (past_part v.key v inner xs (same_key-refl v.key) a.0) ∙ (ap (filter (λ w. not (goes_into v.key w))) e ∙ past_part v.key v' inner' ys s t) in
    let r = rebuilt inner inner' f.1 g.1 a.1 b.1 (into_same v v' (ways inner) (ways inner') inside) in
    let q = rebuilt xs ys f.2 g.2 a.2 b.2 after in
    λ i. group (u i) (r i) (q i)
