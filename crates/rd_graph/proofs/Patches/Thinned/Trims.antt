-- Lists of predecessors without what a chain implies.
use Rattle.std.proofs.Common.{◌≡◌, refl, ap, ◌∙◌, sym, subst, ℕ, ◌+◌, ◌<◌, ◌≤◌, max, Bool, true, cond, List, [], ◌∷◌, ◌++◌, length, take, get_or, Option, Some, None, inl, inr, ◌⊎◌, arith, append_assoc}
use Rattle.std.proofs.lemmas.Bool.{cases_lt}
use Rattle.std.proofs.lemmas.List.{take_more}
use Rattle.rd_graph.specs.Orders.{Before}
use Rattle.rd_graph.specs.Names.{place_of}
use Rattle.rd_graph.specs.Internal.Trimming.{higher, highest, is_left, left_in, trimmed, all_trimmed}
use Rattle.rd_graph.proofs.Lists.Listing.{Has, cases, has_left, has_right, has_either}
use Rattle.rd_graph.proofs.LinedUp.ChainPlaces.{before_at}
use Rattle.rd_graph.proofs.Lists.Entries.{place_some}
use Rattle.rd_graph.proofs.Patches.ListsAt.{place_is, other_place}

max_first : (a b : ℕ) → a ≤ max a b
max_first a b = grind arith

max_second : (a b : ℕ) → b ≤ max a b
max_second a b = grind arith

max_one : (a b : ℕ) → (max a b ≡ a) ⊎ (max a b ≡ b)
max_one a b = grind arith

module _ {E : Type 0} (place : E → Option ℕ) where
  -- one name more
  highest_more : (top : ℕ) (ks : List E) (k : E) → highest place top (ks ++ k ∷ []) ≡ higher (highest place top ks) (place k)
  highest_more top [] k = refl
  highest_more top (j ∷ ks) k = highest_more (higher top (place j)) ks k

  pub highest_next : (ks : List E) (i : ℕ) (d : E) (now next : ℕ) → i < length ks → now ≡ highest place 0 (take i ks) → next ≡ higher now (place (get_or ks i d))
      → next ≡ highest place 0 (take (i + 1) ks)
  highest_next ks i d now next l so is =
      is ∙ ap (λ n. higher n (place (get_or ks i d))) so ∙ sym (ap (highest place 0) (take_more ks i d l) ∙ highest_more 0 (take i ks) (get_or ks i d))

  left_more : (top : ℕ) (ks : List E) (k : E) → left_in place top (ks ++ k ∷ []) ≡ left_in place top ks ++ cond (is_left top (place k)) (k ∷ []) []
  left_more top [] k = elim (cases (is_left top (place k))) [ inl t ↦ rw t refl | inr f ↦ rw f refl ]
  left_more top (j ∷ ks) k =
      ap (λ xs. cond (is_left top (place j)) (j ∷ []) [] ++ xs) (left_more top ks k)
      ∙ sym (append_assoc (cond (is_left top (place j)) (j ∷ []) []) (left_in place top ks) (cond (is_left top (place k)) (k ∷ []) []))

  pub left_next : (top : ℕ) (ks : List E) (i : ℕ) (d : E) (stays : Bool) (now next : List E) → i < length ks → now ≡ left_in place top (take i ks)
      → stays ≡ is_left top (place (get_or ks i d)) → next ≡ now ++ cond stays (get_or ks i d ∷ []) [] → next ≡ left_in place top (take (i + 1) ks)
  left_next top ks i d stays now next l so told is =
      is ∙ ap (λ b. now ++ cond b (get_or ks i d ∷ []) []) told ∙ ap (λ xs. xs ++ cond (is_left top (place (get_or ks i d))) (get_or ks i d ∷ []) []) so
      ∙ sym (ap (left_in place top) (take_more ks i d l) ∙ left_more top (take i ks) (get_or ks i d))

  -- ---- what is left

  pub left_from : (top : ℕ) (ks : List E) (a : E) → Has (left_in place top ks) a → Has ks a
  left_from top [] a h = h
  left_from top (k ∷ ks) a h = elim (has_either (cond (is_left top (place k)) (k ∷ []) []) (left_in place top ks) a h) [
    | inl m ↦ elim (cases (is_left top (place k))) [
      | inl t ↦ let u : Has (k ∷ []) a = rw t at m in elim u [ inl e ↦ inl e | inr n ↦ absurd n ]
      | inr f ↦ let u : Has {A = E} [] a = rw f at m in absurd u
    ]
    | inr m ↦ inr (left_from top ks a m)
  ]

  left_has : (top : ℕ) (ks : List E) (a : E) → is_left top (place a) ≡ true → Has ks a → Has (left_in place top ks) a
  left_has top [] a t h = h
  left_has top (k ∷ ks) a t (inl e) =
      let u : is_left top (place k) ≡ true = ap (λ z. is_left top (place z)) e ∙ t in
      let one : Has (cond (is_left top (place k)) (k ∷ []) []) a = rw u (inl e) in
      has_left (cond (is_left top (place k)) (k ∷ []) []) (left_in place top ks) a one
  left_has top (k ∷ ks) a t (inr h) = has_right (cond (is_left top (place k)) (k ∷ []) []) (left_in place top ks) a (left_has top ks a t h)

  higher_first : (top : ℕ) (o : Option ℕ) → top ≤ higher top o
  higher_first top None = omega arith
  higher_first top (Some i) = max_first top i

  highest_first : (top : ℕ) (ks : List E) → top ≤ highest place top ks
  highest_first top [] = omega arith
  highest_first top (k ∷ ks) = let l = higher_first top (place k) in let m = highest_first (higher top (place k)) ks in omega (arith, l, m)

  highest_above : (top : ℕ) (ks : List E) (a : E) (i : ℕ) → Has ks a → place a ≡ Some i → i ≤ highest place top ks
  highest_above top [] a i h e = absurd h
  highest_above top (k ∷ ks) a i (inl s) e =
      let u : place k ≡ Some i = ap place s ∙ e in
      let l : i ≤ higher top (place k) = rw u (max_second top i) in
      let m = highest_first (higher top (place k)) ks in
      omega (arith, l, m)
  highest_above top (k ∷ ks) a i (inr h) e = highest_above (higher top (place k)) ks a i h e

  higher_one : (top : ℕ) (o : Option ℕ) → (higher top o ≡ top) ⊎ (o ≡ Some (higher top o))
  higher_one top None = inl refl
  higher_one top (Some i) = elim (max_one top i) [ inl e ↦ inl e | inr e ↦ inr (ap Some (sym e)) ]

  highest_one : (top : ℕ) (ks : List E) → (highest place top ks ≡ top) ⊎ ((c : E) × Has ks c × (place c ≡ Some (highest place top ks)))
  highest_one top [] = inl refl
  highest_one top (k ∷ ks) = elim (highest_one (higher top (place k)) ks) [
    | inl e ↦ elim (higher_one top (place k)) [
      | inl f ↦ inl (e ∙ f)
      | inr f ↦ inr (k, inl refl, f ∙ ap Some (sym e))
    ]
    | inr r ↦ inr (r.0, inr r.1, r.2)
  ]

  -- a name that is not left stands before another one
  pub left_or : (ks : List E) (a : E) → Has ks a → Has (trimmed place ks) a ⊎ ((c : E) × Has ks c × (i j : ℕ) × (place a ≡ Some i) × (place c ≡ Some j) × (i < j))
  left_or ks a h = by (place a) refl
    where
      by : (o : Option ℕ) → place a ≡ o → Has (trimmed place ks) a ⊎ ((c : E) × Has ks c × (i j : ℕ) × (place a ≡ Some i) × (place c ≡ Some j) × (i < j))
      by None e = inl (left_has (highest place 0 ks) ks a (ap (is_left (highest place 0 ks)) e) h)
      by (Some i) e = elim (cases (is_left (highest place 0 ks) (Some i))) [
        | inl t ↦ inl (left_has (highest place 0 ks) ks a (ap (is_left (highest place 0 ks)) e ∙ t) h)
        | inr f ↦
            let l = highest_above 0 ks a i h e in
            let d : i ≡ highest place 0 ks → ⊥ = other_place i (highest place 0 ks) f in
            elim (highest_one 0 ks) [
              | inl z ↦ absurd (d (omega (arith, l, z)))
              | inr r ↦ inr (r.0, r.1, i, highest place 0 ks, e, r.2, below i (highest place 0 ks) l d)
            ]
      ]
        where
          below : (m n : ℕ) → m ≤ n → (m ≡ n → ⊥) → m < n
          below m n l d = grind arith

  -- a list of one name is left as it is
  one_left : (k : E) (o : Option ℕ) → place k ≡ o → k ∷ [] ≡ trimmed place (k ∷ [])
  one_left k None e = rw e refl
  one_left k (Some i) e = let t : is_left (max 0 i) (Some i) ≡ true = place_is i (max 0 i) (grind arith) in rw (e, t) refl

  pub few_left : (ks : List E) → length ks < 2 → ks ≡ trimmed place ks
  few_left [] l = refl
  few_left (k ∷ []) l = one_left k (place k) refl
  few_left (k ∷ j ∷ ks) l = absurd (omega arith)

  -- the same of lists
  pub all_short : (ls : List (ℕ × List E)) → ((l : ℕ × List E) → Has ls l → length l.1 < 2) → ls ≡ all_trimmed place ls
  all_short [] short = refl
  all_short (l ∷ ls) short =
      ap (λ ks. (l.0, ks) ∷ ls) (few_left l.1 (short l (inl refl))) ∙ ap (λ ms. (l.0, trimmed place l.1) ∷ ms) (all_short ls (λ m h. short m (inr h)))

-- the places of the names of a list alone tell what is left
module _ {E : Type 0} (place other : E → Option ℕ) where
  highest_same : (top : ℕ) (ks : List E) → ((k : E) → Has ks k → place k ≡ other k) → highest place top ks ≡ highest other top ks
  highest_same top [] is = refl
  highest_same top (k ∷ ks) is = ap (λ o. highest place (higher top o) ks) (is k (inl refl)) ∙ highest_same (higher top (other k)) ks (λ j h. is j (inr h))

  left_same : (top : ℕ) (ks : List E) → ((k : E) → Has ks k → place k ≡ other k) → left_in place top ks ≡ left_in other top ks
  left_same top [] is = refl
  left_same top (k ∷ ks) is =
      ap (λ o. cond (is_left top o) (k ∷ []) [] ++ left_in place top ks) (is k (inl refl))
      ∙ ap (λ js. cond (is_left top (other k)) (k ∷ []) [] ++ js) (left_same top ks (λ j h. is j (inr h)))

  trimmed_same : (ks : List E) → ((k : E) → Has ks k → place k ≡ other k) → trimmed place ks ≡ trimmed other ks
  trimmed_same ks is = ap (λ n. left_in place n ks) (highest_same 0 ks is) ∙ left_same (highest other 0 ks) ks is

  -- the same of lists, where those of one name stay as they are
  pub all_trimmed_same : (ls : List (ℕ × List E)) → ((l : ℕ × List E) → Has ls l → 1 < length l.1 → (k : E) → Has l.1 k → place k ≡ other k) → all_trimmed place ls ≡ all_trimmed other ls
  all_trimmed_same [] is = refl
  all_trimmed_same (l ∷ ls) is =
      let one : trimmed place l.1 ≡ trimmed other l.1 = elim (cases_lt 1 (length l.1)) [
        | inl m ↦ trimmed_same l.1 (is l (inl refl) m)
        | inr m ↦ sym (few_left place l.1 (omega (arith, m))) ∙ few_left other l.1 (omega (arith, m))
      ] in
      ap (λ ks. (l.0, ks) ∷ all_trimmed place ls) one ∙ ap (λ ms. (l.0, trimmed other l.1) ∷ ms) (all_trimmed_same ls (λ m h. is m (inr h)))

-- lower places come before
module _ {E : Type 0} (same : E → E → Bool) (sound : (a b : E) → same a b ≡ true → a ≡ b) (reflexive : (a : E) → same a a ≡ true) (chain : List E) where
  before_by : (a c : E) (i j : ℕ) → place_of same chain a ≡ Some i → place_of same chain c ≡ Some j → i < j → Before chain a c
  before_by a c i j p q l =
      let s = place_some same sound reflexive chain a i p in
      let t = place_some same sound reflexive chain c j q in
      subst (λ (z : E). Before chain z c) (s.1 a) (subst (λ (z : E). Before chain (get_or chain i a) z) (t.1 a) (before_at chain i j a l t.0))

  -- Of a list a shorter one has what no other one of it comes after in the chain.
  abbrev pub Trims : List E → List E → Type 0
  Trims ps qs = ((a : E) → Has ps a → Has qs a) × ((a : E) → Has qs a → Has ps a ⊎ ((c : E) × Has qs c × Before chain a c))

  pub trims_same : (ps : List E) → Trims ps ps
  trims_same ps = ((λ a h. h), (λ a h. inl h))

  pub trims : (ks : List E) → Trims (trimmed (place_of same chain) ks) ks
  trims ks = (
    (λ a h. left_from (place_of same chain) (highest (place_of same chain) 0 ks) ks a h),
    (λ a h. elim (left_or (place_of same chain) ks a h) [ inl m ↦ inl m | inr r ↦ inr (r.0, r.1, before_by a r.0 r.2 r.3 r.4 r.5 r.6) ]),
  )
