-- A stable sort by level is the list by level.
use Rattle.std.proofs.Common.{◌≡◌, refl, ap, ◌∙◌, sym, subst, Bool, true, false, not, ◌&&◌, cond, List, [], ◌∷◌, ℤ, ℕ, zero, suc, ◌+◌, ◌<◌, ◌≤◌, length, get_or, map, arith, inl, inr, is_lt, int_cmp, add-one}
use Rattle.std.proofs.lemmas.Int.{ints}
use Rattle.std.specs.Prelude.{int_lt, filter, AllPairs, IsPermutation}
use Rattle.std.proofs.lemmas.List.Sorted.{IsPermutation-refl, IsPermutation-cons, IsPermutation-trans, IsPermutation-middle}
use Rattle.std.specs.Borrow.{Bor}
use Rattle.rd_tree.proofs.Linking.Standing.{cases}
use Rattle.rd_stack.specs.Painting.{Painted, level_of, is_lower, insert_by_level, by_level}
use Rattle.rd_stack.specs.Levels.{same_level, LevelsLaw}
use Rattle.rd_stack.specs.Internal.Values.{now}

-- a test of one level
abbrev pub level_is : ℤ → ℤ → Bool
level_is m n = not (int_lt m n) && not (int_lt n m)

turned : (a b : ℤ) → int_lt a b ≡ true → int_lt b a ≡ false
turned a b h = grind (arith, ints)

through : (a b c : ℤ) → int_lt a b ≡ false → int_lt b c ≡ false → int_lt a c ≡ false
through a b c h k = grind (arith, ints)

pub filter-same : {A : Type 0} (p r : A → Bool) (xs : List A) → ((x : A) → p x ≡ r x) → filter p xs ≡ filter r xs
filter-same p r [] h = refl
filter-same p r (x ∷ xs) h = rw (h x, filter-same p r xs h) refl

module _ {A : Type 0} (lv : A → ℤ) where
  abbrev pub ties : A → List A → List A
  ties x ys = filter (λ y. level_is (lv x) (lv y)) ys

  self_tie : (m : ℤ) → level_is m m ≡ true
  self_tie m = grind (arith, ints)

  lower_no_tie : (m n : ℤ) → int_lt m n ≡ true → level_is n m ≡ false
  lower_no_tie m n h = grind (arith, ints)

  at_tie : (m n k : ℤ) → level_is k m ≡ true → level_is k n ≡ true → int_lt m n ≡ false
  at_tie m n k h i = grind (arith, ints)

  abbrev pub Far : ℤ → List A → Type 0
  Far m [] = Unit {0}
  Far m (y ∷ ys) = (int_lt (lv y) m ≡ false) × Far m ys

  abbrev pub Up : List A → Type 0
  Up [] = Unit {0}
  Up (y ∷ ys) = Far (lv y) ys × Up ys

  -- nothing of a lower level is in a list that begins higher
  no_ties : (x : A) (m : ℤ) (ys : List A) → int_lt (lv x) m ≡ true → Far m ys → ties x ys ≡ []
  no_ties x m [] h f = refl
  no_ties x m (y ∷ ys) h f = rw (apart (lv x) m (lv y) h f.0) (no_ties x m ys h f.1)
    where
      apart : (a b c : ℤ) → int_lt a b ≡ true → int_lt c b ≡ false → level_is a c ≡ false
      apart a b c h k = grind (arith, ints)

  three : (m n : ℤ) → int_lt m n ≡ false → int_lt n m ≡ false → m ≡ n
  three m n h k = grind (arith, ints)

  pub one_sorted : (xs ys : List A) → Up xs → Up ys → ((x : A) → ties x xs ≡ ties x ys) → xs ≡ ys
  one_sorted [] [] u v h = refl
  one_sorted [] (y ∷ ys) u v h = let e : [] ≡ y ∷ ties y ys = h y ∙ rw (self_tie (lv y)) refl in cc
  one_sorted (x ∷ xs) [] u v h = let e : x ∷ ties x xs ≡ [] = rw (self_tie (lv x)) at (h x) in cc
  one_sorted (x ∷ xs) (y ∷ ys) u v h =
      elim (cases (int_lt (lv x) (lv y))) [
        | inl t ↦
            let e : x ∷ ties x xs ≡ ties x (y ∷ ys) = rw (self_tie (lv x)) at (h x) in
            let n : ties x (y ∷ ys) ≡ [] = no_ties x (lv y) (y ∷ ys) t (not_self (lv y), v.0) in
            let k : x ∷ ties x xs ≡ [] = e ∙ n in cc
        | inr t ↦ elim (cases (int_lt (lv y) (lv x))) [
          | inl s ↦
              let e : ties y (x ∷ xs) ≡ y ∷ ties y ys = h y ∙ rw (self_tie (lv y)) refl in
              let n : ties y (x ∷ xs) ≡ [] = no_ties y (lv x) (x ∷ xs) s (not_self (lv x), u.0) in
              let k : [] ≡ y ∷ ties y ys = sym n ∙ e in cc
          | inr s ↦
              let l : lv x ≡ lv y = three (lv x) (lv y) t s in
              let e : x ∷ ties x xs ≡ y ∷ ties x ys = first x y l (h x) in
              let f : x ≡ y = cc (e) in
              let rest : xs ≡ ys = one_sorted xs ys u.1 v.1 (λ z. drop z x y f (level_is (lv z) (lv x)) refl (h z)) in
              ap (λ z. z ∷ xs) f ∙ ap (λ zs. y ∷ zs) rest
        ]
      ]
    where
      not_self : (m : ℤ) → int_lt m m ≡ false
      not_self m = grind (arith, ints)

      first : (x y : A) → lv x ≡ lv y → ties x (x ∷ xs) ≡ ties x (y ∷ ys) → x ∷ ties x xs ≡ y ∷ ties x ys
      first x y l k = subst (λ (m : ℤ). x ∷ ties x xs ≡ cond (level_is (lv x) m) (y ∷ ties x ys) (ties x ys)) (sym l) (rw (self_tie (lv x)) at k) ∙ rw (self_tie (lv x)) refl

      drop : (z x y : A) → x ≡ y → (t : Bool) → level_is (lv z) (lv x) ≡ t → ties z (x ∷ xs) ≡ ties z (y ∷ ys) → ties z xs ≡ ties z ys
      drop z x y f true e k = let m : x ∷ ties z xs ≡ x ∷ ties z ys = rw (← f, e) at k in cc
      drop z x y f false e k = rw (← f, e) at k

  -- x before the first that is not lower
  abbrev pub put : A → List A → List A
  put x [] = x ∷ []
  put x (y ∷ ys) = cond (int_lt (lv y) (lv x)) (y ∷ put x ys) (x ∷ y ∷ ys)

  abbrev pub sorted : List A → List A
  sorted [] = []
  sorted (x ∷ xs) = put x (sorted xs)

  lower_apart : (m n k : ℤ) → int_lt m n ≡ true → (level_is k n && level_is k m) ≡ false
  lower_apart m n k h = grind (arith, ints)

  ties-put : (z x : A) (ys : List A) → ties z (put x ys) ≡ ties z (x ∷ ys)
  ties-put z x [] = refl
  ties-put z x (y ∷ ys) = by (ties-put z x ys) (int_lt (lv y) (lv x)) refl
    where
      swapped : (s t : Bool) → (s && t) ≡ false → cond t (y ∷ cond s (x ∷ ties z ys) (ties z ys)) (cond s (x ∷ ties z ys) (ties z ys)) ≡ cond s (x ∷ cond t (y ∷ ties z ys) (ties z ys)) (cond t (y ∷ ties z ys) (ties z ys))
      swapped true true h = cc
      swapped true false h = refl
      swapped false true h = refl
      swapped false false h = refl

      by : ties z (put x ys) ≡ ties z (x ∷ ys) → (t : Bool) → int_lt (lv y) (lv x) ≡ t → ties z (cond t (y ∷ put x ys) (x ∷ y ∷ ys)) ≡ ties z (x ∷ y ∷ ys)
      by h true e = rw h (swapped (level_is (lv z) (lv x)) (level_is (lv z) (lv y)) (lower_apart (lv y) (lv x) (lv z) e))
      by h false e = refl

  pub ties-sorted : (z : A) (xs : List A) → ties z (sorted xs) ≡ ties z xs
  ties-sorted z [] = refl
  ties-sorted z (x ∷ xs) = ties-put z x (sorted xs) ∙ rw (ties-sorted z xs) refl

  far-through : (m n : ℤ) (ys : List A) → int_lt m n ≡ false → Far m ys → Far n ys
  far-through m n [] h f = tt
  far-through m n (y ∷ ys) h f = (through (lv y) m n f.0 h, far-through m n ys h f.1)

  far-put : (n : ℤ) (x : A) (ys : List A) → int_lt (lv x) n ≡ false → Far n ys → Far n (put x ys)
  far-put n x [] h f = (h, tt)
  far-put n x (y ∷ ys) h f =
      elim (int_lt (lv y) (lv x)) as (λ t. Far n (cond t (y ∷ put x ys) (x ∷ y ∷ ys))) [
        | true ↦ (f.0, far-put n x ys h f.1)
        | false ↦ (h, f)
      ]

  up-put : (x : A) (ys : List A) → Up ys → Up (put x ys)
  up-put x [] u = (tt, tt)
  up-put x (y ∷ ys) u = by (up-put x ys u.1) (int_lt (lv y) (lv x)) refl
    where
      by : Up (put x ys) → (t : Bool) → int_lt (lv y) (lv x) ≡ t → Up (cond t (y ∷ put x ys) (x ∷ y ∷ ys))
      by more true e = (far-put (lv y) x ys (turned (lv y) (lv x) e) u.0, more)
      by more false e = ((e, far-through (lv y) (lv x) ys e u.0), u)

  pub up-sorted : (xs : List A) → Up (sorted xs)
  up-sorted [] = tt
  up-sorted (x ∷ xs) = up-put x (sorted xs) (up-sorted xs)

  -- neighbours in order
  pub up-neighbours : (xs : List A) → ((k : ℕ) (d : A) → k + 1 < length xs → int_lt (lv (get_or xs (k + 1) d)) (lv (get_or xs k d)) ≡ false) → Up xs
  up-neighbours [] h = tt
  up-neighbours (x ∷ []) h = (tt, tt)
  up-neighbours (x ∷ y ∷ ys) h =
      let rest : Up (y ∷ ys) = up-neighbours (y ∷ ys) (λ k d l. let m = h (suc k) d (omega (arith, l)) in rw add-one (rw add-one at m)) in
      let one : int_lt (lv y) (lv x) ≡ false = h 0 x (omega arith) in
      ((one, far-through (lv y) (lv x) ys one rest.0), rest)

  pub sort_is : (xs ys : List A) → ((k : ℕ) (d : A) → k + 1 < length ys → int_lt (lv (get_or ys (k + 1) d)) (lv (get_or ys k d)) ≡ false) → ((x : A) → ties x ys ≡ ties x xs) → ys ≡ sorted xs
  sort_is xs ys h k = one_sorted ys (sorted xs) (up-neighbours ys h) (up-sorted xs) (λ x. k x ∙ sym (ties-sorted x xs))

  lt_is : (m n : ℤ) → is_lt (int_cmp m n) ≡ int_lt m n
  lt_is m n = grind (arith, ints)

  tie_is : (m n : ℤ) → (not (is_lt (int_cmp m n)) && not (is_lt (int_cmp n m))) ≡ level_is m n
  tie_is m n = rw (lt_is m n, lt_is n m) refl

  -- what a stable sort by the level gives
  pub sort_by_cmp : (xs ys : List A) → ((k : ℕ) (d : A) → 0 ≤ k → k + 1 < length ys → is_lt (int_cmp (lv (get_or ys (k + 1) d)) (lv (get_or ys k d))) ≡ false)
      → ((x : A) → filter (λ y. not (is_lt (int_cmp (lv x) (lv y))) && not (is_lt (int_cmp (lv y) (lv x)))) ys ≡ filter (λ y. not (is_lt (int_cmp (lv x) (lv y))) && not (is_lt (int_cmp (lv y) (lv x)))) xs) → ys ≡ sorted xs
  sort_by_cmp xs ys h k =
      sort_is xs ys (λ i d l. sym (lt_is (lv (get_or ys (i + 1) d)) (lv (get_or ys i d))) ∙ h i d (omega arith) l)
      (λ x. sym (filter-same (λ y. not (is_lt (int_cmp (lv x) (lv y))) && not (is_lt (int_cmp (lv y) (lv x)))) (λ y. level_is (lv x) (lv y)) ys (λ y. tie_is (lv x) (lv y))) ∙ k x
      ∙ filter-same (λ y. not (is_lt (int_cmp (lv x) (lv y))) && not (is_lt (int_cmp (lv y) (lv x)))) (λ y. level_is (lv x) (lv y)) xs (λ y. tie_is (lv x) (lv y)))

  far_at : (m : ℤ) (ys : List A) (j : ℕ) (d : A) → Far m ys → j < length ys → int_lt (lv (get_or ys j d)) m ≡ false
  far_at m [] j d f h = absurd (omega arith)
  far_at m (y ∷ ys) zero d f h = f.0
  far_at m (y ∷ ys) (suc j) d f h = far_at m ys j d f.1 (omega arith)

  pub up_pairs : (xs : List A) → Up xs → AllPairs (λ x y. int_lt (lv y) (lv x) ≡ false) xs
  up_pairs [] u i j d k l = absurd (omega arith)
  up_pairs (x ∷ xs) u zero zero d k l = absurd (omega arith)
  up_pairs (x ∷ xs) u zero (suc j) d k l = far_at (lv x) xs j d u.0 (omega arith)
  up_pairs (x ∷ xs) u (suc i) zero d k l = absurd (omega arith)
  up_pairs (x ∷ xs) u (suc i) (suc j) d k l = up_pairs xs u.1 i j d (omega arith) (omega arith)

-- ---- the boxes by level

map-put : (x : Bor Painted) (ys : List (Bor Painted)) → map now (put (λ (y : Bor Painted). level_of y.now) x ys) ≡ insert_by_level (now x) (map now ys)
map-put x [] = refl
map-put x (y ∷ ys) =
    elim (int_lt (level_of y.now) (level_of x.now)) as (λ t. map now (cond t (y ∷ put (λ (z : Bor Painted). level_of z.now) x ys) (x ∷ y ∷ ys)) ≡ cond t (now y ∷ insert_by_level (now x) (map now ys)) (now x ∷ now y ∷ map now ys)) [
      | true ↦ ap (λ zs. now y ∷ zs) (map-put x ys)
      | false ↦ refl
    ]

-- behind references
pub sorted_now : (xs : List (Bor Painted)) → map now (sorted (λ (y : Bor Painted). level_of y.now) xs) ≡ by_level (map now xs)
sorted_now [] = refl
sorted_now (x ∷ xs) = map-put x (sorted (λ (y : Bor Painted). level_of y.now) xs) ∙ ap (insert_by_level (now x)) (sorted_now xs)

put_is : (x : Painted) (ys : List Painted) → put level_of x ys ≡ insert_by_level x ys
put_is x [] = refl
put_is x (y ∷ ys) = ap (λ zs. cond (int_lt (level_of y) (level_of x)) (y ∷ zs) (x ∷ y ∷ ys)) (put_is x ys)

sorted_is : (xs : List Painted) → sorted level_of xs ≡ by_level xs
sorted_is [] = refl
sorted_is (x ∷ xs) = put_is x (sorted level_of xs) ∙ ap (insert_by_level x) (sorted_is xs)

insert_moves : (x : Painted) (ys : List Painted) → IsPermutation (insert_by_level x ys) (x ∷ ys)
insert_moves x [] = IsPermutation-refl (x ∷ [])
insert_moves x (y ∷ ys) =
    elim (is_lower y x) as (λ t. IsPermutation (cond t (y ∷ insert_by_level x ys) (x ∷ y ∷ ys)) (x ∷ y ∷ ys)) [
      | true ↦ IsPermutation-trans _ _ _ (IsPermutation-cons y _ _ (insert_moves x ys)) (IsPermutation-middle (y ∷ []) x ys)
      | false ↦ IsPermutation-refl (x ∷ y ∷ ys)
    ]

by_level_moves : (xs : List Painted) → IsPermutation (by_level xs) xs
by_level_moves [] = IsPermutation-refl []
by_level_moves (x ∷ xs) = IsPermutation-trans _ _ _ (insert_moves x (by_level xs)) (IsPermutation-cons x _ _ (by_level_moves xs))

pub levels : LevelsLaw
levels xs = record {
  same = by_level_moves xs;
  rising = subst (λ ys. AllPairs (λ x y. is_lower y x ≡ false) ys) (sorted_is xs) (up_pairs level_of (sorted level_of xs) (up-sorted level_of xs));
  stable = λ x. ap (filter (λ y. same_level x y)) (sym (sorted_is xs)) ∙ ties-sorted level_of x xs;
}
