-- What is left of painted boxes, once some are cut off and some are bare.
use Rattle.std.proofs.Common.{◌≡◌, refl, ap, ◌∙◌, sym, Bool, true, false, not, ◌&&◌, cond, List, [], ◌∷◌, map, inl, inr, ℤ, pos, arith}
use Rattle.std.proofs.lemmas.Int.{ints}
use Rattle.std.specs.Prelude.{filter, int_lt}
use Rattle.std.specs.List.{list_any}
use Rattle.rd_keys.specs.Keys.{BoxKey}
use Rattle.rd_item.specs.declared.leaf.Leaf.{Leaf}
use Rattle.rd_list.specs.Wrappers.{Wrapper}
use Rattle.rd_list.specs.Entries.{Entries, nil, ◌▷◌, each}
use Rattle.rd_list.specs.Lists.{without_touched}
use Rattle.rd_list.proofs.Merges.Levelling.{only-join}
use Rattle.rd_tree.proofs.Linking.Standing.{cases}
use Rattle.rd_stack.specs.Painting.{Painted, by_level, insert_by_level, paint_if, level_of, stack_level, is_negative, is_positive, is_zero}
use Rattle.rd_stack.proofs.Left.Bared.{bare_path, level-bare}

abbrev at_level : Painted → ℤ
at_level x = level_of x

abbrev AllFrom : ℤ → List Painted → Type 0
AllFrom z [] = Unit {0}
AllFrom z (y ∷ ys) = (int_lt (at_level y) z ≡ false) × AllFrom z ys

abbrev InOrder : List Painted → Type 0
InOrder [] = Unit {0}
InOrder (y ∷ ys) = AllFrom (at_level y) ys × InOrder ys

from_lower : (a b z : ℤ) → int_lt b a ≡ false → int_lt z b ≡ false → int_lt z a ≡ false
from_lower a b z h k = grind (arith, ints)

lower_first : (a b : ℤ) → int_lt a b ≡ true → int_lt b a ≡ false
lower_first a b h = grind (arith, ints)

all_lower : (a b : ℤ) (ys : List Painted) → int_lt b a ≡ false → AllFrom b ys → AllFrom a ys
all_lower a b [] h k = tt
all_lower a b (y ∷ ys) h k = (from_lower a b (at_level y) h k.0, all_lower a b ys h k.1)

put_from : (z : ℤ) (x : Painted) (ys : List Painted) → int_lt (at_level x) z ≡ false → AllFrom z ys → AllFrom z (insert_by_level x ys)
put_from z x [] h k = (h, tt)
put_from z x (y ∷ ys) h k =
    elim (int_lt (at_level y) (at_level x)) as (λ b. AllFrom z (cond b (y ∷ insert_by_level x ys) (x ∷ y ∷ ys))) [
      | true ↦ (k.0, put_from z x ys h k.1)
      | false ↦ (h, k)
    ]

put_in_order : (x : Painted) (ys : List Painted) → InOrder ys → InOrder (insert_by_level x ys)
put_in_order x [] h = (tt, tt)
put_in_order x (y ∷ ys) h =
    elim (cases (int_lt (at_level y) (at_level x))) [
      | inl k ↦ rw k (put_from (at_level y) x ys (lower_first (at_level y) (at_level x) k) h.0, put_in_order x ys h.1)
      | inr k ↦ rw k ((k, all_lower (at_level x) (at_level y) ys k h.0), h)
    ]

by_level_in_order : (xs : List Painted) → InOrder (by_level xs)
by_level_in_order [] = tt
by_level_in_order (x ∷ xs) = put_in_order x (by_level xs) (by_level_in_order xs)

-- Which boxes are cut off, and of which the leaves are left out.
module _ (cut gone : BoxKey → Bool) where
  -- is a box kept?
  abbrev pub kept : Painted → Bool
  kept x = not (cut x.at.here.key)

  abbrev pub lighter : Painted → Painted
  lighter x = record { at = bare_path gone x.at; order = without_touched gone x.order; grouped = x.grouped }

  -- what is left of painted boxes
  abbrev pub rest_of : List Painted → List Painted
  rest_of xs = map lighter (filter kept xs)

  -- A box that is cut off paints nothing that is left, and what stands below one that is cut off is cut off.
  pub record IsFine (x : Painted) : Type 0 where
    pub bare : cut x.at.here.key ≡ true → without_touched gone x.order ≡ nil
    pub below : list_any (λ b. cut b.key) x.at.above ≡ true → cut x.at.here.key ≡ true

  abbrev pub AllFine : List Painted → Type 0
  AllFine [] = Unit {0}
  AllFine (x ∷ xs) = IsFine x × AllFine xs

  pub join2 : (a b a' b' : Entries Wrapper Leaf) → without_touched gone a ≡ a' → without_touched gone b ≡ b' → without_touched gone (a ▷ b) ≡ a' ▷ b'
  join2 a b a' b' p q = rw (only-join, p, q) refl

  pub when-left : (c c' : Bool) (a a' : Entries Wrapper Leaf) → c' ≡ c → without_touched gone a ≡ a' → without_touched gone (paint_if c a) ≡ paint_if c' a'
  when-left true c' a a' e p = p ∙ ap (λ b. paint_if b a') (sym e)
  when-left false c' a a' e p = ap (λ b. paint_if b a') (sym e)

  pub filter_rest : (p q : Painted → Bool) → ((x : Painted) → q (lighter x) ≡ p x) → (xs : List Painted) → filter q (rest_of xs) ≡ rest_of (filter p xs)
  filter_rest p q e [] = refl
  filter_rest p q e (x ∷ xs) =
      elim (cases (cut x.at.here.key)) [
        | inl k ↦ elim (cases (p x)) [ inl h ↦ rw (k, h, k) (filter_rest p q e xs) | inr h ↦ rw (k, h) (filter_rest p q e xs) ]
        | inr k ↦ elim (cases (p x)) [ inl h ↦ rw (k, h, e x, h, k) (ap (λ zs. lighter x ∷ zs) (filter_rest p q e xs)) | inr h ↦ rw (k, h, e x, h) (filter_rest p q e xs) ]
      ]

  pub fine_filter : (p : Painted → Bool) (xs : List Painted) → AllFine xs → AllFine (filter p xs)
  fine_filter p [] h = tt
  fine_filter p (x ∷ xs) h = elim (p x) as (λ b. AllFine (cond b (x ∷ filter p xs) (filter p xs))) [ true ↦ (h.0, fine_filter p xs h.1) | false ↦ fine_filter p xs h.1 ]

  pub each_rest : (f g : Painted → Entries Wrapper Leaf)
      → ((x : Painted) → IsFine x → cut x.at.here.key ≡ false → without_touched gone (f x) ≡ g (lighter x))
      → ((x : Painted) → IsFine x → cut x.at.here.key ≡ true → without_touched gone (f x) ≡ nil)
      → (xs : List Painted) → AllFine xs → without_touched gone (each f xs) ≡ each g (rest_of xs)
  each_rest f g stays goes [] h = refl
  each_rest f g stays goes (x ∷ xs) h =
      elim (cases (cut x.at.here.key)) [
        | inl k ↦ rw (only-join, goes x h.0 k, k) (each_rest f g stays goes xs h.1)
        | inr k ↦ rw (only-join, stays x h.0 k, k) (ap (λ ys. g (lighter x) ▷ ys) (each_rest f g stays goes xs h.1))
      ]

  -- levels
  pub level-lighter : (x : Painted) → at_level (lighter x) ≡ at_level x
  level-lighter x = ap stack_level (level-bare gone x.at)

  pub negative-lighter : (x : Painted) → is_negative (lighter x) ≡ is_negative x
  negative-lighter x = ap (λ n. int_lt n (pos 0)) (level-lighter x)

  pub positive-lighter : (x : Painted) → is_positive (lighter x) ≡ is_positive x
  positive-lighter x = ap (λ n. int_lt (pos 0) n) (level-lighter x)

  pub zero-lighter : (x : Painted) → is_zero (lighter x) ≡ is_zero x
  zero-lighter x = λ i. not (negative-lighter x i) && not (positive-lighter x i)

  lower-lighter : (y x : Painted) → int_lt (at_level (lighter y)) (at_level (lighter x)) ≡ int_lt (at_level y) (at_level x)
  lower-lighter y x = λ i. int_lt (level-lighter y i) (level-lighter x i)

  rest_from : (x : Painted) (ys : List Painted) → AllFrom (at_level x) ys → AllFrom (at_level (lighter x)) (rest_of ys)
  rest_from x [] h = tt
  rest_from x (y ∷ ys) h =
      elim (cut y.at.here.key) as (λ b. AllFrom (at_level (lighter x)) (map lighter (cond (not b) (y ∷ filter kept ys) (filter kept ys)))) [
        | true ↦ rest_from x ys h.1
        | false ↦ (lower-lighter y x ∙ h.0, rest_from x ys h.1)
      ]

  put_first : (x : Painted) (ys : List Painted) → AllFrom (at_level x) ys → insert_by_level x ys ≡ x ∷ ys
  put_first x [] h = refl
  put_first x (y ∷ ys) h = rw h.0 refl

  put_gone : (x : Painted) (ys : List Painted) → cut x.at.here.key ≡ true → rest_of (insert_by_level x ys) ≡ rest_of ys
  put_gone x [] k = rw k refl
  put_gone x (y ∷ ys) k =
      elim (int_lt (at_level y) (at_level x)) as (λ b. rest_of (cond b (y ∷ insert_by_level x ys) (x ∷ y ∷ ys)) ≡ rest_of (y ∷ ys)) [
        | true ↦ elim (cases (cut y.at.here.key)) [ inl h ↦ rw h (put_gone x ys k) | inr h ↦ rw h (ap (λ zs. lighter y ∷ zs) (put_gone x ys k)) ]
        | false ↦ rw k refl
      ]

  put_rest : (x : Painted) (ys : List Painted) → cut x.at.here.key ≡ false → InOrder ys → rest_of (insert_by_level x ys) ≡ insert_by_level (lighter x) (rest_of ys)
  put_rest x [] k h = rw k refl
  put_rest x (y ∷ ys) k h =
      elim (cases (int_lt (at_level y) (at_level x))) [
        | inl l ↦ elim (cases (cut y.at.here.key)) [
          | inl g ↦ rw (l, g) (put_rest x ys k h.1)
          | inr g ↦ rw (l, g, lower-lighter y x, l) (ap (λ zs. lighter y ∷ zs) (put_rest x ys k h.1))
        ]
        | inr l ↦
            let above : AllFrom (at_level x) (y ∷ ys) = (l, all_lower (at_level x) (at_level y) ys l h.0) in
            rw (l, k) (sym (put_first (lighter x) (rest_of (y ∷ ys)) (rest_from x (y ∷ ys) above)))
      ]

  pub by_level_rest : (xs : List Painted) → by_level (rest_of xs) ≡ rest_of (by_level xs)
  by_level_rest [] = refl
  by_level_rest (x ∷ xs) =
      elim (cases (cut x.at.here.key)) [
        | inl k ↦ rw (k, put_gone x (by_level xs) k) (by_level_rest xs)
        | inr k ↦ rw (k, put_rest x (by_level xs) k (by_level_in_order xs)) (ap (insert_by_level (lighter x)) (by_level_rest xs))
      ]

  fine_put : (x : Painted) (ys : List Painted) → IsFine x → AllFine ys → AllFine (insert_by_level x ys)
  fine_put x [] h k = (h, tt)
  fine_put x (y ∷ ys) h k =
      elim (int_lt (at_level y) (at_level x)) as (λ b. AllFine (cond b (y ∷ insert_by_level x ys) (x ∷ y ∷ ys))) [
        | true ↦ (k.0, fine_put x ys h k.1)
        | false ↦ (h, k)
      ]

  pub fine_by_level : (xs : List Painted) → AllFine xs → AllFine (by_level xs)
  fine_by_level [] h = tt
  fine_by_level (x ∷ xs) h = fine_put x (by_level xs) h.0 (fine_by_level xs h.1)
