-- Searches for the first that passes a test.
use Rattle.std.proofs.Common.{◌≡◌, ℕ, suc, ◌+◌, ◌<◌, ◌≤◌, Bool, true, false, List, [], ◌∷◌, ◌++◌, length, map, take, get_or, Some, refl, sym, ap, subst, ◌∙◌, arith, inl, inr}
use Rattle.std.specs.Prelude.{slice_get}
use Rattle.std.proofs.lemmas.Bool.{cases_lt}
use Rattle.std.proofs.lemmas.List.{take_more, take_all, map_push, length-map}
use Rattle.std.proofs.lemmas.Option.{slice_get_read, slice_get_within, same_Some}
use Rattle.rd_graph.specs.Names.{is_in, same_entry}
use Rattle.rd_keys.specs.declared.entry.EntryKey.{EntryKey}
use Rattle.rd_check.specs.Verdicts.{IsFirst, Never}
use Rattle.rd_check.specs.Internal.Finding.{IsHit, IsTwiceIn}
use Rattle.rd_graph.proofs.Lists.Entries.{same_entry-refl}
use Rattle.rd_graph.proofs.Lists.Listing.{Once, cases}
use Rattle.rd_check.proofs.Slots.{has_slice, map_slice}

-- it holds of none of the first
abbrev pub NoneBelow : (ℕ → Type 0) → ℕ → Type 0
NoneBelow P i = (j : ℕ) → j < i → P j → ⊥

pub none_yet : (P : ℕ → Type 0) → NoneBelow P 0
none_yet P j h p = omega (arith, h)

pub none_more : (P : ℕ → Type 0) (i : ℕ) → NoneBelow P i → (P i → ⊥) → NoneBelow P (i + 1)
none_more P i h n j below p = elim (cases_lt j i) [
  | inl l ↦ h j l p
  | inr l ↦ let at : j ≡ i = omega (arith, below, l) in n (subst P at p)
]

pub none_all : (P : ℕ → Type 0) (i n : ℕ) → NoneBelow P i → n ≤ i → ((j : ℕ) → P j → j < n) → Never P
none_all P i n h past within j p = let w = within j p in h j (omega (arith, w, past)) p

pub first_here : (P : ℕ → Type 0) (i : ℕ) → NoneBelow P i → P i → IsFirst P i
first_here P i h p = record { holds = p; least = h }

-- ---- tests

pub no_hit : (tests : List Bool) (i : ℕ) (b : Bool) → slice_get tests i ≡ Some b → b ≡ false → IsHit tests i → ⊥
no_hit tests i b e f h = let no : true ≡ false = same_Some true b (sym h ∙ e) ∙ f in absurd cc

pub hit_within : (tests : List Bool) (i : ℕ) → IsHit tests i → i < length tests
hit_within tests i h = slice_get_within tests i true h

module _ {A B : Type 0} (f : B → Bool) (g : A → B) (xs : List A) where
  abbrev Hits : ℕ → Type 0
  Hits = IsHit (map f (map g xs))

  tested : (i : ℕ) (x : A) → i < length xs → x ≡ get_or xs i x → slice_get (map f (map g xs)) i ≡ Some (f (g x))
  tested i x h e = map_slice f (map g xs) i (g x) (map_slice g xs i x (slice_get_read xs (length xs) i x refl h e))

  pub passed : (i : ℕ) (x : A) → NoneBelow (IsHit (map f (map g xs))) i → i < length xs → x ≡ get_or xs i x → f (g x) ≡ false → NoneBelow (IsHit (map f (map g xs))) (i + 1)
  passed i x n h e t = none_more Hits i n (no_hit (map f (map g xs)) i (f (g x)) (tested i x h e) t)

  pub hit : (i : ℕ) (x : A) → NoneBelow (IsHit (map f (map g xs))) i → i < length xs → x ≡ get_or xs i x → f (g x) ≡ true → IsFirst (IsHit (map f (map g xs))) i
  hit i x n h e t = first_here Hits i n (tested i x h e ∙ ap (λ (b : Bool). Some b) t)

  pub ended : (i : ℕ) → NoneBelow (IsHit (map f (map g xs))) i → length xs ≤ i → Never (IsHit (map f (map g xs)))
  ended i n past =
      none_all Hits i (length xs) n past (λ j p.
      let w = hit_within (map f (map g xs)) j p in
      let a = length-map (map g xs) f in
      let b = length-map xs g in
      omega (arith, w, a, b))

-- ---- names

pub front_more : {A : Type 0} (xs : List A) (i : ℕ) (x : A) → i < length xs → x ≡ get_or xs i x → take (i + 1) xs ≡ take i xs ++ x ∷ []
front_more xs i x h e = take_more xs i x h ∙ ap (λ y. take i xs ++ y ∷ []) (sym e)

pub twice_here : (names : List EntryKey) (i : ℕ) (x : EntryKey) → NoneBelow (IsTwiceIn names) i → i < length names → x ≡ get_or names i x → is_in same_entry (take i names) x ≡ true → IsFirst (IsTwiceIn names) i
twice_here names i x n h e t = first_here (IsTwiceIn names) i n (x, slice_get_read names (length names) i x refl h e, t)

pub twice_not : (names : List EntryKey) (i : ℕ) (x : EntryKey) → NoneBelow (IsTwiceIn names) i → i < length names → x ≡ get_or names i x → is_in same_entry (take i names) x ≡ false → NoneBelow (IsTwiceIn names) (i + 1)
twice_not names i x n h e t = none_more (IsTwiceIn names) i n (λ u.
    let is : u.0 ≡ x = same_Some u.0 x (sym u.1 ∙ slice_get_read names (length names) i x refl h e) in
    let no : true ≡ false = sym u.2 ∙ ap (is_in same_entry (take i names)) is ∙ t in
    absurd cc)

pub twice_never : (names : List EntryKey) (i : ℕ) → NoneBelow (IsTwiceIn names) i → length names ≤ i → Never (IsTwiceIn names)
twice_never names i n past = none_all (IsTwiceIn names) i (length names) n past (λ j u. slice_get_within names j u.0 u.1)

-- names that are nowhere twice differ
pub names_differ : (names : List EntryKey) → Never (IsTwiceIn names) → Once names
names_differ [] n = tt
names_differ (x ∷ xs) n = (
  (λ h.
      let s = has_slice xs x h in
      n (suc s.0) (x, s.1, first x (take s.0 xs))),
  names_differ xs (λ i u. n (suc i) (u.0, u.1, later x (take i xs) u.0 u.2)),
)
  where
    first : (x : EntryKey) (ys : List EntryKey) → is_in same_entry (x ∷ ys) x ≡ true
    first x ys = rw (same_entry-refl x) refl

    later : (x : EntryKey) (ys : List EntryKey) (e : EntryKey) → is_in same_entry ys e ≡ true → is_in same_entry (x ∷ ys) e ≡ true
    later x ys e h = elim (cases (same_entry x e)) [ inl t ↦ rw t refl | inr f ↦ rw f h ]

-- ---- lists that grow by one

module _ {A B : Type 0} (h : A → B) (xs : List A) where
  pub made_more : (i : ℕ) (x : A) (now then : List B) (b : B) → i < length xs → x ≡ get_or xs i x → now ≡ map h (take i xs) → then ≡ now ++ b ∷ [] → b ≡ h x → then ≡ map h (take (i + 1) xs)
  made_more i x now then b l e was put is =
      put ∙ ap (λ (z : List B). z ++ b ∷ []) was ∙ ap (λ (y : B). map h (take i xs) ++ y ∷ []) is
      ∙ sym (ap (map h) (front_more xs i x l e) ∙ map_push h (take i xs) x)

  pub made_all : (i : ℕ) (now : List B) → now ≡ map h (take i xs) → length xs ≤ i → now ≡ map h xs
  made_all i now was past = was ∙ ap (map h) (take_all i xs past)

pub map_map : {A B C : Type 0} (f : B → C) (g : A → B) (xs : List A) → map f (map g xs) ≡ map (λ x. f (g x)) xs
map_map f g [] = refl
map_map f g (x ∷ xs) = ap (λ z. f (g x) ∷ z) (map_map f g xs)
