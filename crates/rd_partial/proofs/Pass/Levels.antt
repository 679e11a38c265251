-- Things with a level and a list, by level, without those whose list is empty.
use Rattle.std.proofs.Common.{◌≡◌, refl, ap, ◌∙◌, sym, Bool, true, false, not, cond, List, [], ◌∷◌, ◌++◌, ℤ, arith}
use Rattle.std.proofs.lemmas.Int.{ints}
use Rattle.std.specs.Prelude.{int_lt}
use Rattle.rd_list.specs.Entries.{Entries, nil, leaf, group, ◌▷◌, each, is_empty}
use Rattle.rd_list.specs.Wrappers.{Wrapper}
use Rattle.rd_partial.specs.Internal.ContextLists.{LayerOrder, list_if, stacked, insert_layer, by_level}
use Rattle.rd_stack.proofs.Walk.Sorting.{Far, Up, put, sorted, up-sorted}
use Rattle.rd_partial.proofs.Pass.Joined.{joined}

pub turned : (a b : ℤ) → int_lt a b ≡ true → int_lt b a ≡ false
turned a b h = grind (arith, ints)

pub through : (a b c : ℤ) → int_lt a b ≡ false → int_lt b c ≡ false → int_lt a c ≡ false
through a b c h k = grind (arith, ints)

pub none_there : {M : Type 0} (xs : Entries Wrapper M) → is_empty xs ≡ true → xs ≡ nil
none_there nil h = refl
none_there (leaf l xs) h = cc
none_there (group w i xs) h = cc

module _ {A M : Type 0} (lv : A → ℤ) (ord : A → Entries Wrapper M) where
  abbrev stack_of : A → List (LayerOrder M)
  stack_of x = stacked (lv x) (ord x)

  abbrev entry : A → LayerOrder M
  entry x = record { level = lv x; order = ord x }

  higher : (m n : ℤ) (ys : List A) → int_lt m n ≡ false → Far lv m ys → Far lv n ys
  higher m n [] h a = tt
  higher m n (y ∷ ys) h a = (through (lv y) m n a.0 h, higher m n ys h a.1)

  -- one that paints nothing goes nowhere
  put_nothing : (x : A) (ys : List A) → stack_of x ≡ [] → joined stack_of (put lv x ys) ≡ joined stack_of ys
  put_nothing x [] h = rw h refl
  put_nothing x (y ∷ ys) h =
      elim (int_lt (lv y) (lv x)) as (λ t. joined stack_of (cond t (y ∷ put lv x ys) (x ∷ y ∷ ys)) ≡ stack_of y ++ joined stack_of ys) [
        | true ↦ ap (λ zs. stack_of y ++ zs) (put_nothing x ys h)
        | false ↦ rw h refl
      ]

  put_first : (x : A) (ys : List A) → Far lv (lv x) ys → insert_layer (entry x) (joined stack_of ys) ≡ entry x ∷ joined stack_of ys
  put_first x [] a = refl
  put_first x (y ∷ ys) a = by (put_first x ys a.1) (is_empty (ord y)) refl
    where
      by : insert_layer (entry x) (joined stack_of ys) ≡ entry x ∷ joined stack_of ys → (t : Bool) → is_empty (ord y) ≡ t → insert_layer (entry x) (list_if (not t) (entry y ∷ []) ++ joined stack_of ys) ≡ entry x ∷ (list_if (not t) (entry y ∷ []) ++ joined stack_of ys)
      by more true e = more
      by more false e = rw a.0 refl

  put_some : (x : A) (ys : List A) → stack_of x ≡ entry x ∷ [] → Up lv ys → insert_layer (entry x) (joined stack_of ys) ≡ joined stack_of (put lv x ys)
  put_some x [] h r = rw h refl
  put_some x (y ∷ ys) h r = by (put_some x ys h r.1) (int_lt (lv y) (lv x)) (is_empty (ord y)) refl refl
    where
      by : insert_layer (entry x) (joined stack_of ys) ≡ joined stack_of (put lv x ys) → (s t : Bool) → int_lt (lv y) (lv x) ≡ s → is_empty (ord y) ≡ t → insert_layer (entry x) (list_if (not t) (entry y ∷ []) ++ joined stack_of ys) ≡ joined stack_of (cond s (y ∷ put lv x ys) (x ∷ y ∷ ys))
      by more true true e g = more ∙ rw g refl
      by more true false e g = rw (e, g) (ap (λ zs. entry y ∷ zs) more)
      by more false true e g = put_first x ys (higher (lv y) (lv x) ys e r.0) ∙ rw (h, g) refl
      by more false false e g = rw (e, h, g) refl

  by_level-stacked : (xs : List A) → by_level (joined stack_of xs) ≡ joined stack_of (sorted lv xs)
  by_level-stacked [] = refl
  by_level-stacked (x ∷ xs) = by (by_level-stacked xs) (is_empty (ord x)) refl
    where
      by : by_level (joined stack_of xs) ≡ joined stack_of (sorted lv xs) → (t : Bool) → is_empty (ord x) ≡ t → by_level (list_if (not t) (entry x ∷ []) ++ joined stack_of xs) ≡ joined stack_of (put lv x (sorted lv xs))
      by more true e = more ∙ sym (put_nothing x (sorted lv xs) (rw e refl))
      by more false e = ap (insert_layer (entry x)) more ∙ put_some x (sorted lv xs) (rw e refl) (up-sorted lv xs)

  each-stacked : (xs : List A) → each (λ y. y.order) (joined stack_of xs) ≡ each ord xs
  each-stacked [] = refl
  each-stacked (x ∷ xs) = by (each-stacked xs) (is_empty (ord x)) refl
    where
      by : each (λ y. y.order) (joined stack_of xs) ≡ each ord xs → (t : Bool) → is_empty (ord x) ≡ t → each (λ y. y.order) (list_if (not t) (entry x ∷ []) ++ joined stack_of xs) ≡ ord x ▷ each ord xs
      by more true e = more ∙ ap (λ zs. zs ▷ each ord xs) (sym (none_there (ord x) e))
      by more false e = ap (λ zs. ord x ▷ zs) more

  pub levels_are : (xs : List A) → each (λ y. y.order) (by_level (joined stack_of xs)) ≡ each ord (sorted lv xs)
  levels_are xs = ap (each (λ y. y.order)) (by_level-stacked xs) ∙ each-stacked (sorted lv xs)
