-- A loop that lays on a list what the boxes of a kind paint goes on by one.
use Rattle.std.proofs.Common.{◌≡◌, ◌∙◌, sym, refl, ap, Bool, true, false, ◌&&◌, cond, List, [], ◌∷◌, ℕ, ◌<◌, ◌+◌, length, take, get_or}
use Rattle.std.proofs.lemmas.List.{take_more}
use Rattle.std.proofs.lemmas.List.Elements.{filter-append}
use Rattle.std.specs.Prelude.{filter}
use Rattle.rd_item.specs.declared.leaf.Leaf.{Leaf}
use Rattle.rd_list.specs.Wrappers.{Wrapper}
use Rattle.rd_list.specs.Entries.{Entries, ◌▷◌, each}
use Rattle.rd_list.proofs.Joins.{join_assoc, each-append, join-nil}
use Rattle.rd_stack.specs.Painting.{Painted, paint_if}
use Rattle.rd_stack.proofs.Walk.Filters.{filter_both}

module _ (f : Painted → Entries Wrapper Leaf) where
  -- of those that pass a test
  pub each_passed : (p : Painted → Bool) (xs : List Painted) (i : ℕ) (x : Painted) (begun before after : Entries Wrapper Leaf) → i < length xs → x ≡ get_or xs i x
      → before ≡ begun ▷ each f (filter p (take i xs)) → after ≡ before ▷ paint_if (p x) (f x) → after ≡ begun ▷ each f (filter p (take (i + 1) xs))
  each_passed p xs i x begun before after h e a b =
      b ∙ rw (a, take_more xs i x h, ← e, filter-append p (take i xs) (x ∷ []), each-append f (filter p (take i xs)) (filter p (x ∷ [])))
      (join_assoc begun (each f (filter p (take i xs))) (paint_if (p x) (f x)) ∙ ap (λ t. begun ▷ (each f (filter p (take i xs)) ▷ t)) (one (p x)))
    where
      one : (b : Bool) → paint_if b (f x) ≡ each f (cond b (x ∷ []) [])
      one true = sym (join-nil (f x))
      one false = refl

  -- of those that pass two tests, one after the other
  pub each_kind : (p q : Painted → Bool) (xs : List Painted) (i : ℕ) (x : Painted) (begun before after : Entries Wrapper Leaf) → i < length xs → x ≡ get_or xs i x
      → before ≡ begun ▷ each f (filter q (filter p (take i xs))) → after ≡ before ▷ paint_if (p x && q x) (f x) → after ≡ begun ▷ each f (filter q (filter p (take (i + 1) xs)))
  each_kind p q xs i x begun before after h e a b =
      each_passed (λ x. p x && q x) xs i x begun before after h e (a ∙ ap (λ ys. begun ▷ each f ys) (filter_both p q (take i xs))) b
      ∙ ap (λ ys. begun ▷ each f ys) (sym (filter_both p q (take (i + 1) xs)))
