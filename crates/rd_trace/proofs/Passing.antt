-- A loop that puts on a list what the boxes of a kind paint goes on by one.
use Rattle.std.proofs.Common.{◌≡◌, ◌∙◌, sym, refl, ap, Bool, true, false, ◌&&◌, cond, List, [], ◌∷◌, ◌++◌, append_assoc, map, ℕ, ◌<◌, ◌+◌, length, take, get_or}
use Rattle.std.proofs.lemmas.List.{take_more, map-append, append-nil}
use Rattle.std.proofs.lemmas.List.Elements.{filter-append}
use Rattle.std.proofs.lemmas.Grind.{flat_map-append}
use Rattle.std.specs.Prelude.{filter, flat_map, Some}
use Rattle.rd_stack.proofs.Walk.Filters.{filter_both}
use Rattle.rd_item.specs.declared.leaf.Leaf.{Leaf}
use Rattle.rd_item.specs.Leaves.{covers}
use Rattle.rd_trace.specs.declared.placing.Placing.{Placing}
use Rattle.rd_trace.specs.declared.placing.Sight.{Sight}
use Rattle.rd_trace.specs.Ways.{Traced, TracedBox, at_first}
use Rattle.rd_trace.specs.Steps.{trace_if, seen}

module _ (f : TracedBox → List Traced) where
  -- of those that pass a test
  pub each_passed : (p : TracedBox → Bool) (xs : List TracedBox) (i : ℕ) (x : TracedBox) (begun before after : List Traced) → i < length xs → x ≡ get_or xs i x
      → before ≡ begun ++ flat_map f (filter p (take i xs)) → after ≡ before ++ trace_if (p x) (f x) → after ≡ begun ++ flat_map f (filter p (take (i + 1) xs))
  each_passed p xs i x begun before after h e a b =
      b ∙ rw (a, take_more xs i x h, ← e, filter-append p (take i xs) (x ∷ []), flat_map-append f (filter p (take i xs)) (filter p (x ∷ [])))
      (append_assoc begun (flat_map f (filter p (take i xs))) (trace_if (p x) (f x)) ∙ ap (λ t. begun ++ (flat_map f (filter p (take i xs)) ++ t)) (one (p x)))
    where
      one : (b : Bool) → trace_if b (f x) ≡ flat_map f (cond b (x ∷ []) [])
      one true = sym (append-nil (f x))
      one false = refl

  -- of those that pass two tests, one after the other
  pub each_kind : (p q : TracedBox → Bool) (xs : List TracedBox) (i : ℕ) (x : TracedBox) (begun before after : List Traced) → i < length xs → x ≡ get_or xs i x
      → before ≡ begun ++ flat_map f (filter q (filter p (take i xs))) → after ≡ before ++ trace_if (p x && q x) (f x) → after ≡ begun ++ flat_map f (filter q (filter p (take (i + 1) xs)))
  each_kind p q xs i x begun before after h e a b =
      each_passed (λ x. p x && q x) xs i x begun before after h e (a ∙ ap (λ ys. begun ++ flat_map f ys) (filter_both p q (take i xs))) b
      ∙ ap (λ ys. begun ++ flat_map f ys) (sym (filter_both p q (take (i + 1) xs)))

-- The same where all pass.
pub all_passed : {A B C : Type 0} (see : A → B) (f : B → List C) (xs : List A) (i : ℕ) (x : A) (begun before after : List C) → i < length xs → x ≡ get_or xs i x
    → before ≡ begun ++ flat_map f (map see (take i xs)) → after ≡ before ++ f (see x) → after ≡ begun ++ flat_map f (map see (take (i + 1) xs))
all_passed see f xs i x begun before after h e a b =
    b ∙ rw (a, take_more xs i x h, ← e, map-append see (take i xs) (x ∷ []), flat_map-append f (map see (take i xs)) (see x ∷ []))
    (append_assoc begun (flat_map f (map see (take i xs))) (f (see x)) ∙ ap (λ t. begun ++ (flat_map f (map see (take i xs)) ++ t)) (sym (append-nil (f (see x)))))

-- Lists put one on another.
module _ {A : Type 0} where
  pub two : (a b o o1 o2 : List A) → o1 ≡ o ++ a → o2 ≡ o1 ++ b → o2 ≡ o ++ (a ++ b)
  two a b o o1 o2 e f = f ∙ (ap (λ x. x ++ b) e ∙ append_assoc o a b)

  pub three : (a b c o o1 o2 o3 : List A) → o1 ≡ o ++ a → o2 ≡ o1 ++ b → o3 ≡ o2 ++ c → o3 ≡ o ++ (a ++ b ++ c)
  three a b c o o1 o2 o3 e f g = two (a ++ b) c o o2 o3 (two a b o o1 o2 e f) g

  pub four : (a b c d o1 o2 o3 o4 : List A) → o1 ≡ [] ++ a → o2 ≡ o1 ++ b → o3 ≡ o2 ++ c → o4 ≡ o3 ++ d → o4 ≡ a ++ b ++ c ++ d
  four a b c d o1 o2 o3 o4 e f g h = h ∙ ap (λ x. x ++ d) (g ∙ ap (λ x. x ++ c) (f ∙ ap (λ x. x ++ b) e))

  -- ten, of which some were put together before
  pub ten_in_four : (a1 a2 a3 a4 a5 a6 a7 a8 a9 a10 : List A)
      → (a1 ++ a2) ++ (a3 ++ a4 ++ a5) ++ (a6 ++ a7) ++ (a8 ++ a9 ++ a10) ≡ a1 ++ a2 ++ a3 ++ a4 ++ a5 ++ a6 ++ a7 ++ a8 ++ a9 ++ a10
  ten_in_four a1 a2 a3 a4 a5 a6 a7 a8 a9 a10 = simp append_assoc

  -- ten, the last two put together first
  pub ten_from_last : (a1 a2 a3 a4 a5 a6 a7 a8 a9 a10 : List A)
      → a1 ++ a2 ++ a3 ++ a4 ++ a5 ++ a6 ++ a7 ++ a8 ++ a9 ++ a10 ≡ a1 ++ (a2 ++ (a3 ++ (a4 ++ (a5 ++ (a6 ++ (a7 ++ (a8 ++ (a9 ++ a10))))))))
  ten_from_last a1 a2 a3 a4 a5 a6 a7 a8 a9 a10 = simp append_assoc

-- A leaf that covers the pixel, and one that does not.
pub seen_now : (s : Sight) (w : Placing) (l : Leaf) (o new : List Traced) (t : Traced) → covers l s.x s.y ≡ true → t ≡ at_first w l → new ≡ o ++ t ∷ [] → new ≡ o ++ seen s w (Some l)
seen_now s w l o new t h e n = n ∙ (ap (λ z. o ++ z ∷ []) e ∙ ap (λ b. o ++ cond b (at_first w l ∷ []) []) (sym h))

pub not_seen : (s : Sight) (w : Placing) (l : Leaf) (o : List Traced) → covers l s.x s.y ≡ false → o ≡ o ++ seen s w (Some l)
not_seen s w l o h = sym (append-nil o) ∙ ap (λ b. o ++ cond b (at_first w l ∷ []) []) (sym h)
