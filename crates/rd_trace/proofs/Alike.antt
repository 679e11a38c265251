-- Traced boxes that are painted boxes.
use Rattle.std.proofs.Common.{◌≡◌, refl, sym, ap, ◌∙◌, subst, Bool, true, false, true≢false, ◌||◌, cond, List, [], ◌∷◌, ◌++◌}
use Rattle.std.specs.Prelude.{filter, flat_map, int_lt}
use Rattle.std.specs.List.{list_any}
use Rattle.rd_item.specs.declared.leaf.Leaf.{Leaf}
use Rattle.rd_list.specs.Wrappers.{Wrapper}
use Rattle.rd_list.specs.Entries.{Entries, each}
use Rattle.rd_stack.specs.Paths.{BoxPath}
use Rattle.rd_stack.specs.Painting as painting
use Rattle.rd_stack.specs.Painting.{Painted}
use Rattle.rd_trace.specs.declared.placing.Sight.{Sight}
use Rattle.rd_trace.specs.Ways.{Traced, TracedBox, level_at, entry_of}
use Rattle.rd_trace.specs.Steps as spec
use Rattle.rd_trace.proofs.Told.{Told, told_join, told_whole}

module _ (s : Sight) where
  -- the same box, its leaves told
  abbrev pub IsAlike : TracedBox → Painted → Type 0
  IsAlike x y = (x.at ≡ y.at) × (x.grouped ≡ y.grouped) × Told s x.order y.order

  -- the same boxes
  abbrev pub AreAlike : List TracedBox → List Painted → Type 0
  AreAlike [] [] = Unit {0}
  AreAlike [] (y ∷ ys) = ⊥
  AreAlike (x ∷ xs) [] = ⊥
  AreAlike (x ∷ xs) (y ∷ ys) = IsAlike x y × AreAlike xs ys

  pub alike_append : (xs us : List TracedBox) (ys vs : List Painted) → AreAlike xs ys → AreAlike us vs → AreAlike (xs ++ us) (ys ++ vs)
  alike_append [] us [] vs h k = k
  alike_append [] us (y ∷ ys) vs h k = absurd h
  alike_append (x ∷ xs) us [] vs h k = absurd h
  alike_append (x ∷ xs) us (y ∷ ys) vs h k = (h.0, alike_append xs us ys vs h.1 k)

  pub alike_filter : (q : BoxPath → Bool) (xs : List TracedBox) (ys : List Painted) → AreAlike xs ys → AreAlike (filter (λ x. q x.at) xs) (filter (λ y. q y.at) ys)
  alike_filter q [] [] h = tt
  alike_filter q [] (y ∷ ys) h = absurd h
  alike_filter q (x ∷ xs) [] h = absurd h
  alike_filter q (x ∷ xs) (y ∷ ys) h =
      subst (λ (p : BoxPath). AreAlike (cond (q x.at) (x ∷ filter (λ x. q x.at) xs) (filter (λ x. q x.at) xs)) (cond (q p) (y ∷ filter (λ y. q y.at) ys) (filter (λ y. q y.at) ys))) h.0.0
      (elim (q x.at) as (λ b. AreAlike (cond b (x ∷ filter (λ x. q x.at) xs) (filter (λ x. q x.at) xs)) (cond b (y ∷ filter (λ y. q y.at) ys) (filter (λ y. q y.at) ys))) [
        | true ↦ (h.0, alike_filter q xs ys h.1)
        | false ↦ alike_filter q xs ys h.1
      ])

  pub alike_any : (q : BoxPath → Bool) (xs : List TracedBox) (ys : List Painted) → AreAlike xs ys → list_any (λ x. q x.at) xs ≡ list_any (λ y. q y.at) ys
  alike_any q [] [] h = refl
  alike_any q [] (y ∷ ys) h = absurd h
  alike_any q (x ∷ xs) [] h = absurd h
  alike_any q (x ∷ xs) (y ∷ ys) h = ap (λ p. q p || list_any (λ x. q x.at) xs) h.0.0 ∙ ap (λ b. q y.at || b) (alike_any q xs ys h.1)

  pub alike_each : (f : TracedBox → List Traced) (g : Painted → Entries Wrapper Leaf) (xs : List TracedBox) (ys : List Painted)
      → ((x : TracedBox) (y : Painted) → IsAlike x y → Told s (f x) (g y)) → AreAlike xs ys → Told s (flat_map f xs) (each g ys)
  alike_each f g [] [] k h = record { is = refl }
  alike_each f g [] (y ∷ ys) k h = absurd h
  alike_each f g (x ∷ xs) [] k h = absurd h
  alike_each f g (x ∷ xs) (y ∷ ys) k h = told_join s (f x) (flat_map f xs) (g y) (each g ys) (k x y h.0) (alike_each f g xs ys k h.1)

  alike_insert : (x : TracedBox) (y : Painted) (xs : List TracedBox) (ys : List Painted) → IsAlike x y → AreAlike xs ys → AreAlike (spec.insert_by_level x xs) (painting.insert_by_level y ys)
  alike_insert x y [] [] h k = (h, tt)
  alike_insert x y [] (v ∷ vs) h k = absurd k
  alike_insert x y (u ∷ us) [] h k = absurd k
  alike_insert x y (u ∷ us) (v ∷ vs) h k =
      by (alike_insert x y us vs h k.1) (int_lt (level_at u.at) (level_at x.at)) (int_lt (painting.level_of v) (painting.level_of y)) (ap (λ p. int_lt (level_at p) (level_at x.at)) k.0.0 ∙ ap (λ p. int_lt (level_at v.at) (level_at p)) h.0)
    where
      by : AreAlike (spec.insert_by_level x us) (painting.insert_by_level y vs) → (b c : Bool) → b ≡ c
          → AreAlike (cond b (u ∷ spec.insert_by_level x us) (x ∷ u ∷ us)) (cond c (v ∷ painting.insert_by_level y vs) (y ∷ v ∷ vs))
      by m true true e = (k.0, m)
      by m false false e = (h, k)
      by m true false e = absurd (true≢false e)
      by m false true e = absurd (true≢false (sym e))

  pub alike_by_level : (xs : List TracedBox) (ys : List Painted) → AreAlike xs ys → AreAlike (spec.by_level xs) (painting.by_level ys)
  alike_by_level [] [] h = tt
  alike_by_level [] (y ∷ ys) h = absurd h
  alike_by_level (x ∷ xs) [] h = absurd h
  alike_by_level (x ∷ xs) (y ∷ ys) h = alike_insert x y (spec.by_level xs) (painting.by_level ys) h.0 (alike_by_level xs ys h.1)

  pub told_entry : (x : TracedBox) (y : Painted) → IsAlike x y → Told s (entry_of x) (painting.entry_of y)
  told_entry x y h = rw (h.0, h.1) (told_whole s (painting.wrapper_of y.at) y.grouped x.order y.order h.2)
