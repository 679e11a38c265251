-- A stable sort by level is the list by level.
use Rattle.std.proofs.Common.{◌≡◌, refl, ap, ◌∙◌, true, false, cond, List, [], ◌∷◌, map}
use Rattle.std.specs.Prelude.{int_lt}
use Rattle.rd_partial.specs.declared.lists.LayerOrder.{LayerOrder}
use Rattle.rd_partial.specs.Internal.Held.{held_stack}
use Rattle.rd_partial.specs.Internal.ContextLists as lists
use Rattle.rd_stack.proofs.Walk.Sorting.{put, sorted}

map-put : {A : Type 0} (x : LayerOrder A) (ys : List (LayerOrder A)) → map held_stack (put (λ (y : LayerOrder A). y.level) x ys) ≡ lists.insert_layer (held_stack x) (map held_stack ys)
map-put x [] = refl
map-put {A = A} x (y ∷ ys) =
    elim (int_lt y.level x.level) as (λ t. map held_stack (cond t (y ∷ put (λ (z : LayerOrder A). z.level) x ys) (x ∷ y ∷ ys)) ≡ cond t (held_stack y ∷ lists.insert_layer (held_stack x) (map held_stack ys)) (held_stack x ∷ held_stack y ∷ map held_stack ys)) [
      | true ↦ ap (λ zs. held_stack y ∷ zs) (map-put x ys)
      | false ↦ refl
    ]

-- the list by level, of what the layers stand for
pub held_sorted : {A : Type 0} (xs : List (LayerOrder A)) → map held_stack (sorted (λ (y : LayerOrder A). y.level) xs) ≡ lists.by_level (map held_stack xs)
held_sorted [] = refl
held_sorted {A = A} (x ∷ xs) = map-put x (sorted (λ (y : LayerOrder A). y.level) xs) ∙ ap (lists.insert_layer (held_stack x)) (held_sorted xs)
