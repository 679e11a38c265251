-- A stable sort by level is the list by level.
use Rattle.std.proofs.Common.{◌≡◌, refl, ap, ◌∙◌, true, false, cond, List, [], ◌∷◌, ℤ, map}
use Rattle.std.specs.Prelude.{int_lt}
use Rattle.std.specs.Borrow.{Bor}
use Rattle.rd_stack.proofs.Walk.Sorting.{put, sorted}
use Rattle.rd_trace.specs.Ways.{TracedBox, level_at}
use Rattle.rd_trace.specs.Steps.{insert_by_level, by_level}
use Rattle.rd_trace.specs.Internal.Pieces.{now}

-- the level of a box behind a reference
abbrev pub level_now : Bor TracedBox → ℤ
level_now y = level_at y.now.at

map-put : (x : Bor TracedBox) (ys : List (Bor TracedBox)) → map now (put level_now x ys) ≡ insert_by_level (now x) (map now ys)
map-put x [] = refl
map-put x (y ∷ ys) =
    elim (int_lt (level_at y.now.at) (level_at x.now.at)) as (λ t. map now (cond t (y ∷ put level_now x ys) (x ∷ y ∷ ys)) ≡ cond t (now y ∷ insert_by_level (now x) (map now ys)) (now x ∷ now y ∷ map now ys)) [
      | true ↦ ap (λ zs. now y ∷ zs) (map-put x ys)
      | false ↦ refl
    ]

-- behind references
pub sorted_now : (xs : List (Bor TracedBox)) → map now (sorted level_now xs) ≡ by_level (map now xs)
sorted_now [] = refl
sorted_now (x ∷ xs) = map-put x (sorted level_now xs) ∙ ap (insert_by_level (now x)) (sorted_now xs)
