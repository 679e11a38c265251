-- The entries of a dump by ids, by keys, and by their lines.
use Rattle.std.proofs.Common.{◌≡◌, ℕ, ◌+◌, List, [], ◌∷◌, ◌++◌, map, refl, sym, ap, ◌∙◌, arith}
use Rattle.std.proofs.lemmas.List.{map-append}
use Rattle.rd_list.specs.Entries.{nil, leaf, group}
use Rattle.rd_tree.specs.Document.{Document}
use Rattle.rd_report.specs.Dumps.{NamedGroup, NamedList, width}
use Rattle.rd_check.specs.Listed.{listed}
use Rattle.rd_check.specs.Checked.{id_at, keyed, leaf_of_item, wrapper_of}
use Rattle.rd_check.specs.Rows.{item, head, rows}
use Rattle.rd_check.specs.Internal.Keyed.{row_id, keyed_row}

pub ids_rows : (round : List NamedGroup) (depth : ℕ) (list : NamedList) → map id_at (listed round list) ≡ map row_id (rows depth list)
ids_rows round depth nil = refl
ids_rows round depth (leaf i rest) = ap (λ z. i.id ∷ z) (ids_rows round depth rest)
ids_rows round depth (group g inner rest) =
    ap (λ z. g.id ∷ z)
    (map-append id_at (listed (round ++ g ∷ []) inner) (listed round rest)
    ∙ ap (λ z. z ++ map id_at (listed round rest)) (ids_rows (round ++ g ∷ []) (depth + 1) inner)
    ∙ ap (λ z. map row_id (rows (depth + 1) inner) ++ z) (ids_rows round depth rest)
    ∙ sym (map-append row_id (rows (depth + 1) inner) (rows depth rest)))

width_keyed : (t : Document) (list : NamedList) → width (keyed t list) ≡ width list
width_keyed t nil = refl
width_keyed t (leaf i rest) = let k = width_keyed t rest in omega (arith, k)
width_keyed t (group g inner rest) = let k = width_keyed t rest in omega (arith, k)

pub keyed_rows : (t : Document) (depth : ℕ) (list : NamedList) → rows depth (keyed t list) ≡ map (keyed_row t) (rows depth list)
keyed_rows t depth nil = refl
keyed_rows t depth (leaf i rest) = ap (λ z. item depth (leaf_of_item t i) ∷ z) (keyed_rows t depth rest)
keyed_rows t depth (group g inner rest) =
    ap (λ n. head depth (wrapper_of t g) n ∷ rows (depth + 1) (keyed t inner) ++ rows depth (keyed t rest)) (width_keyed t inner)
    ∙ ap (λ z. head depth (wrapper_of t g) (width inner) ∷ z)
    (ap (λ z. z ++ rows depth (keyed t rest)) (keyed_rows t (depth + 1) inner)
    ∙ ap (λ z. map (keyed_row t) (rows (depth + 1) inner) ++ z) (keyed_rows t depth rest)
    ∙ sym (map-append (keyed_row t) (rows (depth + 1) inner) (rows depth rest)))
