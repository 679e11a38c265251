-- The lines of a list, each with the groups round it.
use Rattle.std.proofs.Common.{◌≡◌, ℕ, ◌+◌, List, [], ◌∷◌, ◌++◌, map, take, length, Option, Some, None, refl, sym, ap, ◌∙◌, arith, append_assoc, append-nil}
use Rattle.std.proofs.lemmas.List.{map-append, take_all, take_at, take-take, length-append}
use Rattle.rd_item.specs.declared.leaf.Leaf.{Leaf}
use Rattle.rd_list.specs.Wrappers.{Wrapper}
use Rattle.rd_list.specs.Entries.{Entries, nil, leaf, group}
use Rattle.rd_report.specs.Dumps.{width}
use Rattle.rd_check.specs.Listed.{Listed, item, head, listed, entries_of}
use Rattle.rd_check.specs.Verdicts.{name_of}
use Rattle.rd_check.specs.Rows as line
use Rattle.rd_check.specs.Rows.{rows}
use Rattle.rd_check.specs.Internal.Lines.{KeyedRow, row_name}
use Rattle.rd_check.specs.Internal.Finding.{row_leaf}

-- lines below these groups, but for those that end before
abbrev pub with_paths : List Wrapper → List KeyedRow → List (Listed Wrapper Leaf)
with_paths p [] = []
with_paths p (line.item d l ∷ rs) = item (take d p) l ∷ with_paths (take d p) rs
with_paths p (line.head d g n ∷ rs) = head (take d p) g ∷ with_paths (take d p ++ g ∷ []) rs

paths_more : (list : Entries Wrapper Leaf) (p q : List Wrapper) → take (length q) p ≡ q
    → (more : List KeyedRow) (tail : List (Listed Wrapper Leaf)) → ((p' : List Wrapper) → take (length q) p' ≡ q → with_paths p' more ≡ tail)
    → with_paths p (rows (length q) list ++ more) ≡ listed q list ++ tail
paths_more nil p q e more tail k = k p e
paths_more (leaf l rest) p q e more tail k =
    ap (λ z. item z l ∷ with_paths z (rows (length q) rest ++ more)) e
    ∙ ap (λ z. item q l ∷ z) (paths_more rest q q (take_all (length q) q (omega arith)) more tail k)
paths_more (group g inner rest) p q e more tail k =
    let inside : List Wrapper = q ++ g ∷ [] in
    let size : length inside ≡ length q + 1 = length-append q (g ∷ []) in
    let next : (p' : List Wrapper) → take (length inside) p' ≡ inside → with_paths p' (rows (length q) rest ++ more) ≡ listed q rest ++ tail =
    λ p' f. paths_more rest p' q (front q g p' size f) more tail k in
    let deep : with_paths inside (rows (length inside) inner ++ (rows (length q) rest ++ more)) ≡ listed inside inner ++ (listed q rest ++ tail) =
    paths_more inner inside inside (take_all (length inside) inside (omega arith)) (rows (length q) rest ++ more) (listed q rest ++ tail) next in
    ap (λ z. head z g ∷ with_paths (z ++ g ∷ []) ((rows (length q + 1) inner ++ rows (length q) rest) ++ more)) e
    ∙ ap (λ z. head q g ∷ z)
    (ap (with_paths inside) (append_assoc (rows (length q + 1) inner) (rows (length q) rest) more)
    ∙ ap (λ n. with_paths inside (rows n inner ++ (rows (length q) rest ++ more))) (sym size)
    ∙ deep
    ∙ sym (append_assoc (listed inside inner) (listed q rest) tail))
  where
    front : (q : List Wrapper) (g : Wrapper) (p' : List Wrapper) → length (q ++ g ∷ []) ≡ length q + 1 → take (length (q ++ g ∷ [])) p' ≡ q ++ g ∷ [] → take (length q) p' ≡ q
    front q g p' size f =
        sym (take-take (length q) (length (q ++ g ∷ [])) p' (omega (arith, size)))
        ∙ ap (take (length q)) f
        ∙ take_at q (g ∷ []) (length q) refl

-- the lines of a list are its entries
pub paths_are : (list : Entries Wrapper Leaf) → with_paths [] (rows 0 list) ≡ entries_of list
paths_are list =
    ap (with_paths []) (sym (append-nil (rows 0 list)))
    ∙ paths_more list [] [] refl [] [] (λ p' e. refl)
    ∙ append-nil (listed [] list)

pub names_rows : (round : List Wrapper) (depth : ℕ) (list : Entries Wrapper Leaf) → map name_of (listed round list) ≡ map row_name (rows depth list)
names_rows round depth nil = refl
names_rows round depth (leaf l rest) = ap (λ z. row_name (line.item depth l) ∷ z) (names_rows round depth rest)
names_rows round depth (group g inner rest) =
    ap (λ z. row_name (line.head depth g (width inner)) ∷ z)
    (map-append name_of (listed (round ++ g ∷ []) inner) (listed round rest)
    ∙ ap (λ z. z ++ map name_of (listed round rest)) (names_rows (round ++ g ∷ []) (depth + 1) inner)
    ∙ ap (λ z. map row_name (rows (depth + 1) inner) ++ z) (names_rows round depth rest)
    ∙ sym (map-append row_name (rows (depth + 1) inner) (rows depth rest)))

-- the leaf of an entry, where it is one
abbrev pub listed_leaf : Listed Wrapper Leaf → Option Leaf
listed_leaf (item round l) = Some l
listed_leaf (head round g) = None

pub leaves_rows : (round : List Wrapper) (depth : ℕ) (list : Entries Wrapper Leaf) → map listed_leaf (listed round list) ≡ map row_leaf (rows depth list)
leaves_rows round depth nil = refl
leaves_rows round depth (leaf l rest) = ap (λ z. row_leaf (line.item depth l) ∷ z) (leaves_rows round depth rest)
leaves_rows round depth (group g inner rest) =
    ap (λ z. row_leaf (line.head depth g (width inner)) ∷ z)
    (map-append listed_leaf (listed (round ++ g ∷ []) inner) (listed round rest)
    ∙ ap (λ z. z ++ map listed_leaf (listed round rest)) (leaves_rows (round ++ g ∷ []) (depth + 1) inner)
    ∙ ap (λ z. map row_leaf (rows (depth + 1) inner) ++ z) (leaves_rows round depth rest)
    ∙ sym (map-append row_leaf (rows (depth + 1) inner) (rows depth rest)))
