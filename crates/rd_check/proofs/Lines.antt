-- The lines of a dumped list.
use Rattle.std.proofs.Common.{◌≡◌, ℕ, ◌+◌, ◌^◌, ◌<◌, ◌≤◌, Bool, true, false, cond, List, [], ◌∷◌, ◌++◌, length, Some, None, refl, sym, ap, subst, ◌∙◌, arith, append_assoc, length-append}
use Rattle.std.specs.Prelude.{codes, decimal}
use Rattle.std.specs.Str.{bytes_eq}
use Rattle.std.specs.List.{AllByRecursion}
use Rattle.rd_list.specs.Entries.{Entries, nil, leaf, group, flat, wrappers, list_size}
use Rattle.rd_report.specs.Dumps.{NamedList, width, item_line, group_line, lines, dump_lines}
use Rattle.rd_check.specs.Dumped.{IsItem, IsGroup, IsDumpOf}
use Rattle.rd_check.specs.Internal.Reading.{◌>>=◌, field, word_before, number_of}
use Rattle.rd_check.specs.Rows.{item, head, NamedRow, rows}
use Rattle.rd_check.specs.Internal.Rows.{FitsRow, row_line, row_lines, row_at}
use Rattle.rd_check.specs.Internal.Nesting.{nests, leaves_in}
use Rattle.rd_check.specs.Internal.Head.{head_line, after_dump, leaves_at}
use Rattle.rd_check.proofs.Spelled.{bytes_same}
use Rattle.rd_check.proofs.Readers.{bind_some, parts_are, IsReader, word_takes, word_again, field_reader}
use Rattle.rd_check.proofs.Codes.{number_code}
use Rattle.rd_check.proofs.RowLaws.{row_reader}
use Rattle.rd_check.proofs.Nests.{IsWhole, group_parts, list_nests, nested_list, leaves-rows, length-rows}

-- ---- lists of facts

pub all_join : {X : Type 0} (P : X → Type 0) (xs ys : List X) → AllByRecursion P xs → AllByRecursion P ys → AllByRecursion P (xs ++ ys)
all_join P [] ys h k = k
all_join P (x ∷ xs) ys h k = (h.0, all_join P xs ys h.1 k)

pub all_parts : {X : Type 0} (P : X → Type 0) (xs ys : List X) → AllByRecursion P (xs ++ ys) → AllByRecursion P xs × AllByRecursion P ys
all_parts P [] ys h = (tt, h)
all_parts P (x ∷ xs) ys h = let p = all_parts P xs ys h.1 in ((h.0, p.0), p.1)

-- ---- the texts of lines

pub row_lines-append : (xs ys : List NamedRow) → row_lines (xs ++ ys) ≡ row_lines xs ++ row_lines ys
row_lines-append [] ys = refl
row_lines-append (r ∷ xs) ys = ap (λ z. row_line r ++ z) (row_lines-append xs ys) ∙ sym (append_assoc (row_line r) (row_lines xs) (row_lines ys))

pub lines_are : (depth : ℕ) (list : NamedList) → lines depth list ≡ row_lines (rows depth list)
lines_are depth nil = refl
lines_are depth (leaf i rest) = ap (λ z. item_line depth i ++ z) (lines_are depth rest)
lines_are depth (group g inner rest) =
    append_assoc (group_line depth g (width inner)) (lines (depth + 1) inner) (lines depth rest)
    ∙ ap (λ z. group_line depth g (width inner) ++ z)
    (ap (λ z. z ++ lines depth rest) (lines_are (depth + 1) inner) ∙ ap (λ z. row_lines (rows (depth + 1) inner) ++ z) (lines_are depth rest)
    ∙ sym (row_lines-append (rows (depth + 1) inner) (rows depth rest)))

pub some_bytes : (r : NamedRow) → 0 < length (row_line r)
some_bytes (item d i) = omega arith
some_bytes (head d g n) = omega arith

pub few_rows : (rs : List NamedRow) → length rs ≤ length (row_lines rs)
few_rows [] = omega arith
few_rows (r ∷ rs) = let a = length-append (row_line r) (row_lines rs) in let b = some_bytes r in let c = few_rows rs in omega (arith, a, b, c)

-- what is no line begins no lines
pub no_line : (bytes : List ℕ) (rs : List NamedRow) → row_at bytes ≡ None → AllByRecursion FitsRow rs → 0 < length bytes → bytes ≡ row_lines rs → ⊥
no_line bytes [] none fits some e = let k : length bytes ≡ 0 = ap length e in omega (arith, k, some)
no_line bytes (r ∷ rs) none fits some e = let k : row_at bytes ≡ Some (r, row_lines rs) = ap row_at e ∙ row_reader.again r (row_lines rs) fits.0 in absurd cc

-- lines that begin with others are these and some more
pub same_front : (xs ys : List NamedRow) (rest : List ℕ) → AllByRecursion FitsRow xs → AllByRecursion FitsRow ys → row_lines xs ++ rest ≡ row_lines ys
    → (zs : List NamedRow) × (ys ≡ xs ++ zs) × (rest ≡ row_lines zs) × AllByRecursion FitsRow zs
same_front [] ys rest f g e = (ys, refl, e, g)
same_front (x ∷ xs) [] rest f g e =
    let k = some_bytes x in
    let a = length-append (row_line x ++ row_lines xs) rest in
    let b = length-append (row_line x) (row_lines xs) in
    let c : length ((row_line x ++ row_lines xs) ++ rest) ≡ 0 = ap length e in
    absurd (omega (arith, a, b, c, k))
same_front (x ∷ xs) (y ∷ ys) rest f g e =
    let first : row_at ((row_line x ++ row_lines xs) ++ rest) ≡ Some (x, row_lines xs ++ rest) =
    ap row_at (append_assoc (row_line x) (row_lines xs) rest) ∙ row_reader.again x (row_lines xs ++ rest) f.0 in
    let second : row_at (row_line y ++ row_lines ys) ≡ Some (y, row_lines ys) = row_reader.again y (row_lines ys) g.0 in
    let both = parts_are (x, row_lines xs ++ rest) (y, row_lines ys) (sym first ∙ ap row_at e ∙ second) in
    let k = same_front xs ys rest f.1 g.1 both.1 in
    (k.0, ap (λ z. z ∷ ys) (sym both.0) ∙ ap (λ z. x ∷ z) k.1, k.2, k.3)

-- ---- the first line

dump_takes : (bytes : List ℕ) (n : ℕ) (rest : List ℕ) → leaves_at bytes ≡ Some (n, rest) → (bytes ≡ head_line n ++ rest) × (n < 2 ^ 64)
dump_takes bytes n rest e =
    let a = bind_some (word_before 32 bytes) (λ w. after_dump w.0 w.1) (n, rest) e in
    let t = word_takes 32 bytes a.0.0 a.0.1 a.1 in
    by_test a.0.0 a.0.1 t (bytes_eq a.0.0 (codes "dump")) refl a.2
  where
    by_test : (w after : List ℕ) → bytes ≡ w ++ 32 ∷ after → (t : Bool) → bytes_eq w (codes "dump") ≡ t
        → cond t (field number_of 10 after) None ≡ Some (n, rest) → (bytes ≡ head_line n ++ rest) × (n < 2 ^ 64)
    by_test w after is true f g =
        let k = (field_reader number_of decimal (λ n. n < 2 ^ 64) number_code 10 refl).takes after n rest g in
        (is ∙ ap (λ z. z ++ 32 ∷ after) (bytes_same w (codes "dump") f) ∙ ap (λ z. codes "dump" ++ 32 ∷ z) k.0, k.1)
    by_test w after is false f g = absurd cc

dump_again : (n : ℕ) (rest : List ℕ) → n < 2 ^ 64 → leaves_at (head_line n ++ rest) ≡ Some (n, rest)
dump_again n rest h =
    ap (λ z. z >>= λ w. after_dump w.0 w.1) (word_again 32 (codes "dump") ((decimal n ++ 10 ∷ []) ++ rest) refl refl)
    ∙ (field_reader number_of decimal (λ n. n < 2 ^ 64) number_code 10 refl).again n rest h

pub dump_reader : IsReader leaves_at head_line (λ n. n < 2 ^ 64)
dump_reader = record { takes = dump_takes; again = dump_again }

-- ---- whole dumps

rows_fit : (depth : ℕ) (list : NamedList) → AllByRecursion IsItem (flat list) → AllByRecursion IsGroup (wrappers list) → IsWhole depth list → list_size list < 2 ^ 64
    → AllByRecursion FitsRow (rows depth list)
rows_fit depth nil i g w s = tt
rows_fit depth (leaf l rest) i g w s =
    let d = w.deep in
    ((omega (arith, d), i.0), rows_fit depth rest i.1 g (record { filled = w.filled; deep = w.deep }) (omega (arith, s)))
rows_fit depth (group h inner rest) i g w s =
    let p = group_parts depth h inner rest w in
    let room = p.room in
    let a = all_parts IsItem (flat inner) (flat rest) i in
    let b = all_parts IsGroup (wrappers inner) (wrappers rest) g.1 in
    let c = few_wide inner in (
      (omega (arith, room), g.0, omega (arith, s, c)),
      all_join FitsRow (rows (depth + 1) inner) (rows depth rest) (rows_fit (depth + 1) inner a.0 b.0 p.within (omega (arith, s))) (rows_fit depth rest a.1 b.1 p.after (omega (arith, s))),
    )
  where
    few_wide : (xs : NamedList) → width xs ≤ list_size xs
    few_wide nil = omega arith
    few_wide (leaf l rest) = let k = few_wide rest in omega (arith, k)
    few_wide (group h inner rest) = let k = few_wide rest in omega (arith, k)

list_fits : (depth : ℕ) (list : NamedList) → AllByRecursion FitsRow (rows depth list) → AllByRecursion IsItem (flat list) × AllByRecursion IsGroup (wrappers list)
list_fits depth nil h = (tt, tt)
list_fits depth (leaf l rest) h = let k = list_fits depth rest h.1 in ((h.0.1, k.0), k.1)
list_fits depth (group g inner rest) h =
    let p = all_parts FitsRow (rows (depth + 1) inner) (rows depth rest) h.1 in
    let a = list_fits (depth + 1) inner p.0 in
    let b = list_fits depth rest p.1 in
    (all_join IsItem (flat inner) (flat rest) a.0 b.0, (h.0.1, all_join IsGroup (wrappers inner) (wrappers rest) a.1 b.1))

-- lines that nest after a first line that counts their leaves are a dump
pub is_dump : (text rest : List ℕ) (n : ℕ) (rs : List NamedRow) → text ≡ head_line n ++ rest → rest ≡ row_lines rs → AllByRecursion FitsRow rs
    → nests [] rs ≡ true → leaves_in rs ≡ n → length text < 2 ^ 64 → (list : NamedList) × IsDumpOf text list × (rs ≡ rows 0 list)
is_dump text rest n rs first is fits nested count few =
    let k = nested_list rs nested in
    let f = list_fits 0 k.0 (subst (AllByRecursion FitsRow) k.1 fits) in
    let leaves : n ≡ length (flat k.0) = sym count ∙ ap leaves_in k.1 ∙ leaves-rows 0 k.0 in
    let text_is : text ≡ dump_lines k.0 = first ∙ ap (λ z. head_line n ++ z) (is ∙ ap row_lines k.1 ∙ sym (lines_are 0 k.0)) ∙ ap (λ z. head_line z ++ lines 0 k.0) leaves in
    let size = length-rows 0 k.0 in
    let l1 = few_rows rs in
    let l2 = length-append (head_line n) rest in
    let l3 : length rest ≡ length (row_lines rs) = ap length is in
    let l4 : length text ≡ length (head_line n ++ rest) = ap length first in
    let l5 : length rs ≡ length (rows 0 k.0) = ap length k.1 in
    let deep = k.2.deep in (
      k.0,
      record {
        dumped = record { items = f.0; groups = f.1; filled = k.2.filled; depth = omega (arith, deep); size = omega (arith, size, l1, l2, l3, l4, l5, few) };
        text_is = text_is;
      },
      k.1,
    )

-- what a dump is
pub record IsOf (text : List ℕ) (list : NamedList) : Type 0 where
  pub text_is : text ≡ head_line (length (flat list)) ++ row_lines (rows 0 list)
  pub few : length (flat list) < 2 ^ 64
  pub fits : AllByRecursion FitsRow (rows 0 list)
  pub nested : nests [] (rows 0 list) ≡ true
  pub leaves : leaves_in (rows 0 list) ≡ length (flat list)

few_leaves : {G L : Type 0} (list : Entries G L) → length (flat list) ≤ list_size list
few_leaves nil = omega arith
few_leaves (leaf l rest) = let k = few_leaves rest in omega (arith, k)
few_leaves (group g inner rest) = let a = length-append (flat inner) (flat rest) in let b = few_leaves inner in let c = few_leaves rest in omega (arith, a, b, c)

pub dump_is : (text : List ℕ) (list : NamedList) → IsDumpOf text list → IsOf text list
dump_is text list d =
    let deep = d.dumped.depth in
    let size = d.dumped.size in
    let few = few_leaves list in
    let whole : IsWhole 0 list = record { filled = d.dumped.filled; deep = omega (arith, deep) } in
    record {
      text_is = d.text_is ∙ ap (λ z. head_line (length (flat list)) ++ z) (lines_are 0 list);
      few = omega (arith, few, size);
      fits = rows_fit 0 list d.dumped.items d.dumped.groups whole size;
      nested = list_nests list whole;
      leaves = leaves-rows 0 list;
    }
