-- Reading lines one after another.
use Rattle.std.proofs.Common.{◌≡◌, ℕ, ◌+◌, ◌<◌, ◌≤◌, true, false, eqb, List, [], ◌∷◌, ◌++◌, length, map, take, get_or, Some, None, Result, Err, refl, sym, ap, ◌∙◌, arith, append_assoc, append-nil, length-append}
use Rattle.std.specs.Prelude.{◌&&◌}
use Rattle.std.specs.List.{AllByRecursion}
use Rattle.std.proofs.lemmas.Bool.{ne_eqb, eqb-false, and_left}
use Rattle.std.proofs.lemmas.List.{take_more, map_push}
use Rattle.rd_check.specs.declared.fault.CheckFault.{CheckFault}
use Rattle.rd_check.specs.declared.fault.CheckFault.TheVariants as faults
use Rattle.rd_list.specs.Entries.{flat}
use Rattle.rd_report.specs.Dumps.{NamedList}
use Rattle.rd_check.specs.Dumped.{IsDumpOf}
use Rattle.rd_check.specs.declared.row.Row as row
use Rattle.rd_check.specs.Internal.Reading.{Fails}
use Rattle.rd_check.specs.Rows.{NamedRow, rows, row_of}
use Rattle.rd_check.specs.Internal.Rows.{FitsRow, row_line, row_lines, row_at}
use Rattle.rd_check.specs.Internal.Nesting.{without_done, one_less, opened, may_come, nests, leaf_count, leaves_in}
use Rattle.rd_check.specs.Internal.Head.{head_line, leaves_at}
use Rattle.rd_check.proofs.Readers.{parts_are}
use Rattle.rd_check.proofs.RowLaws.{row_reader}
use Rattle.rd_check.proofs.Nests.{leaves-append}
use Rattle.rd_check.proofs.Lines.{all_join, row_lines-append, some_bytes, few_rows, no_line, same_front, dump_reader, dump_is}

-- some bytes are no lines of a nested list
abbrev pub AreNone : List ℕ → Type 0
AreNone bytes = (rs : List NamedRow) → AllByRecursion FitsRow rs → nests [] rs ≡ true → bytes ≡ row_lines rs → ⊥

-- what was read so far
pub record HasRead (bytes rest : List ℕ) (done : List NamedRow) (stack : List ℕ) : Type 0 where
  pub lines : bytes ≡ row_lines done ++ rest
  pub fit : AllByRecursion FitsRow done
  pub nested : (rs : List NamedRow) → nests [] (done ++ rs) ≡ nests stack rs

pub nothing_read : (bytes : List ℕ) → HasRead bytes bytes [] []
nothing_read bytes = record { lines = refl; fit = tt; nested = λ rs. refl }

pub read_more : (bytes rest after : List ℕ) (done : List NamedRow) (stack next : List ℕ) (r : NamedRow) → HasRead bytes rest done stack
    → row_at rest ≡ Some (r, after) → may_come (without_done stack) r ≡ true → next ≡ opened r (one_less (without_done stack))
    → HasRead bytes after (done ++ r ∷ []) next
read_more bytes rest after done stack next r h e may is =
    let t = row_reader.takes rest r after e in
    record {
      lines = h.lines ∙ ap (λ z. row_lines done ++ z) t.0 ∙ sym (append_assoc (row_lines done) (row_line r) after)
          ∙ ap (λ z. (row_lines done ++ z) ++ after) (sym (append-nil (row_line r)))
          ∙ ap (λ z. z ++ after) (sym (row_lines-append done (r ∷ [])));
      fit = all_join FitsRow done (r ∷ []) h.fit (t.1, tt);
      nested = λ rs. ap (nests []) (append_assoc done (r ∷ []) rs) ∙ h.nested (r ∷ rs)
          ∙ ap (λ b. b && nests (opened r (one_less (without_done stack))) rs) may ∙ ap (λ s. nests s rs) (sym is);
    }

pub shorter : (rest after : List ℕ) (r : NamedRow) → row_at rest ≡ Some (r, after) → length after < length rest
shorter rest after r e =
    let t = row_reader.takes rest r after e in
    let a = length-append (row_line r) after in
    let b = some_bytes r in
    let c : length rest ≡ length (row_line r ++ after) = ap length t.0 in
    omega (arith, a, b, c)

-- which fault a refusal has
pub err_is : {T : Type 0} (r : Result T CheckFault) (a b c : CheckFault) → r ≡ Err a → a ≡ c → r ≡ Err b → c ≡ b
err_is r a b c e f g = cc

-- what begins no line
pub no_more : (bytes rest : List ℕ) (done : List NamedRow) (stack : List ℕ) (e : CheckFault) → HasRead bytes rest done stack
    → Fails e (row_at rest) → 0 < length rest → e ≡ faults.Dump → AreNone bytes
no_more bytes rest done stack faults.NoMemory h f some is = λ rs fits nested e. absurd cc
no_more bytes rest done stack faults.Dump h f some is = λ rs fits nested e.
    let k = same_front done rs rest h.fit fits (sym h.lines ∙ e) in
    no_line rest k.0 f k.3 some k.2

-- a line that may not come
pub misplaced : (bytes rest after : List ℕ) (done : List NamedRow) (stack : List ℕ) (r : NamedRow) → HasRead bytes rest done stack
    → row_at rest ≡ Some (r, after) → 0 < length rest → may_come (without_done stack) r ≡ false → AreNone bytes
misplaced bytes rest after done stack r h e some may = λ rs fits nested is.
    let k = same_front done rs rest h.fit fits (sym h.lines ∙ is) in
    next k.0 k.1 k.2 k.3 nested
  where
    next : {rs : List NamedRow} → (zs : List NamedRow) → rs ≡ done ++ zs → rest ≡ row_lines zs → AllByRecursion FitsRow zs → nests [] rs ≡ true → ⊥
    next [] whole left fits nested = let n : length rest ≡ 0 = ap length left in omega (arith, n, some)
    next (z ∷ zs) whole left fits nested =
        let first : row_at rest ≡ Some (z, row_lines zs) = ap row_at left ∙ row_reader.again z (row_lines zs) fits.0 in
        let same = parts_are (r, after) (z, row_lines zs) (sym e ∙ first) in
        let none : nests stack (z ∷ zs) ≡ false = and_left (may_come (without_done stack) z) _ (ap (may_come (without_done stack)) (sym same.0) ∙ may) in
        let all : nests stack (z ∷ zs) ≡ true = sym (h.nested (z ∷ zs)) ∙ ap (nests []) (sym whole) ∙ nested in
        absurd cc

no_lines : (zs : List NamedRow) → row_lines zs ≡ [] → zs ≡ []
no_lines [] h = refl
no_lines (z ∷ zs) h =
    let a = length-append (row_line z) (row_lines zs) in
    let b = some_bytes z in
    let c : length (row_line z ++ row_lines zs) ≡ 0 = ap length h in
    absurd (omega (arith, a, b, c))

-- at the end a group wants more
pub unfinished : (bytes rest : List ℕ) (done : List NamedRow) (stack : List ℕ) → HasRead bytes rest done stack
    → length rest ≡ 0 → (length (without_done stack) ≡ 0 → ⊥) → AreNone bytes
unfinished bytes rest done stack h ended more = λ rs fits nested is.
    let k = same_front done rs rest h.fit fits (sym h.lines ∙ is) in
    let last : k.0 ≡ [] = no_lines k.0 (sym k.2 ∙ nil_of rest ended) in
    let ending : List NamedRow = [] in
    let all : nests stack ending ≡ true = sym (h.nested ending) ∙ ap (λ z. nests [] (done ++ z)) (sym last) ∙ ap (nests []) (sym k.1) ∙ nested in
    let none : nests stack ending ≡ false = ne_eqb _ 0 more in
    absurd cc
  where
    nil_of : (xs : List ℕ) → length xs ≡ 0 → xs ≡ []
    nil_of [] e = refl
    nil_of (x ∷ xs) e = absurd (omega (arith, e))

-- at the end no group wants more
pub finished : (bytes rest : List ℕ) (done : List NamedRow) (stack : List ℕ) → HasRead bytes rest done stack
    → length rest ≡ 0 → length (without_done stack) ≡ 0 → (bytes ≡ row_lines done) × (nests [] done ≡ true)
finished bytes rest done stack h ended none = (
  h.lines ∙ ap (λ z. row_lines done ++ z) (nil_of rest ended) ∙ append-nil (row_lines done),
  ap (nests []) (sym (append-nil done)) ∙ h.nested [] ∙ ap (λ n. eqb n 0) none,
)
  where
    nil_of : (xs : List ℕ) → length xs ≡ 0 → xs ≡ []
    nil_of [] e = refl
    nil_of (x ∷ xs) e = absurd (omega (arith, e))

-- ---- counting leaves

pub count_more : (rows : List row.Row) (i : ℕ) (x : row.Row) → i < length rows → x ≡ get_or rows i x
    → leaves_in (map row_of (take (i + 1) rows)) ≡ leaves_in (map row_of (take i rows)) + leaf_count (row_of x)
count_more rows i x h e =
    let more : take (i + 1) rows ≡ take i rows ++ x ∷ [] = take_more rows i x h ∙ ap (λ y. take i rows ++ y ∷ []) (sym e) in
    let a = leaves-append (map row_of (take i rows)) (row_of x ∷ []) in
    ap (λ z. leaves_in (map row_of z)) more ∙ ap leaves_in (map_push row_of (take i rows) x) ∙ omega (arith, a)

pub not_zero : (n : ℕ) → eqb n 0 ≡ false → 0 < n
not_zero n e = let k = eqb-false n 0 e in omega (arith, k)

-- ---- whole dumps

pub no_head : (dump : List ℕ) → None ≡ leaves_at dump → (list : NamedList) → IsDumpOf dump list → ⊥
no_head dump e list d =
    let k = dump_is dump list d in
    let again : leaves_at dump ≡ Some (length (flat list), row_lines (rows 0 list)) = ap leaves_at k.text_is ∙ dump_reader.again _ (row_lines (rows 0 list)) k.few in
    absurd cc

pub head_is : (dump rest : List ℕ) (n : ℕ) (list : NamedList) → Some (n, rest) ≡ leaves_at dump → IsDumpOf dump list
    → (n ≡ length (flat list)) × (rest ≡ row_lines (rows 0 list))
head_is dump rest n list e d =
    let k = dump_is dump list d in
    parts_are (n, rest) (length (flat list), row_lines (rows 0 list)) (e ∙ ap leaves_at k.text_is ∙ dump_reader.again _ (row_lines (rows 0 list)) k.few)

pub same_lines : (xs ys : List NamedRow) → AllByRecursion FitsRow xs → AllByRecursion FitsRow ys → row_lines xs ≡ row_lines ys → xs ≡ ys
same_lines xs ys f g e =
    let k = same_front xs ys [] f g (append-nil (row_lines xs) ∙ e) in
    sym (k.1 ∙ ap (λ z. xs ++ z) (no_lines k.0 (sym k.2)) ∙ append-nil xs)

pub no_rows : (dump rest : List ℕ) (n : ℕ) → Some (n, rest) ≡ leaves_at dump → AreNone rest → (list : NamedList) → IsDumpOf dump list → ⊥
no_rows dump rest n e none list d =
    let k = dump_is dump list d in
    none (rows 0 list) k.fits k.nested (head_is dump rest n list e d).1

-- another number of leaves
pub miscounted : (dump rest : List ℕ) (n : ℕ) (rs : List NamedRow) → Some (n, rest) ≡ leaves_at dump → rest ≡ row_lines rs → AllByRecursion FitsRow rs
    → (leaves_in rs ≡ n → ⊥) → (list : NamedList) → IsDumpOf dump list → ⊥
miscounted dump rest n rs e lines fit other list d =
    let k = dump_is dump list d in
    let h = head_is dump rest n list e d in
    let same = same_lines rs (rows 0 list) fit k.fits (sym lines ∙ h.1) in
    other (ap leaves_in same ∙ k.leaves ∙ sym h.0)

as_many : (items : List row.Row) → length (map row_of items) ≡ length items
as_many [] = refl
as_many (x ∷ items) = let k = as_many items in omega (arith, k)

pub few_lines : (dump rest : List ℕ) (n : ℕ) (items : List row.Row) → Some (n, rest) ≡ leaves_at dump → rest ≡ row_lines (map row_of items) → length items ≤ length dump
few_lines dump rest n items e lines =
    let t = (dump_reader.takes dump n rest (sym e)).0 in
    let a : length dump ≡ length (head_line n ++ rest) = ap length t in
    let b = length-append (head_line n) rest in
    let c : length rest ≡ length (row_lines (map row_of items)) = ap length lines in
    let d = few_rows (map row_of items) in
    let f = as_many items in
    omega (arith, a, b, c, d, f)
