-- Lines whose ids are those of boxes, one after another.
use Rattle.std.proofs.Common.{◌≡◌, ℕ, ◌+◌, ◌<◌, ◌≤◌, not, List, [], ◌∷◌, ◌++◌, length, map, take, get_or, Some, None, Vec, Global, refl, sym, ap, subst, ◌∙◌, arith, inl, inr}
use Rattle.std.specs.Prelude.{option_map, slice_get, ◌&&◌}
use Rattle.std.proofs.lemmas.Bool.{cases_lt}
use Rattle.std.proofs.lemmas.List.{take_more, take_all, map_push}
use Rattle.std.proofs.lemmas.Option.{slice_get-map, slice_get_read, slice_get_within}
use Rattle.rd_graph.specs.Orders as orders
use Rattle.rd_graph.proofs.Lists.Listing.{Once}
use Rattle.rd_item.specs.declared.leaf.Leaf.{Leaf}
use Rattle.rd_item.specs.Items.{Made}
use Rattle.rd_list.specs.Wrappers.{Wrapper}
use Rattle.rd_list.specs.Entries.{Entries, nil, leaf, group, is_empty, routes, no_group_is_empty}
use Rattle.rd_list.specs.EntryNames.{new_leaves}
use Rattle.rd_list.specs.Lists.{StandsFor}
use Rattle.rd_tree.specs.Document.{BoxKey, Document, named}
use Rattle.rd_stack.specs.Fresh.{fresh_list}
use Rattle.rd_partial.specs.Numbered.{numbered}
use Rattle.rd_report.specs.Dumps.{NamedList}
use Rattle.rd_check.specs.declared.row.Row as row
use Rattle.rd_check.specs.declared.row.What as what
use Rattle.rd_check.specs.declared.row.What.TheVariants as whats
use Rattle.rd_check.specs.declared.naming.Entry as entry
use Rattle.rd_check.specs.declared.naming.Named.{Named}
use Rattle.rd_check.specs.declared.naming.Named.TheVariants as found
use Rattle.rd_check.specs.declared.verdict.Verdict.{Verdict}
use Rattle.rd_check.specs.declared.verdict.Verdict.TheVariants.{Unknown, Twice, Extra, Differs, Wrapped, Missing, Order, Yes}
use Rattle.rd_check.specs.Dumped.{IsDumpOf}
use Rattle.rd_check.specs.Verdicts.{IsFirst, Never, Says}
use Rattle.rd_check.specs.Checked.{IsUnknown, keyed, IsVerdict, IsChecked}
use Rattle.rd_check.specs.Rows.{NamedRow, row_of, rows}
use Rattle.rd_check.specs.Internal.Lines.{KeyedRow, Way}
use Rattle.rd_check.specs.Internal.Keyed.{shown, row_id, keyed_row, IsUnknownId, IsNamed}
use Rattle.rd_check.specs.Internal.Finding.{way_name, Tells}
use Rattle.rd_check.proofs.KeyedLaws.{ids_rows, keyed_rows}
use Rattle.rd_check.proofs.Standing.{own_once}
use Rattle.rd_check.proofs.Slots.{once_to}
use Rattle.rd_check.proofs.Told.{table}

abbrev ids : List row.Row → List (List ℕ)
ids items = map row_id (map row_of items)

id_at_place : (items : List row.Row) (i : ℕ) (x : row.Row) → i < length items → x ≡ get_or items i x → slice_get (ids items) i ≡ Some (row_id (row_of x))
id_at_place items i x h e =
    slice_get-map row_id (map row_of items) i ∙ ap (option_map row_id) (slice_get-map row_of items i)
    ∙ ap (λ o. option_map row_id (option_map row_of o)) (slice_get_read items (length items) i x refl h e)

-- those so far have boxes
pub record AreNamed (t : Document) (items : List row.Row) (entries : List entry.Entry) (i : ℕ) : Type 0 where
  pub keyed : map shown entries ≡ map (keyed_row t) (map row_of (take i items))
  pub known : (j : ℕ) → j < i → IsUnknownId t (ids items) j → ⊥

pub none_named : (t : Document) (items : List row.Row) → AreNamed t items [] 0
none_named t items = record { keyed = refl; known = λ j h u. omega (arith, h) }

pub name_more : (t : Document) (items : List row.Row) (entries next : List entry.Entry) (i : ℕ) (x : row.Row) (e : entry.Entry) → AreNamed t items entries i
    → i < length items → x ≡ get_or items i x → (named (row_id (row_of x)) t.boxes ≡ None → ⊥) → shown e ≡ keyed_row t (row_of x) → next ≡ entries ++ e ∷ []
    → AreNamed t items next (i + 1)
name_more t items entries next i x e h within is some same more =
    let front : take (i + 1) items ≡ take i items ++ x ∷ [] = take_more items i x within ∙ ap (λ y. take i items ++ y ∷ []) (sym is) in
    record {
      keyed = ap (map shown) more ∙ map_push shown entries e ∙ ap (λ z. z ++ shown e ∷ []) h.keyed
          ∙ ap (λ z. map (keyed_row t) (map row_of (take i items)) ++ z ∷ []) same
          ∙ sym (map_push (keyed_row t) (map row_of (take i items)) (row_of x))
          ∙ ap (map (keyed_row t)) (sym (map_push row_of (take i items) x) ∙ sym (ap (map row_of) front));
      known = λ j below u. elim (cases_lt j i) [
        | inl l ↦ h.known j l u
        | inr l ↦
            let at : j ≡ i = omega (arith, below, l) in
            let there : slice_get (ids items) j ≡ Some (row_id (row_of x)) = ap (slice_get (ids items)) at ∙ id_at_place items i x within is in
            let here = u.1 in
            let id : u.0 ≡ row_id (row_of x) = same_some _ _ (sym here ∙ there) in
            some (ap (λ z. named z t.boxes) (sym id) ∙ u.2)
      ];
    }
  where
    same_some : (a b : List ℕ) → Some a ≡ Some b → a ≡ b
    same_some a b f = cc

pub not_named : (t : Document) (items : List row.Row) (entries : List entry.Entry) (i : ℕ) (x : row.Row) → AreNamed t items entries i
    → i < length items → x ≡ get_or items i x → named (row_id (row_of x)) t.boxes ≡ None → IsNamed t (map row_of items) (found.Unknown i)
not_named t items entries i x h within is none =
    (record { holds = (row_id (row_of x), id_at_place items i x within is, none); least = h.known }, as_many items within)
  where
    as_many : (xs : List row.Row) → i < length xs → i < length (map row_of xs)
    as_many xs h = omega (arith, h, counted xs)
      where
        counted : (xs : List row.Row) → length (map row_of xs) ≡ length xs
        counted [] = refl
        counted (x ∷ xs) = let k = counted xs in omega (arith, k)

pub all_named : (t : Document) (items : List row.Row) (entries : List entry.Entry) (i : ℕ) → AreNamed t items entries i → length items ≤ i
    → (map shown entries ≡ map (keyed_row t) (map row_of items)) × Never (IsUnknownId t (ids items))
all_named t items entries i h past = (
  h.keyed ∙ ap (λ z. map (keyed_row t) (map row_of z)) (take_all i items past),
  λ j u.
      let a = slice_get_within (ids items) j u.0 u.1 in
      let b = counted items in
      h.known j (omega (arith, a, b, past)) u,
)
  where
    counted : (xs : List row.Row) → length (ids xs) ≡ length xs
    counted [] = refl
    counted (x ∷ xs) = let k = counted xs in omega (arith, k)

-- ---- from lines to entries

pub first_unknown : (t : Document) (list : NamedList) (rs : List NamedRow) (i : ℕ) → rs ≡ rows 0 list → IsFirst (IsUnknownId t (map row_id rs)) i → IsFirst (IsUnknown t list) i
first_unknown t list rs i e h =
    subst (λ z. IsFirst (IsUnknownId t z) i) (ap (map row_id) e ∙ sym (ids_rows [] 0 list)) h

pub never_unknown : (t : Document) (list : NamedList) (rs : List NamedRow) → rs ≡ rows 0 list → Never (IsUnknownId t (map row_id rs)) → Never (IsUnknown t list)
never_unknown t list rs e h =
    subst (λ z. Never (IsUnknownId t z)) (ap (map row_id) e ∙ sym (ids_rows [] 0 list)) h

-- the id of a line in memory
id_in : (d : ℕ) (i : List ℕ) (w : what.What) → row_id (row_of (record { depth = d; id = i; what = w })) ≡ i
id_in d i (whats.Item p) = refl
id_in d i (whats.Group o b n) = refl

pub id_is : (x : row.Row) → row_id (row_of x) ≡ x.id
id_is x = id_in x.depth x.id x.what

pub some_named : (t : Document) (x : row.Row) (k : BoxKey) → Some k ≡ named x.id t.boxes → named (row_id (row_of x)) t.boxes ≡ None → ⊥
some_named t x k e n = let both : Some k ≡ None = e ∙ ap (λ z. named z t.boxes) (sym (id_is x)) ∙ n in absurd cc

-- ---- what a check says of ids

rows_counted : (xs : List row.Row) → length (map row_of xs) ≡ length xs
rows_counted [] = refl
rows_counted (x ∷ xs) = let k = rows_counted xs in omega (arith, k)

keyed_counted : (t : Document) (xs : List NamedRow) → length (map (keyed_row t) xs) ≡ length xs
keyed_counted t [] = refl
keyed_counted t (x ∷ xs) = let k = keyed_counted t xs in omega (arith, k)

shown_counted : (xs : List entry.Entry) → length (map shown xs) ≡ length xs
shown_counted [] = refl
shown_counted (x ∷ xs) = let k = shown_counted xs in omega (arith, k)

pub few_entries : (t : Document) (lent items : List row.Row) (n : Named) (v : Vec entry.Entry Global) (es : List entry.Entry) → IsNamed t (map row_of lent) n
    → n ≡ found.Entries v → lent ≡ items → length items < 4294967296 → es ≡ v.items → length es < 4294967296
few_entries t lent items n v es h is same few e =
    let k : IsNamed t (map row_of lent) (found.Entries v) = subst (IsNamed t (map row_of lent)) is h in
    let a : length (map shown v.items) ≡ length (map (keyed_row t) (map row_of lent)) = ap length k.0 in
    let b = shown_counted v.items in
    let c = keyed_counted t (map row_of lent) in
    let d = rows_counted lent in
    let f : length lent ≡ length items = ap length same in
    let g : length es ≡ length v.items = ap length e in
    omega (arith, a, b, c, d, f, g, few)

pub few_unknown : (t : Document) (lent items : List row.Row) (n : Named) (i : ℕ) → IsNamed t (map row_of lent) n
    → n ≡ found.Unknown i → lent ≡ items → length items < 4294967296 → i < 4294967296
few_unknown t lent items n i h is same few =
    let k : IsNamed t (map row_of lent) (found.Unknown i) = subst (IsNamed t (map row_of lent)) is h in
    let k1 = k.1 in
    let d = rows_counted lent in
    let f : length lent ≡ length items = ap length same in
    omega (arith, k1, d, f, few)

-- ---- the verdict of a check

filled_keyed : (t : Document) (list : NamedList) → no_group_is_empty (keyed t list) ≡ no_group_is_empty list
filled_keyed t nil = refl
filled_keyed t (leaf i rest) = filled_keyed t rest
filled_keyed t (group g inner rest) = λ i. not (none inner i) && filled_keyed t inner i && filled_keyed t rest i
  where
    none : (xs : NamedList) → is_empty (keyed t xs) ≡ is_empty xs
    none nil = refl
    none (leaf i rest) = refl
    none (group g inner rest) = refl

new_numbered : (n : ℕ) (xs : Entries Wrapper Leaf) → new_leaves (numbered n xs) ≡ xs
new_numbered n nil = refl
new_numbered n (leaf l xs) = ap (leaf l) (new_numbered n xs)
new_numbered n (group g inner xs) = λ i. group g (new_numbered n inner i) (new_numbered n xs i)

-- the leaves of the painting order
pub fresh_ways : (t : Document) (fresh : Entries Wrapper Made) (ways : List Way) → fresh ≡ numbered 1 (fresh_list t) → ways ≡ routes [] (new_leaves fresh) → ways ≡ routes [] (fresh_list t)
fresh_ways t fresh ways e w = w ∙ ap (λ (z : Entries Wrapper Made). routes [] (new_leaves z)) e ∙ ap (routes []) (new_numbered 1 (fresh_list t))

-- their names differ
pub fresh_once : (t : Document) (ways : List Way) → StandsFor (fresh_list t) (fresh_list t) → ways ≡ routes [] (fresh_list t) → orders.Once (map way_name ways)
fresh_once t ways s e =
    once_to (map way_name ways) (subst (λ (z : List Way). Once (map way_name z)) (sym e) (own_once (fresh_list t) (fresh_list t) s))

right : (t : Document) (list : NamedList) (w : Verdict) → Never (IsUnknown t list) → Says (keyed t list) (fresh_list t) w → IsVerdict t list w
right t list (Unknown i) n s = absurd s
right t list (Twice i) n s = (n, s)
right t list (Extra i) n s = (n, s)
right t list (Differs i) n s = (n, s)
right t list (Wrapped i) n s = (n, s)
right t list (Missing b p) n s = (n, s)
right t list (Order i j) n s = (n, s)
right t list Yes n s = (n, s)

pub known_checked : (t : Document) (text : List ℕ) (list : NamedList) (lent items : List row.Row) (n : Named) (v : Vec entry.Entry Global) (es : List entry.Entry) (ways : List Way) (w : Verdict)
    → IsDumpOf text list → IsNamed t (map row_of lent) n → n ≡ found.Entries v → lent ≡ items → map row_of items ≡ rows 0 list → es ≡ v.items
    → ways ≡ routes [] (fresh_list t) → StandsFor (fresh_list t) (fresh_list t) → Tells (map shown es) ways w → IsChecked text t w
known_checked t text list lent items n v es ways w dump h is same e lines fresh itself tells =
    let named : IsNamed t (map row_of lent) (found.Entries v) = subst (IsNamed t (map row_of lent)) is h in
    let never = never_unknown t list (map row_of lent) (ap (map row_of) same ∙ e) named.1 in
    let rows_are : map shown es ≡ rows 0 (keyed t list) =
    ap (map shown) lines ∙ named.0 ∙ ap (map (keyed_row t)) (ap (map row_of) same ∙ e) ∙ sym (keyed_rows t 0 list) in
    let told : Tells (rows 0 (keyed t list)) (routes [] (fresh_list t)) w =
    subst (λ (z : List KeyedRow). Tells z (routes [] (fresh_list t)) w) rows_are (subst (λ (z : List Way). Tells (map shown es) z w) fresh tells) in
    let both = table (keyed t list) (fresh_list t) itself (filled_keyed t list ∙ dump.dumped.filled) w told in
    record { list = list; dump = dump; verdict = right t list w never both.0; yes = λ u s. both.1 s }

pub unknown_checked : (t : Document) (text : List ℕ) (list : NamedList) (lent items : List row.Row) (n : Named) (i : ℕ)
    → IsDumpOf text list → IsNamed t (map row_of lent) n → n ≡ found.Unknown i → lent ≡ items → map row_of items ≡ rows 0 list → IsChecked text t (Unknown i)
unknown_checked t text list lent items n i dump h is same e =
    let named : IsNamed t (map row_of lent) (found.Unknown i) = subst (IsNamed t (map row_of lent)) is h in
    let first = first_unknown t list (map row_of lent) i (ap (map row_of) same ∙ e) named.0 in
    record { list = list; dump = dump; verdict = first; yes = λ never s. absurd (never i first.holds) }
