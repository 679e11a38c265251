-- The entries of a dump by the keys of boxes.
use Rattle.std.specs.Prelude.{◌≡◌, ℕ, ◌<◌, List, length, map, Some, None, slice_get}
use Rattle.rd_tree.specs.Document.{Document, named}
use Rattle.rd_check.specs.Verdicts.{IsFirst, Never}
use Rattle.rd_check.specs.Checked.{leaf_of_item, wrapper_of}
use Rattle.rd_check.specs.Rows.{item, head, NamedRow}
use Rattle.rd_check.specs.Internal.Lines.{KeyedRow}
use Rattle.rd_check.specs.Internal.Rounds.{group_of}
use Rattle.rd_check.specs.declared.naming.Entry as entry
use Rattle.rd_check.specs.declared.naming.Kind.TheVariants as kind
use Rattle.rd_check.specs.declared.naming.Named.{Named}
use Rattle.rd_check.specs.declared.naming.Named.TheVariants as found

-- an entry in memory
abbrev pub shown : entry.Entry → KeyedRow
shown e = elim e.what as (λ w. KeyedRow) [
  | kind.Leaf l ↦ item e.depth l
  | kind.Head g n ↦ head e.depth (group_of g) n
]

-- the id of a line
abbrev pub row_id : NamedRow → List ℕ
row_id (item depth i) = i.id
row_id (head depth g entries) = g.id

-- a line by the key of its box
abbrev pub keyed_row : Document → NamedRow → KeyedRow
keyed_row t (item depth i) = item depth (leaf_of_item t i)
keyed_row t (head depth g entries) = head depth (wrapper_of t g) entries

-- the id at a place is that of no box
abbrev pub IsUnknownId : Document → List (List ℕ) → ℕ → Type 0
IsUnknownId t ids i = (id : List ℕ) × (slice_get ids i ≡ Some id) × (named id t.boxes ≡ None)

-- the lines by keys, or the first that has none
abbrev pub IsNamed : Document → List NamedRow → Named → Type 0
IsNamed t rs (found.Entries v) = (map shown v.items ≡ map (keyed_row t) rs) × Never (IsUnknownId t (map row_id rs))
IsNamed t rs (found.Unknown i) = IsFirst (IsUnknownId t (map row_id rs)) i × (i < length rs)
