-- A list as its rows, and a dump that was read. All of it is this project's own choice.
use Rattle.std.specs.Prelude.{◌≡◌, ℕ, ◌+◌, List, [], ◌∷◌, ◌++◌}
use Rattle.rd_list.specs.Entries.{Entries, nil, leaf, group}
use Rattle.rd_report.specs.Dumps.{NamedItem, NamedGroup, NamedList, width}
use Rattle.rd_check.specs.Dumped.{IsDumpOf}
use Rattle.rd_check.specs.declared.row.Row as row
use Rattle.rd_check.specs.declared.row.What.TheVariants as what

-- an entry by its row: below how many groups it is, and a leaf, or a group with the number of its own entries
pub data Row (G L : Type 0) : Type 0 where
  item : ℕ → L → Row G L
  head : ℕ → G → ℕ → Row G L

-- the rows of a list below so many groups
abbrev pub rows : {G L : Type 0} → ℕ → Entries G L → List (Row G L)
rows depth nil = []
rows depth (leaf l rest) = item depth l ∷ rows depth rest
rows depth (group g inner rest) = head depth g (width inner) ∷ rows (depth + 1) inner ++ rows depth rest

abbrev pub NamedRow : Type 0
NamedRow = Row NamedGroup NamedItem

-- a row in memory
abbrev pub row_of : row.Row → NamedRow
row_of r = elim r.what as (λ w. NamedRow) [
  | what.Item p ↦ item r.depth (record { id = r.id; part = p.part; visible = p.visible; shape = p.shape; color = p.color; hits = p.hits; made_at = p.made_at })
  | what.Group o b n ↦ head r.depth (record { id = r.id; opacity = o; blend = b }) n
]

-- The rows are those of the list whose dump the text is.
abbrev pub IsReadFrom : List ℕ → List NamedRow → Type 0
IsReadFrom text rs = (list : NamedList) × IsDumpOf text list × (rs ≡ rows 0 list)
