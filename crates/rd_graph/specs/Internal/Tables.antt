-- Tables by the names of entries.
use Rattle.std.specs.Prelude.{◌≡◌, ℕ, Bool, Option, Some, None, List, [], is_some, unwrap_or}
use Rattle.indexmap.specs.IndexMap.{IndexMap, get_by}
use Rattle.smallvec.specs.SmallVec.{SmallVec}
use Rattle.rd_keys.specs.declared.entry.EntryKey.{EntryKey}
use Rattle.rd_keys.specs.contracts.entry.EntryKeyPartialEq.TheImpl as block
use Rattle.rd_graph.specs.Names.{is_in}
use Rattle.rd_graph.specs.Names.{same_entry}

-- what a table has at a name
abbrev pub at : {V S : Type 0} → IndexMap EntryKey V S → EntryKey → Option V
at m k = get_by (block.eq-value.it k) m

-- a table's number for a name, or else the last one
abbrev pub label_in : {S : Type 0} → IndexMap EntryKey ℕ S → ℕ → EntryKey → ℕ
label_in m d k = unwrap_or (at m k) d

-- a table has the names of a list
abbrev pub fits_list : {V S : Type 0} → IndexMap EntryKey V S → List EntryKey → Type 0
fits_list m xs = (k : EntryKey) → is_some (at m k) ≡ is_in same_entry xs k

-- so has a table, where there is one
abbrev pub fits_table : {V S : Type 0} → Option (IndexMap EntryKey V S) → List EntryKey → Type 0
fits_table None xs = Unit {0}
fits_table (Some m) xs = fits_list m xs

-- what a table notes of a name
abbrev pub items_of : {V : Type 0} → Option (SmallVec V) → List V
items_of None = []
items_of (Some v) = v.items

abbrev pub noted_in : {S : Type 0} → IndexMap EntryKey (SmallVec EntryKey) S → EntryKey → List EntryKey
noted_in m k = items_of (at m k)

abbrev pub has_it : {V S : Type 0} → IndexMap EntryKey V S → EntryKey → Bool
has_it m k = is_some (at m k)
