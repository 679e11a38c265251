-- What is seen of entries, in memory.
use Rattle.std.specs.Prelude.{List, map}
use Rattle.rd_keys.specs.declared.entry.EntryKey.{EntryKey}
use Rattle.rd_check.specs.Internal.Keyed.{shown}
use Rattle.rd_check.specs.Internal.Lines.{KeyedRow}
use Rattle.rd_check.specs.Internal.Finding.{Sight, leaf_name}
use Rattle.rd_check.specs.declared.around.Found.{Found}
use Rattle.rd_check.specs.declared.naming.Entry as entry
use Rattle.rd_check.specs.declared.seen.Seen.{Seen}

abbrev pub sight_of : Seen → Sight
sight_of s = (shown s.entry, s.place)

abbrev pub sights_of : List Seen → List Sight
sights_of ss = map sight_of ss

-- entries as lines
abbrev pub lines_of : List entry.Entry → List KeyedRow
lines_of es = map shown es

-- the name of a leaf of a fresh list
abbrev pub found_name : Found → EntryKey
found_name f = leaf_name f.leaf
