-- The lines of a list by the keys of boxes.
use Rattle.std.specs.Prelude.{List}
use Rattle.rd_keys.specs.declared.entry.EntryKey.{EntryKey}
use Rattle.rd_keys.specs.declared.entry.EntryKey.TheVariants as key
use Rattle.rd_item.specs.declared.leaf.Leaf.{Leaf}
use Rattle.rd_list.specs.Wrappers.{Wrapper}
use Rattle.rd_check.specs.Rows.{Row, item, head}

abbrev pub KeyedRow : Type 0
KeyedRow = Row Wrapper Leaf

-- the name of a line
abbrev pub row_name : KeyedRow → EntryKey
row_name (item depth l) = key.Leaf l.owner l.part
row_name (head depth g entries) = key.Group g.key

-- a leaf, and the groups round it from the outside in
abbrev pub Way : Type 0
Way = List Wrapper × Leaf
