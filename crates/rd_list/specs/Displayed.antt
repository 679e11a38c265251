-- What entries of kept lists show.
use Rattle.std.specs.Prelude.{List}
use Rattle.rd_item.specs.declared.leaf.Leaf.{Leaf}
use Rattle.rd_list.specs.Wrappers.{Wrapper}
use Rattle.rd_list.specs.Entries.{Entries}
use Rattle.rd_list.specs.EntryNames.{kept_leaves}
use Rattle.rd_list.specs.KeptView.{kept_entries}
use Rattle.rd_list.specs.declared.kept.Entry.{Entry}

-- this project's own form: the leaves of some entries in their groups
abbrev pub shown : {A : Type 0} → List (Entry A) → Entries Wrapper Leaf
shown es = kept_leaves (kept_entries es)
