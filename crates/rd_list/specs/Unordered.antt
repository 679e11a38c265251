-- Kept lists without their graphs. It is this project's own choice that lists are kept with graphs.
use Rattle.rd_list.specs.Entries.{Entries, nil, leaf, group}
use Rattle.rd_list.specs.Kept.{Ordered}

module _ {E G M : Type 0} where
  -- the items in their groups
  abbrev pub unordered : Entries (Ordered E G) M → Entries G M
  unordered nil = nil
  unordered (leaf m rest) = leaf m (unordered rest)
  unordered (group g inner rest) = group g.of (unordered inner) (unordered rest)
