-- How deep the groups of a list stand one in another.
use Rattle.std.specs.Prelude.{ℕ, ◌+◌}
use Rattle.rd_list.specs.Entries.{Entries, nil, leaf, group}
use Rattle.rd_list.specs.Views.{larger}

module _ {G M : Type 0} where
  -- the greatest number of groups round an entry, and the entry itself where it is a group; a group may be empty
  abbrev pub group_depth : Entries G M → ℕ
  group_depth nil = 0
  group_depth (leaf m rest) = group_depth rest
  group_depth (group g inner rest) = larger (group_depth inner + 1) (group_depth rest)
