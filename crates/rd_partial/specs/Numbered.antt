-- The items that a paint makes of a list. All of it is this project's own choice.
use Rattle.std.specs.Prelude.{ℕ}
use Rattle.rd_item.specs.declared.leaf.Leaf.{Leaf}
use Rattle.rd_item.specs.Items.{Made}
use Rattle.rd_list.specs.Wrappers.{Wrapper}
use Rattle.rd_list.specs.Entries.{Entries, nil, leaf, group}

-- an item of each leaf of a list, made by paint n, in the same groups
abbrev pub numbered : ℕ → Entries Wrapper Leaf → Entries Wrapper Made
numbered n nil = nil
numbered n (leaf l rest) = leaf (record { leaf = l; made_at = n }) (numbered n rest)
numbered n (group g inner rest) = group g (numbered n inner) (numbered n rest)
