-- Single entries of a list.
use Rattle.std.specs.Prelude.{◌⊎◌}
use mathlib.Core.Logic.{inl, inr}
use Rattle.rd_item.specs.Items.{Made}
use Rattle.rd_list.specs.Wrappers.{Wrapper}
use Rattle.rd_list.specs.Entries.{Entries, leaf, group}

-- a leaf, or a group with its own list
abbrev pub One : Type 0
One = Made ⊎ (Wrapper × Entries Wrapper Made)

-- an entry below a list
abbrev pub below : One → Entries Wrapper Made → Entries Wrapper Made
below (inl m) rest = leaf m rest
below (inr g) rest = group g.0 g.1 rest
