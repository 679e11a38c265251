-- When a kept level and a new one fit.
use Rattle.std.specs.Prelude.{Bool}
use Rattle.rd_keys.specs.declared.entry.EntryKey.{EntryKey}
use Rattle.rd_item.specs.declared.leaf.Leaf.{Leaf}
use Rattle.rd_item.specs.Items.{Made}
use Rattle.rd_list.specs.Wrappers.{Wrapper}
use Rattle.rd_list.specs.Entries.{Entries}
use Rattle.rd_list.specs.EntryNames.{entry_names, made_leaf, new_leaves}
use Rattle.rd_list.specs.Kept.{KeptList}
use Rattle.rd_list.specs.Internal.Fits.{Fits}

-- There is a fresh list that both lists fit, where these leaves stay.
pub record FitsFor (stays : Leaf → Bool) (kept : KeptList EntryKey Wrapper Made) (new : Entries Wrapper Made) : Type 0 where
  pub fresh : Entries Wrapper Leaf
  pub fits : Fits entry_names made_leaf stays kept (new_leaves new) fresh
