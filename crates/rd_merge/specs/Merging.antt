-- What a merge asks and promises. All of it is this project's own choice.
use Rattle.std.specs.Prelude.{◌≡◌, Bool}
use Rattle.rd_keys.specs.Keys.{BoxKey}
use Rattle.rd_keys.specs.declared.entry.EntryKey.{EntryKey}
use Rattle.rd_item.specs.declared.leaf.Leaf.{Leaf}
use Rattle.rd_item.specs.Items.{Made}
use Rattle.rd_list.specs.Wrappers.{Wrapper}
use Rattle.rd_list.specs.Entries.{Entries, only}
use Rattle.rd_list.specs.Lists as lists
use Rattle.rd_list.specs.Lists.{leaves_meet}
use Rattle.rd_list.specs.Laws.{IsCovered}
use Rattle.rd_list.specs.Joining.{IsSound}
use Rattle.rd_list.specs.EntryNames.{entry_names, made_leaf, kept_leaves, new_leaves}
use Rattle.rd_list.specs.Kept.{KeptList, KeptReady, IsMerged, reach_of}
use Rattle.rd_merge.specs.Going.{is_untouched}
use Rattle.rd_merge.specs.Plans.{PlanList, PlacesFit, filled}

module _ (touched : BoxKey → Bool) (kept : KeptList EntryKey Wrapper Made) (new : Entries Wrapper Made) where
  -- the kept list is ready for a fresh list, of which the new list is what lies in an area
  pub record CanBeMerged : Type 0 where
    pub fresh : Entries Wrapper Leaf
    pub in_area : Leaf → Bool
    pub itself : lists.StandsFor fresh fresh
    pub ready : KeptReady entry_names made_leaf leaves_meet (is_untouched touched) kept fresh
    pub limited : new_leaves new ≡ only in_area fresh

  -- the kept list without the leaves of touched boxes, joined with the new one
  abbrev pub MergedInto : KeptList EntryKey Wrapper Made → Type 0
  MergedInto joined = IsMerged entry_names made_leaf (is_untouched touched) kept new joined

  -- For each fresh list and area for which these are so, where the area covers what goes: the list stands for it, and its graphs are sound.
  abbrev pub StandsAfter : KeptList EntryKey Wrapper Made → Type 0
  StandsAfter joined =
      (fresh : Entries Wrapper Leaf) (in_area : Leaf → Bool)
      → lists.StandsFor fresh fresh → KeptReady entry_names made_leaf leaves_meet (is_untouched touched) kept fresh → new_leaves new ≡ only in_area fresh
      → IsCovered entry_names leaves_meet (is_untouched touched) in_area fresh
      → lists.StandsFor (kept_leaves joined.entries) fresh × IsSound entry_names leaves_meet (reach_of entry_names made_leaf joined) fresh

  -- a plan that fits both lists, and is a merge of them when it is filled
  pub record IsPlan (plan : PlanList) : Type 0 where
    pub fits : PlacesFit plan kept new
    pub merged : MergedInto (filled plan kept new)
