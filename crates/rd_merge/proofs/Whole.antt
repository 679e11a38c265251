-- What a merge asks and promises, as the laws of lists have it.
use Rattle.std.proofs.Common.{Bool}
use Rattle.rd_keys.specs.Keys.{BoxKey}
use Rattle.rd_keys.specs.declared.entry.EntryKey.{EntryKey}
use Rattle.rd_item.specs.Items.{Made}
use Rattle.rd_list.specs.Wrappers.{Wrapper}
use Rattle.rd_list.specs.Entries.{Entries}
use Rattle.rd_list.specs.EntryNames.{entry_names, made_leaf}
use Rattle.rd_list.specs.Kept.{KeptList}
use Rattle.rd_list.specs.Lists.{leaves_meet}
use Rattle.rd_list.proofs.Merges.Naming.{entry_names_are, display_merging}
use Rattle.rd_list.proofs.Merges.Fitting.{ready_fits}
use Rattle.rd_merge.specs.Going.{is_untouched}
use Rattle.rd_merge.specs.Internal.Fitting.{FitsFor}
use Rattle.rd_merge.specs.Merging.{CanBeMerged, MergedInto, StandsAfter}

module _ (touched : BoxKey → Bool) (kept : KeptList EntryKey Wrapper Made) (new : Entries Wrapper Made) where
  pub fits_whole : CanBeMerged touched kept new → FitsFor (is_untouched touched) kept new
  fits_whole can = record {
    fresh = can.fresh;
    fits = ready_fits entry_names made_leaf (is_untouched touched) entry_names_are leaves_meet kept new can.fresh can.in_area can.itself can.ready can.limited;
  }

  pub stands_after : (joined : KeptList EntryKey Wrapper Made) → MergedInto touched kept new joined → StandsAfter touched kept new joined
  stands_after joined merged = λ fresh in_area itself ready limited covered.
      let r = display_merging fresh kept joined new (is_untouched touched) in_area itself covered ready limited merged in
      (r.0, r.1)
