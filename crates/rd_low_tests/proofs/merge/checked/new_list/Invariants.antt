use Rattle.std.proofs.Common.{◌≡◌, take}
use Rattle.std.specs.List.{filter}
use Rattle.rd_list.specs.EntryNames.{new_leaves}
use Rattle.rd_list.specs.NewView.{new_entries}
use Rattle.rd_low_tests.specs.DrawnLevels.{is_of, line}
use Rattle.rd_low_tests.specs.declared.merge.TheConstants.{INK}
use Rattle.rd_low_tests.proofs.merge.checked.new_list.Given as goal

abbrev pub invariant-loop-spot : goal.invariant-loop-spot
invariant-loop-spot g l = record { all : new_leaves (new_entries l.entries.items) ≡ line INK (filter (is_of l.area) (take l.spot-index l.spots)) }
