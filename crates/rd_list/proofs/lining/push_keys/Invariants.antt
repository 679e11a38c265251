use Rattle.std.proofs.Common.{◌≡◌, ◌++◌, take}
use Rattle.rd_list.specs.EntryNames.{new_names}
use Rattle.rd_list.specs.NewView.{new_entries}
use Rattle.rd_list.proofs.lining.push_keys.Given as goal

abbrev pub invariant-loop-entry : goal.invariant-loop-entry
invariant-loop-entry g l = record { all : l.all.items ≡ l.fn.all.items ++ new_names (new_entries (take l.entry-index l.run)) }
