use Rattle.std.proofs.Common.{◌≡◌, ◌++◌, take}
use Rattle.rd_list.specs.EntryNames.{new_names}
use Rattle.rd_list.specs.NewView.{in_runs}
use Rattle.rd_list.proofs.lining.push_all_keys.Given as goal

abbrev pub invariant-loop-entries : goal.invariant-loop-entries
invariant-loop-entries g l = record { all : l.all.items ≡ l.fn.all.items ++ new_names (in_runs (take l.entries-index l.runs)) }
