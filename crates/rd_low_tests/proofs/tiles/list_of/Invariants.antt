use Rattle.std.proofs.Common.{◌≤◌}
use Rattle.rd_list.specs.KeptView.{kept_entries}
use Rattle.rd_list.specs.Views.{levels}
use Rattle.rd_low_tests.proofs.tiles.list_of.Given as goal

abbrev pub invariant-loop-side : goal.invariant-loop-side
invariant-loop-side g l = levels (kept_entries l.entries.items) ≤ 1
