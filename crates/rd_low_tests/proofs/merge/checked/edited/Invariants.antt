use Rattle.std.proofs.Common.{◌≡◌}
use Rattle.std.specs.List.{filter}
use Rattle.rd_low_tests.specs.DrawnLevels.{is_not_of}
use Rattle.rd_low_tests.proofs.merge.checked.edited.Given as goal

abbrev pub invariant-loop-spot : goal.invariant-loop-spot
invariant-loop-spot l = record { all : filter (is_not_of l.touched) l.spots ≡ filter (is_not_of l.touched) l.all.items }
