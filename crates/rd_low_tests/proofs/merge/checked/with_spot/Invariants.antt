use Rattle.std.proofs.Common.{◌≡◌, take}
use Rattle.std.specs.List.{filter}
use Rattle.rd_low_tests.specs.DrawnLevels.{is_not_of}
use Rattle.rd_low_tests.proofs.merge.checked.with_spot.Given as goal

abbrev pub invariant-loop-i : goal.invariant-loop-i
invariant-loop-i l = record { all : filter (is_not_of l.touched) l.all.items ≡ filter (is_not_of l.touched) (take l.i l.spots) }
