use Rattle.std.proofs.Common.{◌≡◌, take}
use Rattle.std.specs.List.{filter}
use Rattle.rd_low_tests.specs.DrawnLevels.{is_not_of}
use Rattle.rd_low_tests.proofs.merge.checked.untouched.Given as goal

abbrev pub invariant-loop-spot : goal.invariant-loop-spot
invariant-loop-spot l = record { all : l.all.items ≡ filter (is_not_of l.touched) (take l.spot-index l.spots) }
