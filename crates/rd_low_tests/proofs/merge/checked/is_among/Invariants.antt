use Rattle.std.proofs.Common.{◌≡◌, false, take}
use Rattle.rd_graph.specs.Names.{is_in}
use Rattle.rd_keys.specs.Keys.{same_key}
use Rattle.rd_low_tests.proofs.merge.checked.is_among.Given as goal

abbrev pub invariant-loop-other : goal.invariant-loop-other
invariant-loop-other l = record { none : is_in same_key (take l.other-index l.keys) l.key ≡ false }
