use Rattle.std.proofs.Common.{◌≡◌, false, take}
use Rattle.rd_graph.specs.Names.{is_in, same_entry}
use Rattle.rd_low_tests.proofs.graph.checked.is_among.Given as goal

abbrev pub invariant-loop-other : goal.invariant-loop-other
invariant-loop-other l = record { none : is_in same_entry (take l.other-index l.names) l.name ≡ false }
