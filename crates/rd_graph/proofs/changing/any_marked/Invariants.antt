use Rattle.std.proofs.Common.{◌≡◌, false, take}
use Rattle.rd_graph.specs.Internal.Relisting.{has_mark, some_gone}
use Rattle.rd_graph.proofs.changing.any_marked.Given as goal

abbrev pub invariant-loop-name : goal.invariant-loop-name
invariant-loop-name l = record { none : some_gone (has_mark l.marks) (take l.name-index l.names) ≡ false }
