use Rattle.std.proofs.Common.{◌≡◌, take}
use Rattle.rd_graph.specs.Internal.Trimming.{left_in}
use Rattle.rd_graph.specs.Internal.Tables.{at}
use Rattle.rd_graph.proofs.trimming.left_of.Given as goal

abbrev pub invariant-loop-key : goal.invariant-loop-key
invariant-loop-key l = record { left : l.left.items ≡ left_in (at l.places) l.top (take l.key-index l.keys) }
