use Rattle.std.proofs.Common.{◌≡◌, take}
use Rattle.rd_graph.specs.Internal.Trimming.{highest}
use Rattle.rd_graph.specs.Internal.Tables.{at}
use Rattle.rd_graph.proofs.trimming.top_of.Given as goal

abbrev pub invariant-loop-key : goal.invariant-loop-key
invariant-loop-key l = record { top : l.top ≡ highest (at l.places) 0 (take l.key-index l.keys) }
