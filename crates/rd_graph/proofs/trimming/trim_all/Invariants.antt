use Rattle.std.proofs.Common.{◌≡◌}
use Rattle.rd_graph.specs.Internal.Patching.{lists_seen}
use Rattle.rd_graph.specs.Internal.Trimming.{all_trimmed}
use Rattle.rd_graph.specs.Internal.Tables.{at}
use Rattle.rd_graph.proofs.trimming.trim_all.Given as goal

abbrev pub invariant-loop-place : goal.invariant-loop-place
invariant-loop-place l = record { all : lists_seen l.all.items ≡ all_trimmed (at l.places) (lists_seen l.yielded) }
