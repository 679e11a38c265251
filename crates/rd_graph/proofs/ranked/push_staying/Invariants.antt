use Rattle.std.proofs.Common.{◌≡◌, ◌++◌, ◌-◌}
use Rattle.rd_graph.specs.Internal.Walks.{staying}
use Rattle.rd_graph.specs.Internal.Ranks.{alike, spread}
use Rattle.rd_graph.proofs.ranked.push_staying.Given as goal

abbrev pub invariant-loop-place : goal.invariant-loop-place
invariant-loop-place l = record { runs : spread l.runs.items ++ alike l.rank (staying l.stays l.place (l.to - l.place)) ≡ spread l.fn.runs.items ++ alike l.rank (staying l.stays l.from (l.to - l.from)) }

abbrev pub decreases-loop-place : goal.decreases-loop-place
decreases-loop-place l = l.to - l.place
