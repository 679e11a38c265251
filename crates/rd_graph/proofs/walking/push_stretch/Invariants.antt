use Rattle.std.proofs.Common.{◌≡◌, ◌++◌, ◌-◌}
use Rattle.rd_graph.specs.Internal.Walks.{staying}
use Rattle.rd_graph.specs.Runs.{places_of}
use Rattle.rd_graph.proofs.walking.push_stretch.Given as goal

abbrev pub invariant-loop-place : goal.invariant-loop-place
invariant-loop-place l = record { line : places_of l.line.items ++ staying l.stays l.place (l.to - l.place) ≡ places_of l.fn.line.items ++ staying l.stays l.from (l.to - l.from) }

abbrev pub decreases-loop-place : goal.decreases-loop-place
decreases-loop-place l = l.to - l.place
