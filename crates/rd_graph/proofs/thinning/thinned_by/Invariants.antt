use Rattle.rd_graph.specs.Internal.Patching.{lists_seen}
use Rattle.rd_graph.specs.Internal.Seen.{seen}
use Rattle.rd_graph.proofs.Patches.Thinned.Thinnings.{ThinSoFar}
use Rattle.rd_graph.proofs.thinning.thinned_by.Given as goal

abbrev pub invariant-loop-place : goal.invariant-loop-place
invariant-loop-place l = record { so_far : ThinSoFar (seen l.nodes) l.place (seen l.thin.items) (lists_seen l.lists.items) }
