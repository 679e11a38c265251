use Rattle.std.proofs.Common.{drop}
use Rattle.std.specs.Prelude.{◌↔◌}
use Rattle.rd_graph.specs.Internal.Walks.{RisesTo}
use Rattle.rd_graph.proofs.arranging.rises.Given as goal

abbrev pub invariant-loop-place : goal.invariant-loop-place
invariant-loop-place l = record { rest : RisesTo l.end 0 l.places ↔ RisesTo l.end l.least (drop l.place-index l.places) }
