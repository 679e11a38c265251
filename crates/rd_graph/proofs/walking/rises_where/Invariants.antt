use Rattle.std.proofs.Common.{drop}
use Rattle.std.specs.Prelude.{◌↔◌}
use Rattle.rd_graph.specs.Internal.Walks.{RisesWhere}
use Rattle.rd_graph.proofs.walking.rises_where.Given as goal

abbrev pub invariant-loop-place : goal.invariant-loop-place
invariant-loop-place l = record { rest : RisesWhere l.stays 0 l.places ↔ RisesWhere l.stays l.from (drop l.place-index l.places) }
