use Rattle.rd_graph.specs.Internal.Thinning.{AddsOf}
use Rattle.rd_graph.proofs.climbing.sort_out.Given as goal

abbrev pub invariant-loop-key : goal.invariant-loop-key
invariant-loop-key l = record { left : AddsOf l.before l.fn.climb.left.items l.climb.left.items; found : AddsOf l.before l.fn.climb.found.items l.climb.found.items }
