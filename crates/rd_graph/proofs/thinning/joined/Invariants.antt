use Rattle.std.proofs.Common.{◌≡◌, ◌++◌}
use Rattle.rd_graph.specs.Internal.Patching.{lists_seen}
use Rattle.rd_graph.proofs.thinning.joined.Given as goal

abbrev pub invariant-loop-place : goal.invariant-loop-place
invariant-loop-place l = record { all : lists_seen l.all.items ≡ lists_seen l.fn.lists.items ++ lists_seen l.yielded }
