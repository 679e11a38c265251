use Rattle.std.proofs.Common.{◌≡◌, [], ◌++◌, drop}
use Rattle.std.specs.Prelude.{Some}
use Rattle.rd_graph.specs.Internal.Chains.{before_place}
use Rattle.rd_graph.specs.Internal.MadeNodes.{made_after}
use Rattle.rd_graph.specs.Internal.Seen.{seen}
use Rattle.rd_graph.proofs.making.make.Given as goal

abbrev pub invariant-loop-i : goal.invariant-loop-i
invariant-loop-i l = record { made : seen l.made.items ++ made_after (before_place l.chain (Some l.i)) (drop l.i l.chain) (drop l.i l.found) ≡ made_after [] l.chain l.found }
