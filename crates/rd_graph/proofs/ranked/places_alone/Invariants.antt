use Rattle.std.proofs.Common.{◌≡◌, take, map}
use Rattle.rd_graph.specs.Runs.{places_of}
use Rattle.rd_graph.specs.Internal.Ranks.{spread}
use Rattle.rd_graph.proofs.ranked.places_alone.Given as goal

abbrev pub invariant-loop-run : goal.invariant-loop-run
invariant-loop-run l = record { all : places_of l.runs.items ≡ map (λ p. p.1) (spread (take l.run-index l.ranked)) }
