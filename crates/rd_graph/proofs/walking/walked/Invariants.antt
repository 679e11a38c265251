use Rattle.std.proofs.Common.{◌≡◌, ◌++◌, drop}
use Rattle.rd_graph.specs.Internal.Walks.{walk}
use Rattle.rd_graph.specs.Runs.{places_of}
use Rattle.rd_graph.proofs.walking.walked.Given as goal

abbrev pub invariant-loop-place : goal.invariant-loop-place
invariant-loop-place l = record { line : places_of l.line.items ++ walk l.stays l.from (drop l.place-index l.places) ≡ walk l.stays 0 l.places }
