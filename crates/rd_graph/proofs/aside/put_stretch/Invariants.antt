use Rattle.std.proofs.Common.{length, ◌≡◌}
use Rattle.rd_graph.specs.Runs.{places_of}
use Rattle.rd_graph.proofs.aside.put_stretch.Given as goal

abbrev pub invariant-loop-i : goal.invariant-loop-i
invariant-loop-i l = record { places : places_of l.runs.items ≡ places_of l.fn.runs.items; len : length l.runs.items ≡ length l.fn.runs.items }
