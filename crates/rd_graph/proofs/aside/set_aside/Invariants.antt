use Rattle.std.proofs.Common.{length, ◌≡◌, ◌-◌, ◌+◌}
use Rattle.rd_graph.specs.Runs.{places_of}
use Rattle.rd_graph.proofs.aside.set_aside.Given as goal

abbrev pub invariant-loop-from : goal.invariant-loop-from
invariant-loop-from l = record {
  places : places_of l.runs.items ≡ places_of l.fn.runs.items;
  len : length l.least.items ≡ length l.runs.items + 1;
}

abbrev pub decreases-loop-from : goal.decreases-loop-from
decreases-loop-from l = length l.runs.items - l.from
