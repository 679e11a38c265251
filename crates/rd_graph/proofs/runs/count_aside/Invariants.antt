use Rattle.std.proofs.Common.{◌≡◌, ◌^◌, ◌-◌, length, min, take}
use Rattle.rd_graph.specs.Runs.{places_aside}
use Rattle.rd_graph.proofs.runs.count_aside.Given as goal

abbrev pub invariant-loop-run : goal.invariant-loop-run
invariant-loop-run l = record { count : l.count ≡ min (length (places_aside (take l.run-index l.runs))) (2 ^ 64 - 1) }
