use Rattle.std.proofs.Common.{◌-◌, ◌+◌, ◌++◌, ◌≤◌}
use Rattle.rd_keys.specs.declared.entry.EntryKey.{EntryKey}
use Rattle.rd_graph.specs.Graphs.{Graph}
use Rattle.rd_graph.specs.Internal.Chunks.{IsMoved, TellsTo}
use Rattle.rd_graph.specs.Internal.Seen.{seen}
use Rattle.rd_graph.proofs.chunks.put_run.Given as goal

abbrev pub invariant-loop-done : goal.invariant-loop-done
invariant-loop-done l = record {
  within : l.done ≤ l.run.count;
  told : (g : Graph EntryKey) → IsMoved (seen l.nodes ++ seen l.made) g l.run.from l.start l.run.count → TellsTo l.fn.chunks.items g l.start → TellsTo l.chunks.items g (l.start + l.done);
}

abbrev pub decreases-loop-done : goal.decreases-loop-done
decreases-loop-done l = l.run.count - l.done
