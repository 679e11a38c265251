use Rattle.std.proofs.Common.{◌-◌, ◌≤◌}
use Rattle.rd_list.specs.Chunks.{IsAt}
use Rattle.rd_merge.specs.Internal.Moving.{PartsAll}
use Rattle.rd_merge.proofs.chunking.push_parts.Given as goal

abbrev pub invariant-loop-place : goal.invariant-loop-place
invariant-loop-place g l = record {
  at : IsAt l.had l.seek.at l.seek.start;
  from : l.from ≤ l.place;
  within : l.place ≤ l.end;
  all : PartsAll l.fn.chunks.items l.chunks.items l.entries l.from l.place;
}

abbrev pub decreases-loop-place : goal.decreases-loop-place
decreases-loop-place g l = l.end - l.place
