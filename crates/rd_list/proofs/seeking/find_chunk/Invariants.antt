use Rattle.std.proofs.Common.{◌≤◌, ◌-◌, length}
use Rattle.rd_list.specs.Chunks.{IsAt}
use Rattle.rd_list.proofs.seeking.find_chunk.Given as goal

abbrev pub invariant-loop-now : goal.invariant-loop-now
invariant-loop-now l = record { at : IsAt l.chunks l.now.at l.now.start; before : l.now.start ≤ l.place }

abbrev pub decreases-loop-now : goal.decreases-loop-now
decreases-loop-now l = length l.chunks - l.now.at
