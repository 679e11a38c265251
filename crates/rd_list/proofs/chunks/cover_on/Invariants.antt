use Rattle.std.proofs.Common.{◌≤◌, ◌-◌, take}
use Rattle.rd_list.specs.Chunks.{CoversAll}
use Rattle.rd_list.proofs.chunks.cover_on.Given as goal

abbrev pub invariant-loop-place : goal.invariant-loop-place
invariant-loop-place g l = record { within : l.place ≤ l.to; covers : CoversAll l.chunks.items (take l.place l.entries) }

abbrev pub decreases-loop-place : goal.decreases-loop-place
decreases-loop-place g l = l.to - l.place
