use Rattle.std.proofs.Common.{◌≤◌, ◌-◌, length, take}
use Rattle.rd_list.specs.Chunks.{IsTold}
use Rattle.rd_list.proofs.chunks.grown_chunk.Given as goal

abbrev pub invariant-loop-count : goal.invariant-loop-count
invariant-loop-count g l = record { within : l.count ≤ length l.entries; told : IsTold l.told (take l.count l.entries) }

abbrev pub decreases-loop-count : goal.decreases-loop-count
decreases-loop-count g l = 32 - l.count
