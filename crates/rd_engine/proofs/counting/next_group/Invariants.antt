use Rattle.std.proofs.Common.{◌≤◌, ◌-◌, length}
use Rattle.rd_engine.specs.Internal.Counting.{AreLeaves}
use Rattle.rd_engine.proofs.counting.next_group.Given as goal

abbrev pub invariant-loop-i : goal.invariant-loop-i
invariant-loop-i g l = record { within : l.i ≤ length l.entries; leaves : AreLeaves l.entries l.from l.i }

abbrev pub decreases-loop-i : goal.decreases-loop-i
decreases-loop-i g l = length l.entries - l.i

abbrev pub invariant-loop-i-2 : goal.invariant-loop-i-2
invariant-loop-i-2 g l = record { within : l.i ≤ length l.entries; leaves : AreLeaves l.entries l.from l.i }

abbrev pub decreases-loop-i-2 : goal.decreases-loop-i-2
decreases-loop-i-2 g l = length l.entries - l.i
