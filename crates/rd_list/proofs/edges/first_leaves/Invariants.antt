use Rattle.std.proofs.Common.{◌≤◌, ◌-◌, length, take}
use Rattle.rd_list.specs.Internal.Edged.{AreInside}
use Rattle.rd_list.proofs.edges.first_leaves.Given as goal

abbrev pub invariant-loop-count : goal.invariant-loop-count
invariant-loop-count g l = record { within : l.most ≤ length l.entries; inside : AreInside l.edges (take l.count l.entries); least : l.count ≤ l.most }

abbrev pub decreases-loop-count : goal.decreases-loop-count
decreases-loop-count g l = l.most - l.count
