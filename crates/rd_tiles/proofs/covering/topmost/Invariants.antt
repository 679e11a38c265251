use Rattle.std.proofs.Common.{◌≤◌, ℕ, length}
use Rattle.rd_list.specs.Displayed.{shown}
use Rattle.rd_tiles.specs.Covering.{HasLid}
use Rattle.rd_tiles.proofs.covering.topmost.Given as goal

abbrev pub invariant-loop-i : goal.invariant-loop-i
invariant-loop-i g l = record {
  within : l.i ≤ length l.entries;
  none : (k : ℕ) → l.i ≤ k → HasLid l.tile (shown l.entries) k → ⊥;
}

abbrev pub decreases-loop-i : goal.decreases-loop-i
decreases-loop-i g l = l.i
