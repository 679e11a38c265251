use Rattle.std.proofs.Common.{ℕ, ◌<◌, ◌≤◌}
use Rattle.rd_tree.specs.Internal.Glances.{seen_at}
use Rattle.rd_tree.specs.Internal.Calm.{IsCalmRow, IsFollowed}
use Rattle.rd_tree.proofs.calm.is_calm_page.Given as goal

abbrev pub invariant-loop-slot : goal.invariant-loop-slot
invariant-loop-slot l = record {
  calm : (s : ℕ) → l.start ≤ s → s < l.slot → IsCalmRow (seen_at l.rows s);
  followed : (s : ℕ) → l.start ≤ s → s < l.slot → IsFollowed l.rows s;
}
