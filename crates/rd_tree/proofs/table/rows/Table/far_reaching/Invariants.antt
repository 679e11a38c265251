use Rattle.std.proofs.Common.{◌≡◌, ℕ, ◌-◌, ◌<◌, ◌≤◌, false}
use Rattle.rd_tree.specs.Seeking.{reaches}
use Rattle.rd_tree.specs.Internal.Summaries.{row_at}
use Rattle.rd_tree.proofs.table.rows.Table.far_reaching.Given as goal

abbrev pub invariant-loop-slot : goal.invariant-loop-slot
invariant-loop-slot l = record {
  from : l.from ≤ l.slot;
  apart : (s : ℕ) → l.from ≤ s → s < l.slot → reaches l.rect (row_at l.self.rows s).hull ≡ false;
}

abbrev pub decreases-loop-slot : goal.decreases-loop-slot
decreases-loop-slot l = l.end - l.slot
