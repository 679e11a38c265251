use Rattle.std.proofs.Common.{◌≡◌, ℕ, ◌<◌, ◌≤◌, false}
use Rattle.rd_tree.specs.Seeking.{reaches}
use Rattle.rd_tree.specs.Internal.Summaries.{row_at}
use Rattle.rd_tree.proofs.table.rows.Table.first_reaching.Given as goal

abbrev pub invariant-loop-slot : goal.invariant-loop-slot
invariant-loop-slot l = (s : ℕ) → l.from ≤ s → s < l.slot → reaches l.rect (row_at l.self.rows s).hull ≡ false
