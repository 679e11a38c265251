use Rattle.std.proofs.Common.{ℕ, ◌<◌, ◌≤◌, [], get_or, IsTrue}
use Rattle.rd_area.specs.Internal.Joining.{row_has}
use Rattle.rd_area.specs.Internal.Normal.{spans_of}
use Rattle.rd_area.proofs.rows.have.Given as goal

abbrev pub invariant-loop-y : goal.invariant-loop-y
invariant-loop-y l = (y : ℕ) → l.from ≤ y → y < l.y → IsTrue (row_has (get_or (spans_of l.rows.items) y []) l.span)
