use Rattle.std.proofs.Common.{◌≡◌, ◌≤◌, map, take}
use Rattle.rd_check.specs.Rows.{row_of}
use Rattle.rd_check.specs.Internal.Nesting.{leaves_in}
use Rattle.rd_check.proofs.nesting.leaves_in.Given as goal

-- the leaves so far
abbrev pub invariant-loop-row : goal.invariant-loop-row
invariant-loop-row l = (l.leaves ≡ leaves_in (map row_of (take l.row-index l.rows))) × (l.leaves ≤ l.row-index)
