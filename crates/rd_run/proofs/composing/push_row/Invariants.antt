use Rattle.std.proofs.Common.{◌≡◌, ◌++◌}
use Rattle.rd_list.specs.EntryNames.{new_leaves}
use Rattle.rd_list.specs.Lists.{pixel}
use Rattle.rd_report.specs.Pictures.{rgb}
use Rattle.rd_run.specs.Pictures.{row_of}
use Rattle.rd_run.proofs.composing.push_row.Given as goal

-- the pixels of the row so far
abbrev pub invariant-loop-x : goal.invariant-loop-x
invariant-loop-x l = l.bytes.items ≡ l.fn.bytes.items ++ rgb (row_of (pixel (new_leaves l.wire.list)) l.y l.x)
