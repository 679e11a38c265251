use Rattle.std.proofs.Common.{◌≡◌, ◌++◌, string_bytes, unsigned_abs}
use Rattle.rd_list.specs.EntryNames.{new_leaves}
use Rattle.rd_list.specs.Lists.{pixel}
use Rattle.rd_report.specs.Pictures.{rgb}
use Rattle.rd_run.specs.Pictures.{rows_of}
use Rattle.rd_run.proofs.composing.picture_of.Given as goal

-- the head and the rows so far
abbrev pub invariant-loop-y : goal.invariant-loop-y
invariant-loop-y l = l.bytes.items ≡ string_bytes l.head ++ rgb (rows_of (pixel (new_leaves l.wire.list)) (unsigned_abs l.wire.size.w) l.y)
