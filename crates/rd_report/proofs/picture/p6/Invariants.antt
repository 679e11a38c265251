use Rattle.std.proofs.Common.{◌≡◌, ◌++◌, take, string_bytes}
use Rattle.rd_report.specs.Pictures.{rgb}
use Rattle.rd_report.proofs.picture.p6.Given as goal

-- the head and the pixels so far
abbrev pub invariant-loop-px : goal.invariant-loop-px
invariant-loop-px l = l.bytes.items ≡ string_bytes l.head ++ rgb (take l.px-index l.pixels)
