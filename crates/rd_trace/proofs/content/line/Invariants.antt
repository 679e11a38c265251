use Rattle.std.proofs.Common.{◌≡◌, ◌++◌, take}
use Rattle.std.specs.Prelude.{flat_map}
use Rattle.rd_trace.specs.Steps as spec
use Rattle.rd_trace.proofs.content.line.Given as goal

abbrev pub invariant-loop-x : goal.invariant-loop-x
invariant-loop-x l = l.out.items ≡ l.fn.out.items ++ flat_map (spec.inline_part l.s l.step l.e l.c) (spec.line_of l.e (take l.x-index l.below) l.c)
