use Rattle.std.proofs.Common.{◌≡◌, take}
use Rattle.rd_list.specs.Entries.{◌▷◌, each}
use Rattle.rd_stack.specs.Painting as painting
use Rattle.rd_stack.proofs.content.line.Given as goal

abbrev pub invariant-loop-x : goal.invariant-loop-x
invariant-loop-x l = l.out ≡ l.fn.out ▷ each (painting.inline_part l.canvas) (painting.line_of l.e (take l.x-index l.below) l.c)
