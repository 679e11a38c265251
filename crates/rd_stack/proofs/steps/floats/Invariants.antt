use Rattle.std.proofs.Common.{◌≡◌, take}
use Rattle.rd_list.specs.Entries.{◌▷◌}
use Rattle.rd_stack.specs.Painting as painting
use Rattle.rd_stack.proofs.steps.floats.Given as goal

abbrev pub invariant-loop-x : goal.invariant-loop-x
invariant-loop-x l = l.out ≡ l.fn.out ▷ painting.floats l.e (take l.x-index l.below)
