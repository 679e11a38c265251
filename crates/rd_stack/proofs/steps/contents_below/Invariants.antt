use Rattle.std.proofs.Common.{◌≡◌, take}
use Rattle.rd_list.specs.Entries.{◌▷◌, each}
use Rattle.rd_stack.specs.Painting as painting
use Rattle.rd_style.specs.declared.kinds.Class.TheVariants as classes
use Rattle.rd_stack.proofs.steps.contents_below.Given as goal

abbrev pub invariant-loop-x : goal.invariant-loop-x
invariant-loop-x l = l.out ≡ l.fn.out ▷ each (λ x. painting.content_and_line l.canvas l.e l.below x.at) (painting.of_class classes.Block (painting.local_boxes l.e (take l.x-index l.below)))
