use Rattle.std.proofs.Common.{◌≡◌, take}
use Rattle.rd_list.specs.Entries.{◌▷◌, each}
use Rattle.rd_stack.specs.Painting as painting
use Rattle.rd_stack.specs.Internal.Tests as tests
use Rattle.rd_keys.specs.declared.entry.Part.TheVariants as parts
use Rattle.rd_stack.proofs.steps.outlines_below.Given as goal

abbrev pub invariant-loop-x : goal.invariant-loop-x
invariant-loop-x l = l.out ≡ l.fn.out ▷ each (λ x. painting.paint l.canvas parts.Outline x.at) (tests.outlined l.e (take l.x-index l.below))
