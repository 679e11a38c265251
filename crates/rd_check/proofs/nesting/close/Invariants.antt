use Rattle.std.proofs.Common.{◌≡◌, reverse, length}
use Rattle.rd_check.specs.Internal.Nesting.{without_done}
use Rattle.rd_check.proofs.nesting.close.Given as goal

-- what was closed wanted no more
abbrev pub invariant-loop-stack : goal.invariant-loop-stack
invariant-loop-stack l = without_done (reverse l.stack.items) ≡ without_done (reverse l.fn.stack.items)

abbrev pub decreases-loop-stack : goal.decreases-loop-stack
decreases-loop-stack l = length l.stack.items
