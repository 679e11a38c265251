use Rattle.std.proofs.Common.{◌≡◌, ◌+◌, ◌*◌, ◌≤◌, ◌++◌}
use Rattle.rd_keys.specs.Keys.{same_key}
use Rattle.rd_tree.specs.Drawn.{drawn}
use Rattle.rd_tree.specs.Forest.{head, from_some, size}
use Rattle.rd_stack.specs.Fresh as spec
use Rattle.rd_stack.proofs.fresh.+paint.Given as goal

abbrev pub decreases-paint_one : goal.decreases-paint_one
decreases-paint_one g l = 2 * size (from_some same_key l.first_child (drawn l.tree.now).boxes) + 1

abbrev pub decreases-paint_all : goal.decreases-paint_all
decreases-paint_all g l = 2 * size (from_some same_key l.first (drawn l.tree.now).boxes)

abbrev pub invariant-paint_all-loop-next : goal.invariant-paint_all-loop-next
invariant-paint_all-loop-next g l =
    (size (from_some same_key l.next (drawn l.tree).boxes) ≤ size (from_some same_key l.fn.first (drawn l.tree).boxes))
    × (l.all.items ++ spec.painted spec.grouping l.canvas l.above (from_some same_key l.next (drawn l.tree).boxes) ≡ spec.painted spec.grouping l.canvas l.above (from_some same_key l.fn.first (drawn l.tree).boxes))
    × (l.next ≡ head (from_some same_key l.next (drawn l.tree).boxes))
    × (l.looks + size (from_some same_key l.next (drawn l.tree).boxes) ≤ l.fn.looks + size (from_some same_key l.fn.first (drawn l.tree).boxes))

abbrev pub decreases-paint_all-loop-next : goal.decreases-paint_all-loop-next
decreases-paint_all-loop-next g l = size (from_some same_key l.next (drawn l.tree).boxes)
