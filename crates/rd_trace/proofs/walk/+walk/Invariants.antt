use Rattle.std.proofs.Common.{◌≡◌, ◌+◌, ◌*◌, ◌≤◌, ◌++◌}
use Rattle.rd_keys.specs.Keys.{same_key}
use Rattle.rd_tree.specs.Drawn.{drawn}
use Rattle.rd_tree.specs.Forest.{head, from_some, size}
use Rattle.rd_trace.specs.Traces as spec
use Rattle.rd_trace.proofs.walk.+walk.Given as goal

abbrev pub decreases-trace_one : goal.decreases-trace_one
decreases-trace_one g l = 2 * size (from_some same_key l.first_child (drawn l.tree.now).boxes) + 1

abbrev pub decreases-trace_all : goal.decreases-trace_all
decreases-trace_all g l = 2 * size (from_some same_key l.first (drawn l.tree.now).boxes)

abbrev pub invariant-trace_all-loop-next : goal.invariant-trace_all-loop-next
invariant-trace_all-loop-next g l =
    (size (from_some same_key l.next (drawn l.tree).boxes) ≤ size (from_some same_key l.fn.first (drawn l.tree).boxes))
    × (l.all.items ++ spec.traced_below l.s l.above (from_some same_key l.next (drawn l.tree).boxes) ≡ spec.traced_below l.s l.above (from_some same_key l.fn.first (drawn l.tree).boxes))
    × (l.next ≡ head (from_some same_key l.next (drawn l.tree).boxes))
    × (l.looks + size (from_some same_key l.next (drawn l.tree).boxes) ≤ l.fn.looks + size (from_some same_key l.fn.first (drawn l.tree).boxes))

abbrev pub decreases-trace_all-loop-next : goal.decreases-trace_all-loop-next
decreases-trace_all-loop-next g l = size (from_some same_key l.next (drawn l.tree).boxes)
