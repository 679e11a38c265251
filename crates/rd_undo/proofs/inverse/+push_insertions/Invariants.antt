use Rattle.std.proofs.Common.{◌≡◌, ◌+◌, ◌≤◌, ◌++◌}
use Rattle.rd_keys.specs.Keys.{same_key}
use Rattle.rd_tree.specs.Forest.{head, from_some, size}
use Rattle.rd_tree.specs.ByIds.{by_ids}
use Rattle.rd_undo.specs.Inverse.{insertions, rescrollings}
use Rattle.rd_undo.proofs.inverse.+push_insertions.Given as goal

abbrev pub decreases-push_insertions : goal.decreases-push_insertions
decreases-push_insertions g l = size (from_some same_key l.first l.tree.now.boxes)

abbrev pub invariant-loop-next : goal.invariant-loop-next
invariant-loop-next g l =
    (size (from_some same_key l.next l.tree.boxes) ≤ size (from_some same_key l.fn.first l.tree.boxes))
    × (l.out.items ++ insertions l.parent (by_ids (from_some same_key l.next l.tree.boxes)) ≡ l.fn.out.items ++ insertions l.parent (by_ids (from_some same_key l.fn.first l.tree.boxes)))
    × (l.scrolls.items ++ rescrollings (by_ids (from_some same_key l.next l.tree.boxes)) ≡ l.fn.scrolls.items ++ rescrollings (by_ids (from_some same_key l.fn.first l.tree.boxes)))
    × (l.next ≡ head (from_some same_key l.next l.tree.boxes))
    × (l.looks + size (from_some same_key l.next l.tree.boxes) ≤ l.fn.looks + size (from_some same_key l.fn.first l.tree.boxes))

abbrev pub decreases-loop-next : goal.decreases-loop-next
decreases-loop-next g l = size (from_some same_key l.next l.tree.boxes)
