use Rattle.std.proofs.Common.{◌≡◌, ◌+◌, ◌*◌}
use Rattle.rd_keys.specs.Keys.{same_key}
use Rattle.rd_tree.specs.Forest.{from_some, size, head}
use Rattle.rd_partial.specs.Internal.Touched.{marks_from}
use Rattle.rd_partial.proofs.Touching.{Added}
use Rattle.rd_partial.proofs.touched.+touching.Given as goal
use Rattle.rd_tree.specs.Drawn.{drawn}

abbrev pub decreases-add_below : goal.decreases-add_below
decreases-add_below g l = 3 * size (from_some same_key l.looked.now.first_child (drawn l.tree.now).boxes) + 1

abbrev pub decreases-add_branch : goal.decreases-add_branch
decreases-add_branch g l = 3 * size (from_some same_key l.looked.now.first_child (drawn l.tree.now).boxes) + 2

abbrev pub decreases-add_siblings : goal.decreases-add_siblings
decreases-add_siblings g l = 3 * size (from_some same_key l.first (drawn l.tree.now).boxes)

abbrev pub decreases-add_siblings-loop-left : goal.decreases-add_siblings-loop-left
decreases-add_siblings-loop-left g l = size (from_some same_key l.at (drawn l.tree).boxes)

abbrev pub invariant-add_siblings-loop-left : goal.invariant-add_siblings-loop-left
invariant-add_siblings-loop-left g l =
    (l.at ≡ head (from_some same_key l.at (drawn l.tree).boxes))
    × (l.left ≡ marks_from l.at (drawn l.tree))
    × Added l.s (from_some same_key l.fn.first (drawn l.tree).boxes) (from_some same_key l.at (drawn l.tree).boxes) l.fn.area l.area l.fn.looks l.looks
    × (l.area.size ≡ l.fn.area.size)
