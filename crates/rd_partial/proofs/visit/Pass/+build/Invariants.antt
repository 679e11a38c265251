use Rattle.std.proofs.Common.{◌≡◌, ◌+◌, ◌*◌}
use Rattle.rd_keys.specs.Keys.{same_key}
use Rattle.rd_tree.specs.Forest.{from_some, size, head}
use Rattle.rd_partial.specs.Internal.Held.{held}
use Rattle.rd_partial.proofs.Kids.{Kept}
use Rattle.rd_partial.proofs.visit.Pass.+build.Given as goal
use Rattle.rd_tree.specs.Drawn.{drawn}

abbrev pub decreases-context : goal.decreases-context
decreases-context g l = 6 * size (from_some same_key l.at.now.first_child (drawn l.self.now.tree.now).boxes) + 2

abbrev pub decreases-descendants : goal.decreases-descendants
decreases-descendants g l = 6 * size (from_some same_key l.at.now.first_child (drawn l.self.now.tree.now).boxes) + 1

abbrev pub decreases-pseudo_context : goal.decreases-pseudo_context
decreases-pseudo_context g l = 6 * size (from_some same_key l.at.now.first_child (drawn l.self.now.tree.now).boxes) + 2

abbrev pub decreases-float : goal.decreases-float
decreases-float g l = 6 * size (from_some same_key l.at.now.first_child (drawn l.self.now.tree.now).boxes) + 3

abbrev pub decreases-atom : goal.decreases-atom
decreases-atom g l = 6 * size (from_some same_key l.at.now.first_child (drawn l.self.now.tree.now).boxes) + 3

abbrev pub decreases-inline : goal.decreases-inline
decreases-inline g l = 6 * size (from_some same_key l.at.now.first_child (drawn l.self.now.tree.now).boxes) + 3

abbrev pub decreases-block : goal.decreases-block
decreases-block g l = 6 * size (from_some same_key l.at.now.first_child (drawn l.self.now.tree.now).boxes) + 3

abbrev pub decreases-real_layer : goal.decreases-real_layer
decreases-real_layer g l = 6 * size (from_some same_key l.at.now.first_child (drawn l.self.now.tree.now).boxes) + 3

abbrev pub decreases-auto_layer : goal.decreases-auto_layer
decreases-auto_layer g l = 6 * size (from_some same_key l.at.now.first_child (drawn l.self.now.tree.now).boxes) + 3

abbrev pub decreases-layer : goal.decreases-layer
decreases-layer g l = 6 * size (from_some same_key l.at.now.first_child (drawn l.self.now.tree.now).boxes) + 4

abbrev pub decreases-drop_box : goal.decreases-drop_box
decreases-drop_box g l = 6 * size (from_some same_key l.at.now.first_child (drawn l.self.now.tree.now).boxes) + 5

abbrev pub decreases-siblings : goal.decreases-siblings
decreases-siblings g l = 6 * size (from_some same_key l.of.now.first (drawn l.self.now.tree.now).boxes)

abbrev pub decreases-siblings-loop-looked : goal.decreases-siblings-loop-looked
decreases-siblings-loop-looked g l = size (from_some same_key l.next (drawn l.self.tree.now).boxes)

abbrev pub invariant-siblings-loop-looked : goal.invariant-siblings-loop-looked
invariant-siblings-loop-looked g l =
    (l.next ≡ head (from_some same_key l.next (drawn l.self.tree.now).boxes)) × Kept (g.W.Wanted.wants l.self.wanted.now) l.self.number l.of.inherited.now (drawn l.self.tree.now).boxes (from_some same_key l.fn.of.first (drawn l.self.tree.now).boxes) (from_some same_key l.next (drawn l.self.tree.now).boxes) (held l.fn.local l.fn.layers) (held l.local l.layers) l.fn.made l.made l.fn.looks l.looks
