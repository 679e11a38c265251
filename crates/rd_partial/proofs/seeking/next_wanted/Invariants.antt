use Rattle.std.proofs.Common.{◌≡◌}
use Rattle.rd_keys.specs.Keys.{same_key}
use Rattle.rd_tree.specs.Forest.{size, from_some, head}
use Rattle.rd_partial.specs.Internal.Seeking.{PassesWanted}
use Rattle.rd_partial.proofs.seeking.next_wanted.Given as goal
use Rattle.rd_tree.specs.Drawn.{drawn}

abbrev pub invariant-loop-looked : goal.invariant-loop-looked
invariant-loop-looked g l =
    (l.at ≡ head (from_some same_key l.at (drawn l.tree).boxes)) × PassesWanted (g.W.Wanted.wants l.wanted) (drawn l.tree) l.fn.first l.at l.fn.looks l.looks

abbrev pub decreases-loop-looked : goal.decreases-loop-looked
decreases-loop-looked g l = size (from_some same_key l.at (drawn l.tree).boxes)
