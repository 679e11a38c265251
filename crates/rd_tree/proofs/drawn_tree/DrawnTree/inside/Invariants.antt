use Rattle.std.proofs.Common.{◌≡◌, true}
use Rattle.rd_keys.specs.Keys.{same_key}
use Rattle.rd_tree.specs.Forest.{has, depth, in_subtree}
use Rattle.rd_tree.proofs.drawn_tree.DrawnTree.inside.Given as goal

abbrev pub invariant-loop-self : goal.invariant-loop-self
invariant-loop-self g l = record {
  there : has same_key l.at l.self.boxes ≡ true;
  same : in_subtree same_key l.fn.key l.of l.self.boxes
      ≡ in_subtree same_key l.at l.of l.self.boxes;
}

abbrev pub decreases-loop-self : goal.decreases-loop-self
decreases-loop-self g l = depth same_key l.at l.self.boxes
