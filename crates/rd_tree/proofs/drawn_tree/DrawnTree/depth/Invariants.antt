use Rattle.std.proofs.Common.{◌≡◌, ◌+◌, true}
use Rattle.rd_keys.specs.Keys.{same_key}
use Rattle.rd_tree.specs.Forest.{has, depth}
use Rattle.rd_tree.proofs.drawn_tree.DrawnTree.depth.Given as goal

abbrev pub invariant-loop-parent : goal.invariant-loop-parent
invariant-loop-parent g l = record {
  there : has same_key l.at l.self.boxes ≡ true;
  sum : l.depth + depth same_key l.at l.self.boxes
      ≡ depth same_key l.fn.key l.self.boxes + 1;
}

abbrev pub decreases-loop-parent : goal.decreases-loop-parent
decreases-loop-parent g l = depth same_key l.at l.self.boxes
