use Rattle.std.proofs.Common.{◌≡◌, true}
use Rattle.rd_keys.specs.Keys.{same_key}
use Rattle.rd_tree.specs.Contexts.{context_of}
use Rattle.rd_tree.specs.Forest.{has, depth}
use Rattle.rd_tree.proofs.drawn_tree.DrawnTree.context_of.Given as goal

abbrev pub invariant-loop-up : goal.invariant-loop-up
invariant-loop-up g l = record {
  there : has same_key l.at l.self.boxes ≡ true;
  same : context_of l.fn.parent l.self ≡ context_of l.at l.self;
}

abbrev pub decreases-loop-up : goal.decreases-loop-up
decreases-loop-up g l = depth same_key l.at l.self.boxes
