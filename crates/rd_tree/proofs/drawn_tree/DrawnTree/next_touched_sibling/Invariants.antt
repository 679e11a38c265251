use Rattle.rd_keys.specs.Keys.{same_key}
use Rattle.rd_tree.specs.Forest.{size, from_some}
use Rattle.rd_tree.specs.Seeking.{is_marked}
use Rattle.rd_tree.specs.Internal.Linked.{seen}
use Rattle.rd_tree.proofs.Nodes.Seeking.{Seeks, IsLiveIfAny}
use Rattle.rd_tree.proofs.drawn_tree.DrawnTree.next_touched_sibling.Given as goal

abbrev pub invariant-loop-at : goal.invariant-loop-at
invariant-loop-at g l = record {
  seeks : Seeks is_marked (seen l.self-inside.nodes l.self-inside.root) l.fn.first l.at l.fn.steps l.steps;
  live : IsLiveIfAny l.self-inside.nodes l.at;
}

abbrev pub decreases-loop-at : goal.decreases-loop-at
decreases-loop-at g l = size (from_some same_key l.at (seen l.self-inside.nodes l.self-inside.root))
