use Rattle.rd_keys.specs.Keys.{same_key}
use Rattle.rd_tree.specs.Forest.{size, from_some}
use Rattle.rd_tree.specs.Seeking.{hull_reaches}
use Rattle.rd_tree.specs.Internal.Linked.{seen}
use Rattle.rd_tree.proofs.Nodes.Seeking.{Seeks, IsLiveIfAny}
use Rattle.rd_tree.proofs.searching.pass_by_cells.Given as goal

abbrev pub invariant-loop-at : goal.invariant-loop-at
invariant-loop-at g l = record {
  seeks : Seeks (hull_reaches l.rect) (seen l.nodes l.fn.root) l.fn.first l.at l.fn.steps l.steps;
  live : IsLiveIfAny l.nodes l.at;
}

abbrev pub decreases-loop-at : goal.decreases-loop-at
decreases-loop-at g l = size (from_some same_key l.at (seen l.nodes l.fn.root))
