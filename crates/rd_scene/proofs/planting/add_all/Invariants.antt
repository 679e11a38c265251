use Rattle.std.proofs.Common.{◌≡◌, ◌+◌, true, take, drop}
use Rattle.rd_tree.specs.Document.{taken as filled}
use Rattle.rd_scene.specs.Order.{are_in_order}
use Rattle.rd_scene.specs.Planting.{AddsAll}
use Rattle.rd_scene.specs.Internal.WellFormed.{IsWellFormed}
use Rattle.rd_scene.proofs.Plants.{so_far, SameDepths}
use Rattle.rd_scene.proofs.planting.add_all.Given as goal

-- the boxes so far are added, their ids and depths are those of the tree, and the others may follow
abbrev pub invariant-loop-b : goal.invariant-loop-b
invariant-loop-b g l = record {
  added : AddsAll (take l.b-index l.rest) l.fn.tree l.tree;
  depths : SameDepths l.tree.boxes (so_far l.first (take l.b-index l.rest));
  order : are_in_order (so_far l.first (take l.b-index l.rest)) (drop l.b-index l.rest) ≡ true;
  taken : filled l.tree ≡ l.b-index + 1;
  well : IsWellFormed l.tree;
}
