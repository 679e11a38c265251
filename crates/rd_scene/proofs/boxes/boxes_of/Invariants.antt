use Rattle.std.proofs.Common.{◌≡◌, ℕ, List, [], drop, reverse, true, length, All}
use Rattle.serde_json.specs.View.{items_view}
use Rattle.rd_scene.specs.Boxes.{boxes_from}
use Rattle.rd_scene.specs.Order.{depth_of, are_in_order}
use Rattle.rd_scene.specs.Scripts.{FitsBox}
use Rattle.rd_scene.specs.Versions.{number_of, HasBox}
use Rattle.rd_scene.specs.Internal.Steps.{told}
use Rattle.rd_scene.proofs.Each.{after}
use Rattle.rd_scene.proofs.boxes.boxes_of.Given as goal

-- the boxes so far and those to come are all, and the depths are of the boxes so far
abbrev pub invariant-loop-i : goal.invariant-loop-i
invariant-loop-i l = record {
  all : after l.boxes.items (boxes_from l.version l.i (reverse l.boxes.items) (items_view (drop l.i l.list))).first ≡ (boxes_from l.version 0 [] (items_view l.list)).first;
  len : length l.boxes.items ≡ l.i;
  depths : (q : List ℕ) → told l.depths q ≡ depth_of q (reverse l.boxes.items);
  order : are_in_order [] l.boxes.items ≡ true;
  fits : All FitsBox l.boxes.items;
  had : All (HasBox (number_of l.version)) l.boxes.items;
}
