-- The laws of painting.
use Rattle.std.proofs.Common.{refl, [], subst, ◌*◌, ◌≤◌}
use Rattle.std.proofs.lemmas.List.Sorted.{IsPermutation-refl}
use Rattle.rd_geom.specs.Canvas.{canvas_of}
use Rattle.rd_keys.specs.Keys.{same_key}
use Rattle.rd_keys.proofs.Keys.{same_key-refl}
use Rattle.rd_list.specs.Entries.{flat, routes}
use Rattle.rd_list.specs.Lists.{same_leaf, groups}
use Rattle.std.specs.Prelude.{length}
use Rattle.rd_tree.specs.Document.{Document}
use Rattle.rd_tree.specs.Drawn.{drawn}
use Rattle.rd_tree.specs.Forest.{IsApart}
use Rattle.rd_tree.proofs.Drawing.{apart_drawn, size-drawn}
use Rattle.rd_list.proofs.Merges.Naming.{wrappers_apart}
use Rattle.rd_stack.specs.Fresh.{fresh_list}
use Rattle.rd_stack.proofs.Counting.Counted.{pairs_apart, leaf_once, group_once, none_empty, filled}
use Rattle.rd_stack.proofs.Counting.Counted.{none_fails}
use Rattle.rd_stack.proofs.Counting.Few.{few_leaves, few_groups}
use Rattle.rd_stack.proofs.Orders.Orders.{same_leaf-refl}
use Rattle.rd_stack.proofs.Counting.OnCanvas.{lies_in, on_canvas, none_off}
use Rattle.rd_stack.specs.Laws.{FewEntries, StandsForItself, ShowsOnCanvas}

-- The boxes have keys of their own where they are drawn, too.
drawn_apart : (t : Document) → IsApart same_key t.boxes → IsApart same_key (drawn t).boxes
drawn_apart t a = apart_drawn [] t.boxes a

pub stands_for_itself : StandsForItself
stands_for_itself = λ t apart. record {
  leaves = IsPermutation-refl (routes [] (fresh_list t));
  once = pairs_apart same_leaf same_leaf-refl (flat (fresh_list t)) (λ a. leaf_once (canvas_of t.canvas) a (drawn t).boxes (drawn_apart t apart));
  grouped = wrappers_apart (fresh_list t) (pairs_apart same_key same_key-refl (groups (fresh_list t)) (λ j. group_once (canvas_of t.canvas) j (drawn t).boxes (drawn_apart t apart)));
  filled = filled (fresh_list t) (none_empty (canvas_of t.canvas) (drawn t).boxes (drawn_apart t apart));
  ordered = λ a b _ _ _. refl;
}

pub shows_on_canvas : ShowsOnCanvas
shows_on_canvas = λ t apart k d l.
    on_canvas (canvas_of t.canvas) _ (none_fails (λ x. lies_in (canvas_of t.canvas) x.visible) (flat (fresh_list t)) (none_off (canvas_of t.canvas) (drawn t).boxes (drawn_apart t apart)) k d l)

pub few_entries : FewEntries
few_entries = λ t apart. record {
  leaves = subst (λ n. length (flat (fresh_list t)) ≤ 4 * n) (size-drawn [] t.boxes) (few_leaves (canvas_of t.canvas) (drawn t).boxes (drawn_apart t apart));
  groups = subst (λ n. length (groups (fresh_list t)) ≤ n) (size-drawn [] t.boxes) (few_groups (canvas_of t.canvas) (drawn t).boxes (drawn_apart t apart));
}
