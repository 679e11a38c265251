-- The pass gives the painting order.
use Rattle.std.proofs.Common.{◌≡◌, refl, ap, ◌∙◌, sym, Bool, true, false, not, ◌&&◌, ◌||◌, cond, ℤ, pos, arith, List, [], ◌∷◌}
use Rattle.std.proofs.lemmas.Int.{ints}
use Rattle.std.specs.Prelude.{filter, int_lt}
use Rattle.std.specs.List.{list_all}
use Rattle.rd_geom.specs.Plane.{Rectangle}
use Rattle.rd_geom.specs.Canvas.{canvas_of}
use Rattle.rd_style.specs.declared.kinds.Class.TheVariants.{Layer, Float, Block, Inline}
use Rattle.rd_keys.specs.Keys.{BoxKey, same_key}
use Rattle.rd_keys.specs.declared.entry.Part.TheVariants.{Outline}
use Rattle.rd_list.specs.Entries.{◌▷◌, each}
use Rattle.rd_tree.specs.Forest.{empty, tree, IsApart}
use Rattle.rd_tree.specs.declared.node.Item.{Item}
use Rattle.rd_tree.specs.Document.{BoxForest, Document}
use Rattle.rd_tree.specs.Contexts.{blends_in}
use Rattle.rd_stack.specs.Paths.{BoxData, BoxPath, has_class, is_none, is_plain, is_inline, is_no_context, is_local, is_layer, is_inline_level, boxes_between}
use Rattle.rd_list.proofs.Joins.{join_assoc}
use Rattle.rd_stack.specs.Painting as painting
use Rattle.rd_stack.specs.Painting.{Painted, insert_by_level, steps, paint, back_border, inline_part, content_and_line, line_of, layers_of, local_boxes, of_class, entry_of, level_of, is_negative, is_positive, is_zero, paint_if, is_blocky, root_background, own_background_and_border, negative_layers, block_backgrounds, floats, inline_context, zero_layers, positive_layers, outlines}
use Rattle.rd_stack.specs.Fresh.{box_data, grouping, painted, root_order, drawn_list}
use Rattle.rd_stack.proofs.Present.{grouped-below}
use Rattle.rd_stack.proofs.Grouping.Shape.{box-found}
use Rattle.rd_stack.proofs.Walk.Filters.{filter_both}
use Rattle.rd_stack.proofs.Counting.InlineLines.{AreOff, in_below, in_rest, off_below}
use Rattle.rd_partial.specs.Internal.ContextLists.{◌⊕◌, by_level}
use Rattle.rd_partial.specs.Internal.Pass.{order_of, pass, whole, box_lists, is_one, as_group}
use Rattle.rd_partial.proofs.Pass.Gather.{painted_box, gathered, gathered-reached}
use Rattle.rd_partial.proofs.Pass.Fields.{passed, enter, give, stack_of, backgrounds_are, floats_are, outlines_are, zeros_are, negatives_are, positives_are, line_is}
use Rattle.rd_partial.proofs.Pass.Joined.{joined}
use Rattle.rd_partial.proofs.Pass.Levels.{levels_are}
use Rattle.rd_partial.proofs.Pass.Flows.{contents_are, line_below, filter-same}

layer_test : (a b c : Bool) → (a && (b && c)) ≡ ((b && a) && c)
layer_test true true c = refl
layer_test true false c = refl
layer_test false true c = refl
layer_test false false c = refl

not_lower : (m n : ℤ) → (not (int_lt m (pos 0)) && not (int_lt (pos 0) m)) ≡ true → (not (int_lt n (pos 0)) && not (int_lt (pos 0) n)) ≡ true → int_lt m n ≡ false
not_lower m n h k = grind (arith, ints)

zero_first : (x : Painted) → is_zero x ≡ true → (xs : List Painted) → insert_by_level x (filter is_zero xs) ≡ x ∷ filter is_zero xs
zero_first x h [] = refl
zero_first x h (y ∷ ys) = by (is_zero y) refl (zero_first x h ys)
  where
    by : (t : Bool) → is_zero y ≡ t → insert_by_level x (filter is_zero ys) ≡ x ∷ filter is_zero ys → insert_by_level x (cond t (y ∷ filter is_zero ys) (filter is_zero ys)) ≡ x ∷ cond t (y ∷ filter is_zero ys) (filter is_zero ys)
    by true e i = rw (not_lower (level_of y) (level_of x) e h) refl
    by false e i = i

-- layers of one level stay as they stand
zeros_in_order : (xs : List Painted) → painting.by_level (filter is_zero xs) ≡ filter is_zero xs
zeros_in_order [] = refl
zeros_in_order (x ∷ xs) = by (is_zero x) refl (zeros_in_order xs)
  where
    by : (t : Bool) → is_zero x ≡ t → painting.by_level (filter is_zero xs) ≡ filter is_zero xs → painting.by_level (cond t (x ∷ filter is_zero xs) (filter is_zero xs)) ≡ cond t (x ∷ filter is_zero xs) (filter is_zero xs)
    by true e i = ap (insert_by_level x) i ∙ zero_first x e xs
    by false e i = i

module _ (canvas : Rectangle) where
  module _ (e : BoxPath) (f : BoxForest) where
    abbrev below : List Painted
    below = painted grouping canvas (e.here ∷ e.above) f

    local_is : (q : Painted → Bool) → gathered canvas q is_plain (e.here ∷ e.above) f ≡ filter q (local_boxes e below)
    local_is q = gathered-reached canvas q is_plain e [] f refl ∙ sym (filter_both (λ x. is_local e x.at) q below)

    layers_are : (q : Painted → Bool) → gathered canvas (λ x. has_class Layer x.at && q x) is_no_context (e.here ∷ e.above) f ≡ filter q (layers_of e below)
    layers_are q =
        gathered-reached canvas (λ x. has_class Layer x.at && q x) is_no_context e [] f refl
        ∙ filter-same _ (λ x. is_layer e x.at && q x) below (λ x. layer_test (list_all is_no_context (boxes_between e x.at)) (has_class Layer x.at) (q x))
        ∙ sym (filter_both (λ x. is_layer e x.at) q below)

    own_line : (passed canvas (e.here ∷ e.above) f).line ≡ each (inline_part canvas) (line_of e below e)
    own_line = line_is canvas (e.here ∷ e.above) f refl ∙ ap (each (inline_part canvas)) (gathered-reached canvas (λ x. is_inline_level x.at) is_inline e [] f refl ∙ line_below canvas e e f [] refl refl)

    -- what e paints, from the lists that the boxes below it give
    steps_are : IsApart same_key f → AreOff f (e.here ∷ e.above) → steps canvas e below ≡ order_of enter (give canvas) (is_none e.above) e.above e.here (passed canvas (e.here ∷ e.above) f)
    unfolding steps
    steps_are a o =
        let below_e = passed canvas (e.here ∷ e.above) f in
        let h1 : each (λ y. y.order) (by_level below_e.negatives) ≡ each entry_of (painting.by_level (filter is_negative (layers_of e below))) =
        ap (λ xs. each (λ y. y.order) (by_level xs)) (negatives_are canvas (e.here ∷ e.above) f refl ∙ ap (joined (stack_of canvas)) (layers_are is_negative)) ∙ levels_are level_of entry_of (filter is_negative (layers_of e below)) in
        let h2 : below_e.backgrounds ≡ each (λ x. back_border canvas x.at) (of_class Block (local_boxes e below)) =
        backgrounds_are canvas (e.here ∷ e.above) f refl ∙ ap (each (λ x. back_border canvas x.at)) (local_is (λ x. has_class Block x.at)) in
        let h3 : below_e.floats ≡ each (λ x. x.order) (of_class Float (local_boxes e below)) =
        floats_are canvas (e.here ∷ e.above) f refl ∙ ap (each (λ x. x.order)) (local_is (λ x. has_class Float x.at)) in
        let h4 : below_e.contents ≡ each (λ x. content_and_line canvas e below x.at) (of_class Block (local_boxes e below)) =
        contents_are canvas e below [] f refl a o (λ j m r. refl) ∙ ap (each (λ x. content_and_line canvas e below x.at)) (local_is (λ x. has_class Block x.at)) in
        let h5 : below_e.zeros ≡ each entry_of (painting.by_level (filter is_zero (layers_of e below))) =
        zeros_are canvas (e.here ∷ e.above) f refl ∙ ap (each entry_of) (layers_are is_zero ∙ sym (zeros_in_order (layers_of e below))) in
        let h6 : each (λ y. y.order) (by_level below_e.positives) ≡ each entry_of (painting.by_level (filter is_positive (layers_of e below))) =
        ap (λ xs. each (λ y. y.order) (by_level xs)) (positives_are canvas (e.here ∷ e.above) f refl ∙ ap (joined (stack_of canvas)) (layers_are is_positive)) ∙ levels_are level_of entry_of (filter is_positive (layers_of e below)) in
        let h7 : below_e.outlines ≡ each (λ x. paint canvas Outline x.at) (filter (λ x. has_class Block x.at || has_class Inline x.at) (local_boxes e below)) =
        outlines_are canvas (e.here ∷ e.above) f refl ∙ ap (each (λ x. paint canvas Outline x.at)) (local_is (λ x. has_class Block x.at || has_class Inline x.at)) in
        ap (λ z. root_background canvas e ▷ own_background_and_border canvas e ▷ negative_layers e below ▷ block_backgrounds canvas e below ▷ floats e below ▷ inline_context canvas e below ▷ z)
        (join_assoc (paint_if (is_blocky e) (content_and_line canvas e below e)) (each (λ x. content_and_line canvas e below x.at) (of_class Block (local_boxes e below))) (zero_layers e below ▷ positive_layers e below ▷ outlines canvas e below))
        ∙ rw (h1, h2, h3, h4, h5, h6, h7, own_line) refl

  -- a box that is not the root is grouped as it is told of what is below it
  one_is : (above : List BoxData) (k : BoxKey) (d : Item) (ch : BoxForest) → is_none above ≡ false → (painted_box canvas above (box_data k d) ch).grouped ≡ is_one false (blends_in ch) (box_data k d)
  one_is [] k d ch n = cc
  one_is (b ∷ up) k d ch n = grouped-below canvas (record { at = record { above = b ∷ up; here = box_data k d }; below = ch }) ∙ box-found b up k d ch

  passed_is : (above : List BoxData) (f : BoxForest) → is_none above ≡ false → IsApart same_key f → AreOff f above → passed canvas above f ≡ pass enter (give canvas) above f
  passed_is above empty n a o = refl
  passed_is above (tree k d ch nx) n a o =
      let b = box_data k d in
      let o1 : AreOff ch above = λ j m. o j (in_below j k _ _ m) in
      let o2 : AreOff nx above = λ j m. o j (in_rest j k _ _ m) in
      let o3 : AreOff ch (b ∷ above) = off_below k b ch above refl a.0 o1 in
      let deeper = passed_is (b ∷ above) ch refl a.3 o3 in
      let order : (painted_box canvas above b ch).order ≡ order_of enter (give canvas) false above b (pass enter (give canvas) (b ∷ above) ch) =
      steps_are (painted_box canvas above b ch).at ch a.3 o3
      ∙ ap (λ t. order_of enter (give canvas) t above b (passed canvas (b ∷ above) ch)) n
      ∙ ap (order_of enter (give canvas) false above b) deeper in
      let one = is_one false (blends_in ch) b in
      ap (λ g. box_lists enter (give canvas) above b g (painted_box canvas above b ch).order (passed canvas (b ∷ above) ch) ⊕ passed canvas above nx) (one_is above k d ch n)
      ∙ ap (λ p. box_lists enter (give canvas) above b one p (passed canvas (b ∷ above) ch) ⊕ passed canvas above nx) order
      ∙ ap (λ p. box_lists enter (give canvas) above b one (order_of enter (give canvas) false above b (pass enter (give canvas) (b ∷ above) ch)) p ⊕ passed canvas above nx) deeper
      ∙ ap (λ p. box_lists enter (give canvas) above b one (order_of enter (give canvas) false above b (pass enter (give canvas) (b ∷ above) ch)) (pass enter (give canvas) (b ∷ above) ch) ⊕ p) (passed_is above nx n a.4 o2)

  -- CSS 2.2 Appendix E: the pass over a tree gives its painting order
  pub whole_is : (f : BoxForest) → IsApart same_key f → root_order grouping canvas f ≡ whole enter (give canvas) [] f
  whole_is empty a = refl
  whole_is (tree k d ch nx) a =
      let b = box_data k d in
      let o : AreOff ch (b ∷ []) = off_below k b ch [] refl a.0 (λ j m. refl) in
      ap (as_group (is_one true (blends_in ch) b) b)
      (steps_are (record { above = []; here = b }) ch a.3 o
      ∙ ap (order_of enter (give canvas) true [] b) (passed_is (b ∷ []) ch refl a.3 o))

pub fresh_is : (t : Document) → IsApart same_key t.boxes → drawn_list t ≡ whole enter (give (canvas_of t.canvas)) [] t.boxes
fresh_is t a = whole_is (canvas_of t.canvas) t.boxes a
