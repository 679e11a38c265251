-- The ten steps, told.
use Rattle.std.proofs.Common.{◌≡◌, refl, sym, ap, subst, pos, Bool, not, ◌&&◌, ◌||◌, List, [], ◌∷◌, ◌++◌}
use Rattle.std.specs.Prelude.{int_lt}
use Rattle.rd_style.specs.declared.kinds.Class.TheVariants.{Float, Atom, Block, Inline}
use Rattle.rd_keys.specs.declared.entry.Part.TheVariants.{Back, Border, Content, Outline}
use Rattle.rd_item.specs.declared.leaf.Leaf.{Leaf}
use Rattle.rd_list.specs.Wrappers.{Wrapper}
use Rattle.rd_list.specs.Entries.{Entries, ◌▷◌}
use Rattle.rd_tree.specs.Forest.{empty, tree}
use Rattle.rd_tree.specs.Document.{BoxForest}
use Rattle.rd_tree.specs.Drawn.{drawn}
use Rattle.rd_stack.specs.Paths.{BoxData, BoxPath, is_root, is_context, has_class, is_local, is_layer, is_in_line, is_blended_layer, is_grouped}
use Rattle.rd_stack.specs.Painting as painting
use Rattle.rd_stack.specs.Painting.{Painted, is_blocky}
use Rattle.rd_stack.specs.Fresh.{box_data, grouping, painted, root_order}
use Rattle.rd_trace.specs.declared.placing.PaintStep.{PaintStep}
use Rattle.rd_trace.specs.declared.placing.PaintStep.TheVariants as at
use Rattle.rd_trace.specs.declared.placing.Sight.{Sight}
use Rattle.rd_trace.specs.Ways.{Traced, TracedBox, place, placing, layer_place, level_at, passed}
use Rattle.rd_trace.specs.Steps as spec
use Rattle.rd_trace.specs.Traces.{traced_at, traced_below, root_traces, sight}
use Rattle.rd_trace.specs.Laws.{TracedLaw}
use Rattle.rd_trace.proofs.Told.{Told, told_join, told_ten, told_if, told_either, told_part, told_back_border, told_passed}
use Rattle.rd_trace.proofs.Ordering.{from_last}
use Rattle.rd_trace.proofs.Alike.{IsAlike, AreAlike, alike_append, alike_filter, alike_any, alike_each, alike_by_level, told_entry}

module _ (s : Sight) where
  pub told_layers : (q : BoxPath → Bool) (step : PaintStep) (e : BoxPath) (xs : List TracedBox) (ys : List Painted) → AreAlike s xs ys
      → Told s (spec.layers_where (λ x. q x.at) step e xs) (painting.layers_where (λ y. q y.at) e ys)
  told_layers q step e xs ys h =
      told_if s (is_context e) _ _
      (alike_each s (spec.layer step e) painting.entry_of _ _ (λ x y k. told_passed s (layer_place step e x.at) _ _ (told_entry s x y k))
      (alike_by_level s _ _ (alike_filter s q _ _ (alike_filter s (is_layer e) xs ys h))))

  told_inline : (step : PaintStep) (e c : BoxPath) (x : TracedBox) (y : Painted) → IsAlike s x y → Told s (spec.inline_part s step e c x) (painting.inline_part s.canvas y)
  told_inline step e c x y h =
      rw (h.0) (told_either s (has_class Atom y.at) (passed (placing step e c y.at) x.order) (spec.back_border s (placing step e c y.at) y.at ++ spec.trace s (placing step e c y.at) Content y.at)
      y.order (painting.back_border s.canvas y.at ▷ painting.paint s.canvas Content y.at) (told_passed s (placing step e c y.at) x.order y.order h.2)
      (told_join s _ _ _ _ (told_back_border s (placing step e c y.at) y.at) (told_part s (placing step e c y.at) Content y.at)))

  told_content : (step : PaintStep) (e c : BoxPath) (xs : List TracedBox) (ys : List Painted) → AreAlike s xs ys
      → Told s (spec.content_and_line s step e xs c) (painting.content_and_line s.canvas e ys c)
  told_content step e c xs ys h =
      told_join s _ _ _ _ (told_part s (place step e c) Content c)
      (alike_each s (spec.inline_part s step e c) (painting.inline_part s.canvas) _ _ (told_inline step e c) (alike_filter s (is_in_line e c) xs ys h))

  pub told_root : (e : BoxPath) → Told s (spec.root_background s e) (painting.root_background s.canvas e)
  told_root e = told_if s (is_root e) _ _ (told_part s (place at.RootBackground e e) Back e)

  pub told_own : (e : BoxPath) → Told s (spec.own_background_and_border s e) (painting.own_background_and_border s.canvas e)
  told_own e =
      let w = place at.OwnBackground e e in
      told_if s (is_blocky e) _ _ (told_join s _ _ _ _ (told_if s (not (is_root e)) _ _ (told_part s w Back e)) (told_part s w Border e))

  module _ (e : BoxPath) (xs : List TracedBox) (ys : List Painted) (h : AreAlike s xs ys) where
    local : AreAlike s (spec.local_boxes e xs) (painting.local_boxes e ys)
    local = alike_filter s (is_local e) xs ys h

    blocks : AreAlike s (spec.of_class Block (spec.local_boxes e xs)) (painting.of_class Block (painting.local_boxes e ys))
    blocks = alike_filter s (has_class Block) _ _ local

    pub told_blocks : Told s (spec.block_backgrounds s e xs) (painting.block_backgrounds s.canvas e ys)
    told_blocks = alike_each s (λ x. spec.back_border s (place at.BlockBackgrounds e x.at) x.at) (λ y. painting.back_border s.canvas y.at) _ _ (λ x y k. rw (k.0) (told_back_border s (place at.BlockBackgrounds e y.at) y.at)) blocks

    pub told_floats : Told s (spec.floats e xs) (painting.floats e ys)
    told_floats = alike_each s (spec.whole at.Floats e) (λ y. y.order) _ _ (λ x y k. told_passed s (place at.Floats e x.at) x.order y.order k.2) (alike_filter s (has_class Float) _ _ local)

    pub told_inlines : Told s (spec.inline_context s e xs) (painting.inline_context s.canvas e ys)
    told_inlines =
        told_if s (not (is_blocky e)) _ _
        (told_join s _ _ _ _ (told_back_border s (place at.InlineContext e e) e) (told_content at.InlineContext e e xs ys h))

    pub told_contents : Told s (spec.block_contents s e xs) (painting.block_contents s.canvas e ys)
    told_contents =
        told_join s _ _ _ _ (told_if s (is_blocky e) _ _ (told_content at.BlockContents e e xs ys h))
        (alike_each s (λ x. spec.content_and_line s at.BlockContents e xs x.at) (λ y. painting.content_and_line s.canvas e ys y.at) _ _ (λ x y k. rw (k.0) (told_content at.BlockContents e y.at xs ys h)) blocks)

    pub told_outlines : Told s (spec.outlines s e xs) (painting.outlines s.canvas e ys)
    told_outlines =
        told_join s _ _ _ _ (told_part s (place at.Outlines e e) Outline e)
        (alike_each s (λ x. spec.trace s (place at.Outlines e x.at) Outline x.at) (λ y. painting.paint s.canvas Outline y.at) _ _ (λ x y k. rw (k.0) (told_part s (place at.Outlines e y.at) Outline y.at))
        (alike_filter s (λ p. has_class Block p || has_class Inline p) _ _ local))

    -- what a box paints, in its ten steps
    ten_steps : painting.steps s.canvas e ys
        ≡ painting.root_background s.canvas e ▷ (painting.own_background_and_border s.canvas e ▷ (painting.negative_layers e ys ▷ (painting.block_backgrounds s.canvas e ys ▷ (painting.floats e ys
        ▷ (painting.inline_context s.canvas e ys ▷ (painting.block_contents s.canvas e ys ▷ (painting.zero_layers e ys ▷ (painting.positive_layers e ys ▷ painting.outlines s.canvas e ys))))))))
    unfolding painting.steps
    ten_steps = refl

    -- the leaves of the ten, from the last
    abbrev in_turn : List Traced
    in_turn =
        spec.root_background s e ++ (spec.own_background_and_border s e ++ (spec.negative_layers e xs ++ (spec.block_backgrounds s e xs ++ (spec.floats e xs
        ++ (spec.inline_context s e xs ++ (spec.block_contents s e xs ++ (spec.zero_layers e xs ++ (spec.positive_layers e xs ++ spec.outlines s e xs))))))))

    told_chain : Told s in_turn
        (painting.root_background s.canvas e ▷ (painting.own_background_and_border s.canvas e ▷ (painting.negative_layers e ys ▷ (painting.block_backgrounds s.canvas e ys ▷ (painting.floats e ys
        ▷ (painting.inline_context s.canvas e ys ▷ (painting.block_contents s.canvas e ys ▷ (painting.zero_layers e ys ▷ (painting.positive_layers e ys ▷ painting.outlines s.canvas e ys)))))))))
    told_chain =
        told_ten s
        (spec.root_background s e) (spec.own_background_and_border s e) (spec.negative_layers e xs) (spec.block_backgrounds s e xs) (spec.floats e xs)
        (spec.inline_context s e xs) (spec.block_contents s e xs) (spec.zero_layers e xs) (spec.positive_layers e xs) (spec.outlines s e xs)
        (painting.root_background s.canvas e) (painting.own_background_and_border s.canvas e) (painting.negative_layers e ys) (painting.block_backgrounds s.canvas e ys) (painting.floats e ys)
        (painting.inline_context s.canvas e ys) (painting.block_contents s.canvas e ys) (painting.zero_layers e ys) (painting.positive_layers e ys) (painting.outlines s.canvas e ys)
        (told_root e) (told_own e) (told_layers (λ p. int_lt (level_at p) (pos 0)) at.NegativeLayers e xs ys h) told_blocks told_floats told_inlines told_contents
        (told_layers (λ p. not (int_lt (level_at p) (pos 0)) && not (int_lt (pos 0) (level_at p))) at.ZeroLayers e xs ys h)
        (told_layers (λ p. int_lt (pos 0) (level_at p)) at.PositiveLayers e xs ys h)
        told_outlines

    pub told_steps : Told s (spec.steps s e xs) (painting.steps s.canvas e ys)
    told_steps =
        subst (λ (ts : List Traced). Told s ts (painting.steps s.canvas e ys)) (sym (from_last s e xs))
        (subst (λ (l : Entries Wrapper Leaf). Told s in_turn l) (sym ten_steps) told_chain)

    pub alike_at : IsAlike s (traced_at s e xs) (record { at = e; order = painting.steps s.canvas e ys; grouped = grouping e ys })
    alike_at = (refl, ap (is_grouped e) (alike_any s (is_blended_layer e) xs ys h), told_steps)

  pub alike_below : (above : List BoxData) (f : BoxForest) → AreAlike s (traced_below s above f) (painted grouping s.canvas above f)
  alike_below above empty = tt
  alike_below above (tree k d children next) =
      let b = box_data k d in
      let below = alike_below (b ∷ above) children in
      (alike_at (record { above = above; here = b }) _ _ below, alike_append s _ _ _ _ below (alike_below above next))

  told_first : (f : BoxForest) → Told s (root_traces s f) (root_order grouping s.canvas f)
  told_first empty = record { is = refl }
  told_first (tree k d children next) =
      told_entry s _ _ (alike_at (record { above = []; here = box_data k d }) _ _ (alike_below (box_data k d ∷ []) children))

pub tracing : TracedLaw
tracing x y t = (told_first (sight x y (drawn t)) (drawn t).boxes).is
