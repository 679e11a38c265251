use Rattle.std.proofs.Common.{◌≡◌, refl, ◌∙◌, ap, arith, rules, subst, ℕ, Bool, false, not, ◌&&◌, ◌||◌}
use Rattle.std.specs.Prelude.{Option, Some, None, OnOk, nat_lt}
use Rattle.rd_geom.specs.Plane.{Rectangle}
use Rattle.rd_style.specs.Classes.{blended, real}
use Rattle.rd_keys.specs.Keys.{BoxKey, same_key}
use Rattle.rd_keys.specs.declared.entry.Part.TheVariants.{Back, Border, Content}
use Rattle.rd_item.specs.Items.{Made}
use Rattle.rd_list.specs.Entries.{◌▷◌}
use Rattle.rd_tree.specs.Forest.{from_some}
use Rattle.rd_tree.specs.Document.{BoxForest}
use Rattle.rd_stack.specs.Paths.{BoxData}
use Rattle.rd_list.specs.Nested.{laid_out}
use Rattle.rd_partial.specs.Internal.Inherited.{Inherited}
use Rattle.rd_partial.specs.Internal.ContextLists.{ContextLists, ◌⊕◌}
use Rattle.rd_partial.specs.Internal.Inherited as inherited
use Rattle.rd_partial.specs.Internal.Pass.{is_one, as_group, level_in}
use Rattle.rd_partial.specs.Internal.Given.{gives}
use Rattle.rd_partial.specs.Internal.Held.{held}
use Rattle.rd_partial.specs.Internal.BoxLook.{here_of}
use Rattle.rd_partial.specs.Internal.Work.{blends_from, passes}
use Rattle.rd_partial.proofs.Pass.Arms.{over_known, two_joined, context_order, aside_order, float_arm, atom_arm, inline_arm, block_arm, lone_arm, auto_arm, real_arm}
use Rattle.rd_partial.proofs.Kids.{kept_one, kept_end, kept_most, live_next, onward_as, passes_none, passes_of_none, cost_none_below, cost_of_none}
use Rattle.rd_partial.proofs.Pass.Filled.{filled}
use Rattle.rd_partial.proofs.Searching.{kept_over}
use Rattle.rd_partial.proofs.visit.Pass.+build.Goals as goal
use Rattle.rd_tree.specs.Drawn.{drawn}

abbrev inner : (Rectangle → Bool) → ℕ → Inherited → BoxData → Option BoxKey → BoxForest → ContextLists Made
inner wants n s b first boxes = passes wants n (inherited.below s b) (from_some same_key first boxes)

-- A box that makes no stacking context is not grouped.
not_one : (low : Bool) (b : BoxData) → real b.style false ≡ false → is_one false low b ≡ false
not_one low b h = ap (λ r. r && (nat_lt b.style.opacity 255 || blended b.style || (not false && low))) h

pub pseudo_context-same-out : goal.pseudo_context-same-out
pseudo_context-same-out g t c = refl

pub auto_layer-same-outer : goal.auto_layer-same-outer
auto_layer-same-outer g t c = refl

pub auto_layer-same-inner : goal.auto_layer-same-inner
auto_layer-same-inner g t c = refl

pub context-same-out : goal.context-same-out
context-same-out g t c = refl

pub float-returns : goal.float-returns
float-returns g t c = record {
  list = float_arm (g.W.Wanted.wants c.args.self.now.wanted.now) c.args.self.now.number c.args.at.now.inherited.now c.args.at.now.here.now (inner (g.W.Wanted.wants c.args.self.now.wanted.now) c.args.self.now.number c.args.at.now.inherited.now c.args.at.now.here.now c.args.at.now.first_child (drawn c.args.self.now.tree.now).boxes) (is_one false (blends_from c.args.at.now.first_child (drawn c.args.self.now.tree.now)) c.args.at.now.here.now) c.args.local.now c.args.layers.now c.pseudo_context.new.layers c.join.new.self (laid_out c.in_ok-order.order) c.requires.class c.requires.root c.in_ok-order.ensures.list c.in_ok-order.ensures.layers c.in_ok-join.ensures;
  made = c.in_ok-order.ensures.made;
  most = c.pseudo_context.ensures.most;
  looks = c.pseudo_context.ensures.looks;
}

pub atom-returns : goal.atom-returns
atom-returns g t c = record {
  list = atom_arm (g.W.Wanted.wants c.args.self.now.wanted.now) c.args.self.now.number c.args.at.now.inherited.now c.args.at.now.here.now (inner (g.W.Wanted.wants c.args.self.now.wanted.now) c.args.self.now.number c.args.at.now.inherited.now c.args.at.now.here.now c.args.at.now.first_child (drawn c.args.self.now.tree.now).boxes) (is_one false (blends_from c.args.at.now.first_child (drawn c.args.self.now.tree.now)) c.args.at.now.here.now) c.args.local.now c.args.layers.now c.pseudo_context.new.layers c.join.new.self (laid_out c.in_ok-order.order) c.requires.class c.requires.root c.in_ok-order.ensures.list c.in_ok-order.ensures.layers c.in_ok-join.ensures;
  made = c.in_ok-order.ensures.made;
  most = c.pseudo_context.ensures.most;
  looks = c.pseudo_context.ensures.looks;
}

pub inline-returns : goal.inline-returns
inline-returns g t c = record {
  list = inline_arm (g.W.Wanted.wants c.args.self.now.wanted.now) c.args.self.now.number c.args.at.now.inherited.now c.args.at.now.here.now (inner (g.W.Wanted.wants c.args.self.now.wanted.now) c.args.self.now.number c.args.at.now.inherited.now c.args.at.now.here.now c.args.at.now.first_child (drawn c.args.self.now.tree.now).boxes) (is_one false (blends_from c.args.at.now.first_child (drawn c.args.self.now.tree.now)) c.args.at.now.here.now) c.args.local.now c.args.layers.now c.give_content.new.out c.give_outline.new.out (held c.descendants.new.local c.descendants.new.layers) c.requires.class
      c.in_ok-descendants.ensures.list
      (over_known (laid_out c.give_content.new.out) (laid_out c.back_border.new.out) (gives (g.W.Wanted.wants c.args.self.now.wanted.now) c.args.self.now.number c.args.at.now.inherited.now c.args.at.now.here.now Content) (laid_out c.args.local.now.line ▷ ((gives (g.W.Wanted.wants c.args.self.now.wanted.now) c.args.self.now.number c.args.at.now.inherited.now c.args.at.now.here.now Back) ▷ (gives (g.W.Wanted.wants c.args.self.now.wanted.now) c.args.self.now.number c.args.at.now.inherited.now c.args.at.now.here.now Border))) c.in_ok-give_content.ensures.list c.in_ok-back_border.ensures.list)
      c.in_ok-give_outline.ensures.list;
  made = search rules;
  most = search rules;
  looks = search rules;
}

pub block-same-outer : goal.block-same-outer
block-same-outer g t c = refl

pub block-returns-in-None : goal.block-returns-in-None
block-returns-in-None g t c =
    let none = cost_of_none (g.W.Wanted.wants c.args.self.now.wanted.now) c.args.self.now.number (inherited.below c.args.at.now.inherited.now c.args.at.now.here.now) c.args.at.now.first_child (drawn c.args.self.now.tree.now).boxes c.in-None.is in record {
      list = lone_arm (g.W.Wanted.wants c.args.self.now.wanted.now) c.args.self.now.number c.args.at.now.inherited.now c.args.at.now.here.now (inner (g.W.Wanted.wants c.args.self.now.wanted.now) c.args.self.now.number c.args.at.now.inherited.now c.args.at.now.here.now c.args.at.now.first_child (drawn c.args.self.now.tree.now).boxes) (is_one false (blends_from c.args.at.now.first_child (drawn c.args.self.now.tree.now)) c.args.at.now.here.now) c.args.local.now c.args.layers.now c.block_itself.new.local c.requires.class (passes_of_none (g.W.Wanted.wants c.args.self.now.wanted.now) c.args.self.now.number (inherited.below c.args.at.now.inherited.now c.args.at.now.here.now) c.args.at.now.first_child (drawn c.args.self.now.tree.now).boxes c.in-None.is)
          c.in_ok-block_itself.ensures.floats c.in_ok-block_itself.ensures.backgrounds c.in_ok-block_itself.ensures.line c.in_ok-block_itself.ensures.contents c.in_ok-block_itself.ensures.outlines;
      made = omega (arith, none, c.in_ok-block_itself.ensures.made);
      most = omega (arith, c.block_itself.ensures.most);
      looks = omega arith;
    }

pub block-returns : goal.block-returns
block-returns g t c = record {
  list = block_arm (g.W.Wanted.wants c.args.self.now.wanted.now) c.args.self.now.number c.args.at.now.inherited.now c.args.at.now.here.now (inner (g.W.Wanted.wants c.args.self.now.wanted.now) c.args.self.now.number c.args.at.now.inherited.now c.args.at.now.here.now c.args.at.now.first_child (drawn c.args.self.now.tree.now).boxes) (is_one false (blends_from c.args.at.now.first_child (drawn c.args.self.now.tree.now)) c.args.at.now.here.now) c.args.local.now c.args.layers.now c.block_itself.new.local c.open_line-outer.new.local c.descendants.new.local c.close_line.new.local c.descendants.new.layers c.open_line-outer.result c.requires.class
      c.in_ok-block_itself.ensures.floats c.in_ok-block_itself.ensures.backgrounds c.in_ok-block_itself.ensures.line c.in_ok-block_itself.ensures.contents c.in_ok-block_itself.ensures.outlines
      c.open_line-outer.ensures.outer c.open_line-outer.ensures.backgrounds c.open_line-outer.ensures.floats c.open_line-outer.ensures.line c.open_line-outer.ensures.contents c.open_line-outer.ensures.outlines
      c.in_ok-descendants.ensures.list
      c.in_ok-close_line.ensures.backgrounds c.in_ok-close_line.ensures.floats c.in_ok-close_line.ensures.line c.in_ok-close_line.ensures.contents c.in_ok-close_line.ensures.outlines;
  made = search rules;
  most = search rules;
  looks = search rules;
}

pub auto_layer-returns : goal.auto_layer-returns
auto_layer-returns g t c = record {
  list = auto_arm (g.W.Wanted.wants c.args.self.now.wanted.now) c.args.self.now.number c.args.at.now.inherited.now c.args.at.now.here.now (inner (g.W.Wanted.wants c.args.self.now.wanted.now) c.args.self.now.number c.args.at.now.inherited.now c.args.at.now.here.now c.args.at.now.first_child (drawn c.args.self.now.tree.now).boxes) (is_one false (blends_from c.args.at.now.first_child (drawn c.args.self.now.tree.now)) c.args.at.now.here.now) c.args.local.now c.args.layers.now c.pseudo_context.new.layers c.replace-outer.new.dest c.join-2.new.self (laid_out c.in_ok-order.order) c.requires.class c.requires.unreal
      (not_one (blends_from c.args.at.now.first_child (drawn c.args.self.now.tree.now)) c.args.at.now.here.now c.requires.unreal) c.requires.root c.in_ok-order.ensures.list c.in_ok-order.ensures.layers
      (ap laid_out c.replace-outer.ensures.after ∙ c.empty.ensures)
      (two_joined c.join-2.new.self c.join.new.self c.replace-inner.new.dest c.args.layers.now.zeros c.in_ok-order.order c.in_ok-order.order c.replace-inner.result c.pseudo_context.new.layers.zeros c.in_ok-join-2.ensures c.in_ok-join.ensures (c.replace-inner.ensures.after ∙ c.replace-outer.ensures.value) refl c.replace-inner.ensures.value);
  made = c.in_ok-order.ensures.made;
  most = c.pseudo_context.ensures.most;
  looks = c.pseudo_context.ensures.looks;
}

pub real_layer-as_group-requires : goal.real_layer-as_group-requires
real_layer-as_group-requires g t c =
    record { filled = filled (g.W.Wanted.wants c.args.self.now.wanted.now) c.args.self.now.number c.args.at.now.inherited.now c.args.at.now.here.now (from_some same_key c.args.at.now.first_child (drawn c.args.self.now.tree.now).boxes) (laid_out c.in_ok-order.order) c.in_ok-order.ensures.list }

pub real_layer-returns : goal.real_layer-returns
real_layer-returns g t c = record {
  list = real_arm (g.W.Wanted.wants c.args.self.now.wanted.now) c.args.self.now.number c.args.at.now.inherited.now c.args.at.now.here.now (inner (g.W.Wanted.wants c.args.self.now.wanted.now) c.args.self.now.number c.args.at.now.inherited.now c.args.at.now.here.now c.args.at.now.first_child (drawn c.args.self.now.tree.now).boxes) (is_one false (blends_from c.args.at.now.first_child (drawn c.args.self.now.tree.now)) c.args.at.now.here.now) c.args.local.now c.args.layers.now c.stack.new.layers (level_in c.args.at.now.here.now) (laid_out c.in_ok-order.order) (laid_out c.in_ok-order-2.order) c.requires.class c.requires.real c.requires.root c.in_ok-order.ensures.list
      (c.in_ok-order-2.ensures ∙ ap (λ low. as_group (is_one false low c.args.at.now.here.now) c.args.at.now.here.now (laid_out c.in_ok-order.order)) c.requires.low) refl c.in_ok-stack.ensures;
  made = c.in_ok-order.ensures.made;
  most = c.context.ensures.most;
  looks = c.context.ensures.looks;
}

pub context-returns-clause-list : goal.context-returns-clause-list
context-returns-clause-list g t c =
    c.in_ok-order.ensures ∙ context_order (g.W.Wanted.wants c.args.self.now.wanted.now) c.args.self.now.number c.args.at.now.inherited.now c.args.at.now.here.now (inner (g.W.Wanted.wants c.args.self.now.wanted.now) c.args.self.now.number c.args.at.now.inherited.now c.args.at.now.here.now c.args.at.now.first_child (drawn c.args.self.now.tree.now).boxes) (laid_out c.in_ok-out.field-0.out) (held c.begun-local.result c.none-layers.result) (held c.descendants.new.local c.descendants.new.layers) c.requires.real c.in_ok-out.ensures.out
    (rw (c.begun-local.ensures.backgrounds, c.begun-local.ensures.floats, c.begun-local.ensures.line, c.begun-local.ensures.contents, c.begun-local.ensures.outlines, c.none-layers.ensures.negatives, c.none-layers.ensures.zeros, c.none-layers.ensures.positives, c.in_ok-out.ensures.line, c.in_ok-out.ensures.outlines) refl)
    c.in_ok-descendants.ensures.list

pub pseudo_context-returns-clause-list : goal.pseudo_context-returns-clause-list
pseudo_context-returns-clause-list g t c =
    c.in_ok-order.ensures ∙ rw (c.none.ensures.negatives, c.none.ensures.zeros, c.none.ensures.positives) (aside_order (g.W.Wanted.wants c.args.self.now.wanted.now) c.args.self.now.number c.args.at.now.inherited.now c.args.at.now.here.now (inner (g.W.Wanted.wants c.args.self.now.wanted.now) c.args.self.now.number c.args.at.now.inherited.now c.args.at.now.here.now c.args.at.now.first_child (drawn c.args.self.now.tree.now).boxes) (laid_out c.in_ok-out.field-0.out) (held c.begun-local.result c.args.layers.now) (held c.descendants.new.local c.descendants.new.layers) c.requires.unreal c.in_ok-out.ensures.out
    (rw (c.begun-local.ensures.backgrounds, c.begun-local.ensures.floats, c.begun-local.ensures.line, c.begun-local.ensures.contents, c.begun-local.ensures.outlines, c.in_ok-out.ensures.line, c.in_ok-out.ensures.outlines) refl)
    c.in_ok-descendants.ensures.list)

pub siblings-loop-looked-preserved : goal.siblings-loop-looked-preserved
siblings-loop-looked-preserved g t c =
    let n = c.in-Some.ensures in
    let v = c.in-Some.looked in (
      live_next (drawn c.args.self.now.tree.now).boxes n.key (here_of v) v.first_child v.next_sibling v.hull n.told,
      kept_one (g.W.Wanted.wants c.args.self.now.wanted.now) c.args.self.now.number c.args.of.now.inherited.now (drawn c.args.self.now.tree.now).boxes (from_some same_key c.args.of.now.first (drawn c.args.self.now.tree.now).boxes) n.key c.here-here.result
          v.first_child v.next_sibling v.hull (onward_as c.here-here.ensures n.told) (held c.args.local.now c.args.layers.now) (held c.loop-looked.local c.loop-looked.layers) c.args.made.now c.loop-looked.made c.args.looks.now n.before (Some n.key)
          (held c.drop_box.new.local c.drop_box.new.layers) c.drop_box.new.made c.next_wanted.new.looks c.drop_box.new.looks refl
          (kept_over (g.W.Wanted.wants c.args.self.now.wanted.now) c.args.self.now.number c.args.of.now.inherited.now (drawn c.args.self.now.tree.now) (from_some same_key c.args.of.now.first (drawn c.args.self.now.tree.now).boxes) c.loop-looked.next (Some n.key)
          (held c.args.local.now c.args.layers.now) (held c.loop-looked.local c.loop-looked.layers) c.args.made.now c.loop-looked.made c.args.looks.now c.loop-looked.looks n.before c.requires.root c.loop-looked.invariant.1 n.passed)
          n.wanted c.in_ok-drop_box.ensures.list c.in_ok-drop_box.ensures.made n.cost c.drop_box.ensures.looks,
    )

pub siblings-returns-in_err-drop_box-clause-most : goal.siblings-returns-in_err-drop_box-clause-most
siblings-returns-in_err-drop_box-clause-most g t c =
    let n = c.in-Some.ensures in
    let v = c.in-Some.looked in
    kept_most (g.W.Wanted.wants c.args.self.now.wanted.now) c.args.self.now.number c.args.of.now.inherited.now (drawn c.args.self.now.tree.now).boxes (from_some same_key c.args.of.now.first (drawn c.args.self.now.tree.now).boxes) n.key c.here-here.result v.first_child v.next_sibling v.hull
    (onward_as c.here-here.ensures n.told) (held c.args.local.now c.args.layers.now) (held c.loop-looked.local c.loop-looked.layers) c.args.made.now c.loop-looked.made c.args.looks.now n.before (Some n.key) c.drop_box.new.made refl
    (kept_over (g.W.Wanted.wants c.args.self.now.wanted.now) c.args.self.now.number c.args.of.now.inherited.now (drawn c.args.self.now.tree.now) (from_some same_key c.args.of.now.first (drawn c.args.self.now.tree.now).boxes) c.loop-looked.next (Some n.key)
    (held c.args.local.now c.args.layers.now) (held c.loop-looked.local c.loop-looked.layers) c.args.made.now c.loop-looked.made c.args.looks.now c.loop-looked.looks n.before c.requires.root c.loop-looked.invariant.1 n.passed)
    c.drop_box.ensures.most

pub siblings-returns-in-None-clause-list : goal.siblings-returns-in-None-clause-list
siblings-returns-in-None-clause-list g t c =
    (kept_end (g.W.Wanted.wants c.args.self.now.wanted.now) c.args.self.now.number c.args.of.now.inherited.now (drawn c.args.self.now.tree.now).boxes (from_some same_key c.args.of.now.first (drawn c.args.self.now.tree.now).boxes) (from_some same_key None (drawn c.args.self.now.tree.now).boxes) (held c.args.local.now c.args.layers.now) (held c.loop-looked.local c.loop-looked.layers) c.args.made.now c.loop-looked.made c.args.looks.now c.next_wanted.new.looks refl
    (kept_over (g.W.Wanted.wants c.args.self.now.wanted.now) c.args.self.now.number c.args.of.now.inherited.now (drawn c.args.self.now.tree.now) (from_some same_key c.args.of.now.first (drawn c.args.self.now.tree.now).boxes) c.loop-looked.next None
    (held c.args.local.now c.args.layers.now) (held c.loop-looked.local c.loop-looked.layers) c.args.made.now c.loop-looked.made c.args.looks.now c.loop-looked.looks c.next_wanted.new.looks c.requires.root c.loop-looked.invariant.1 c.in-None.ensures)).0

pub siblings-returns-in-None-clause-made : goal.siblings-returns-in-None-clause-made
siblings-returns-in-None-clause-made g t c =
    (kept_end (g.W.Wanted.wants c.args.self.now.wanted.now) c.args.self.now.number c.args.of.now.inherited.now (drawn c.args.self.now.tree.now).boxes (from_some same_key c.args.of.now.first (drawn c.args.self.now.tree.now).boxes) (from_some same_key None (drawn c.args.self.now.tree.now).boxes) (held c.args.local.now c.args.layers.now) (held c.loop-looked.local c.loop-looked.layers) c.args.made.now c.loop-looked.made c.args.looks.now c.next_wanted.new.looks refl
    (kept_over (g.W.Wanted.wants c.args.self.now.wanted.now) c.args.self.now.number c.args.of.now.inherited.now (drawn c.args.self.now.tree.now) (from_some same_key c.args.of.now.first (drawn c.args.self.now.tree.now).boxes) c.loop-looked.next None
    (held c.args.local.now c.args.layers.now) (held c.loop-looked.local c.loop-looked.layers) c.args.made.now c.loop-looked.made c.args.looks.now c.loop-looked.looks c.next_wanted.new.looks c.requires.root c.loop-looked.invariant.1 c.in-None.ensures)).1

pub siblings-returns-in-None-clause-looks : goal.siblings-returns-in-None-clause-looks
siblings-returns-in-None-clause-looks g t c =
    (kept_end (g.W.Wanted.wants c.args.self.now.wanted.now) c.args.self.now.number c.args.of.now.inherited.now (drawn c.args.self.now.tree.now).boxes (from_some same_key c.args.of.now.first (drawn c.args.self.now.tree.now).boxes) (from_some same_key None (drawn c.args.self.now.tree.now).boxes) (held c.args.local.now c.args.layers.now) (held c.loop-looked.local c.loop-looked.layers) c.args.made.now c.loop-looked.made c.args.looks.now c.next_wanted.new.looks refl
    (kept_over (g.W.Wanted.wants c.args.self.now.wanted.now) c.args.self.now.number c.args.of.now.inherited.now (drawn c.args.self.now.tree.now) (from_some same_key c.args.of.now.first (drawn c.args.self.now.tree.now).boxes) c.loop-looked.next None
    (held c.args.local.now c.args.layers.now) (held c.loop-looked.local c.loop-looked.layers) c.args.made.now c.loop-looked.made c.args.looks.now c.loop-looked.looks c.next_wanted.new.looks c.requires.root c.loop-looked.invariant.1 c.in-None.ensures)).2

pub descendants-returns-in-Some-clause-list : goal.descendants-returns-in-Some-clause-list
descendants-returns-in-Some-clause-list g t c =
    subst (λ (z : Inherited). OnOk c.siblings.result (held c.siblings.new.local c.siblings.new.layers ≡ held c.args.local.now c.args.layers.now ⊕ passes (g.W.Wanted.wants c.args.self.now.wanted.now) c.args.self.now.number z (from_some same_key c.args.at.now.first_child (drawn c.args.self.now.tree.now).boxes))) c.below-inner.ensures c.siblings.ensures.list

pub descendants-returns-in-None-clause-list : goal.descendants-returns-in-None-clause-list
descendants-returns-in-None-clause-list g t c =
    passes_none (g.W.Wanted.wants c.args.self.now.wanted.now) c.args.self.now.number (inherited.below c.args.at.now.inherited.now c.args.at.now.here.now) c.args.at.now.first_child (drawn c.args.self.now.tree.now).boxes (held c.args.local.now c.args.layers.now) c.in-None.is

pub descendants-returns-in-None-clause-made : goal.descendants-returns-in-None-clause-made
descendants-returns-in-None-clause-made g t c =
    cost_none_below (g.W.Wanted.wants c.args.self.now.wanted.now) c.args.self.now.number (inherited.below c.args.at.now.inherited.now c.args.at.now.here.now) c.args.at.now.first_child (drawn c.args.self.now.tree.now).boxes c.args.made.now c.in-None.is
