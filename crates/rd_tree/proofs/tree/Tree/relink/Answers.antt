use Rattle.std.proofs.Common.{◌≡◌, ◌∙◌, ap, sym, subst, true}
use Rattle.rd_keys.specs.Keys.{same_key}
use Rattle.rd_tree.specs.Forest.{has, item_of, children, IsApart}
use Rattle.rd_tree.specs.Changes.{moving}
use Rattle.rd_tree.specs.Touching.{edited}
use Rattle.rd_tree.specs.Internal.Handing.{IsFar}
use Rattle.rd_tree.specs.Internal.Hands.{hand_at}
use Rattle.rd_tree.specs.Internal.Laid.{laid_at, own_from, passed_from, CanDraw, IsHandedDown}
use Rattle.rd_tree.proofs.Forests.ByKey.{has-by, subtree-by}
use Rattle.rd_tree.proofs.Laying.Kept.{own_far}
use Rattle.rd_tree.proofs.Laying.Shown.{place_laid, depth_laid}
use Rattle.rd_tree.proofs.Laying.Ends.{IsRedrawn}
use Rattle.rd_tree.proofs.Laying.Moved.{move_can, move_there, move_below, move_done}
use Rattle.rd_tree.proofs.tree.Tree.relink.Goals as goal

pub hand-own-requires-clause-live : goal.hand-own-requires-clause-live
hand-own-requires-clause-live g c = (sym (has-by (λ k d. laid_at (hand_at c.self.inside.hands.items k) d) same_key c.args.key c.self.inside.drawn.boxes) ∙ (rw (← c.self.view_is) at c.requires.live))

pub hand-own-requires-clause-handing : goal.hand-own-requires-clause-handing
hand-own-requires-clause-handing g c = rw c.deref.ensures.value c.self.invariant

pub hand_inside-inside-requires-clause-live : goal.hand_inside-inside-requires-clause-live
hand_inside-inside-requires-clause-live g c = (sym (has-by (λ k d. laid_at (hand_at c.self.inside.hands.items k) d) same_key c.args.parent c.self.inside.drawn.boxes) ∙ (rw (← c.self.view_is) at c.requires.parent))

pub hand_inside-inside-requires-clause-handing : goal.hand_inside-inside-requires-clause-handing
hand_inside-inside-requires-clause-handing g c = rw c.deref-2.ensures.value c.self.invariant

pub relink-requires-clause-live : goal.relink-requires-clause-live
relink-requires-clause-live g c = (sym (has-by (λ k d. laid_at (hand_at c.self.inside.hands.items k) d) same_key c.args.key c.self.inside.drawn.boxes) ∙ (rw (← c.self.view_is) at c.requires.live))

pub relink-requires-clause-below : goal.relink-requires-clause-below
relink-requires-clause-below g c = (rw (← c.self.view_is) at c.requires.below)

pub relink-requires-clause-parent : goal.relink-requires-clause-parent
relink-requires-clause-parent g c = (sym (has-by (λ k d. laid_at (hand_at c.self.inside.hands.items k) d) same_key c.args.parent c.self.inside.drawn.boxes) ∙ (rw (← c.self.view_is) at c.requires.parent))

pub relink-requires-clause-outside : goal.relink-requires-clause-outside
relink-requires-clause-outside g c = (sym (subtree-by (λ k d. laid_at (hand_at c.self.inside.hands.items k) d) same_key c.args.parent c.args.key c.self.inside.drawn.boxes) ∙ (rw (← c.self.view_is) at c.requires.outside))

pub relink-requires-clause-place : goal.relink-requires-clause-place
relink-requires-clause-place g c = (place_laid c.self.inside.hands.items c.args.before c.args.parent c.self.inside.drawn.boxes (rw (← c.self.view_is) at c.requires.place))

pub relink-requires-clause-depth : goal.relink-requires-clause-depth
relink-requires-clause-depth g c = (depth_laid c.self.inside.hands.items c.args.parent c.args.key c.self.inside.drawn.boxes (rw (← c.self.view_is) at c.requires.depth))

pub draw_anew-requires-clause-live : goal.draw_anew-requires-clause-live
draw_anew-requires-clause-live g c = subst (λ z. has same_key c.args.key z.boxes ≡ true) (sym c.relink.ensures) (move_there c.self.inside.drawn c.self.inside.hands.items (record { rooted = c.known.ensures.rooted; apart = c.known.ensures.apart; keyed = c.known.ensures.keyed; shallow = c.known.ensures.depth }) c.self.invariant c.args.key c.args.parent c.args.before (sym (has-by (λ k d. laid_at (hand_at c.self.inside.hands.items k) d) same_key c.args.key c.self.inside.drawn.boxes) ∙ (rw (← c.self.view_is) at c.requires.live)) (rw (← c.self.view_is) at c.requires.below) (sym (has-by (λ k d. laid_at (hand_at c.self.inside.hands.items k) d) same_key c.args.parent c.self.inside.drawn.boxes) ∙ (rw (← c.self.view_is) at c.requires.parent)) (sym (subtree-by (λ k d. laid_at (hand_at c.self.inside.hands.items k) d) same_key c.args.parent c.args.key c.self.inside.drawn.boxes) ∙ (rw (← c.self.view_is) at c.requires.outside)) (place_laid c.self.inside.hands.items c.args.before c.args.parent c.self.inside.drawn.boxes (rw (← c.self.view_is) at c.requires.place)) c.requires.other c.hand_inside-inside.result (c.hand_inside-inside.ensures.inside ∙ ap (λ z. passed_from (same_key c.args.parent c.self.inside.drawn.root) (hand_at z c.args.parent) (item_of same_key c.args.parent c.self.inside.drawn.boxes)) c.deref-2.ensures.value))

pub draw_anew-requires-clause-old : goal.draw_anew-requires-clause-old
draw_anew-requires-clause-old g c = subst (IsFar 256) (sym c.own_offset-old.ensures) (own_far c.hand-own.result (item_of same_key c.args.key c.self.inside.drawn.boxes) c.hand-own.ensures.few)

pub draw_anew-requires-clause-can : goal.draw_anew-requires-clause-can
draw_anew-requires-clause-can g c =
    subst (λ z. CanDraw z c.self.inside.hands.items c.args.key c.own_offset-old.result c.hand_inside-inside.result) (sym c.relink.ensures)
    (move_can c.self.inside.drawn c.self.inside.hands.items (record { rooted = c.known.ensures.rooted; apart = c.known.ensures.apart; keyed = c.known.ensures.keyed; shallow = c.known.ensures.depth }) c.self.invariant c.args.key c.args.parent c.args.before (sym (has-by (λ k d. laid_at (hand_at c.self.inside.hands.items k) d) same_key c.args.key c.self.inside.drawn.boxes) ∙ (rw (← c.self.view_is) at c.requires.live)) (rw (← c.self.view_is) at c.requires.below) (sym (has-by (λ k d. laid_at (hand_at c.self.inside.hands.items k) d) same_key c.args.parent c.self.inside.drawn.boxes) ∙ (rw (← c.self.view_is) at c.requires.parent)) (sym (subtree-by (λ k d. laid_at (hand_at c.self.inside.hands.items k) d) same_key c.args.parent c.args.key c.self.inside.drawn.boxes) ∙ (rw (← c.self.view_is) at c.requires.outside)) (place_laid c.self.inside.hands.items c.args.before c.args.parent c.self.inside.drawn.boxes (rw (← c.self.view_is) at c.requires.place)) c.requires.other c.hand_inside-inside.result (c.hand_inside-inside.ensures.inside ∙ ap (λ z. passed_from (same_key c.args.parent c.self.inside.drawn.root) (hand_at z c.args.parent) (item_of same_key c.args.parent c.self.inside.drawn.boxes)) c.deref-2.ensures.value) c.own_offset-old.result (c.own_offset-old.ensures ∙ ap (λ z. own_from z (item_of same_key c.args.key c.self.inside.drawn.boxes)) (c.hand-own.ensures.hand ∙ ap (λ z. hand_at z c.args.key) c.deref.ensures.value)) c.hand_inside-inside.ensures.few (depth_laid c.self.inside.hands.items c.args.parent c.args.key c.self.inside.drawn.boxes (rw (← c.self.view_is) at c.requires.depth)))

pub invariant_of-self : goal.invariant_of-self
invariant_of-self g c =
    let redrawn : IsRedrawn c.relink.new.self c.draw_anew.new.drawn c.self.inside.hands.items c.draw_anew.new.hands.items c.args.key c.own_offset-old.result c.hand_inside-inside.result = record {
      drawn = c.draw_anew.ensures.drawn;
      handed = c.draw_anew.ensures.handed;
      same_length = c.draw_anew.ensures.same_length;
    } in
    (move_done c.self.inside.drawn c.self.inside.hands.items (record { rooted = c.known.ensures.rooted; apart = c.known.ensures.apart; keyed = c.known.ensures.keyed; shallow = c.known.ensures.depth }) c.self.invariant c.args.key c.args.parent c.args.before (sym (has-by (λ k d. laid_at (hand_at c.self.inside.hands.items k) d) same_key c.args.key c.self.inside.drawn.boxes) ∙ (rw (← c.self.view_is) at c.requires.live)) (rw (← c.self.view_is) at c.requires.below) (sym (has-by (λ k d. laid_at (hand_at c.self.inside.hands.items k) d) same_key c.args.parent c.self.inside.drawn.boxes) ∙ (rw (← c.self.view_is) at c.requires.parent)) (sym (subtree-by (λ k d. laid_at (hand_at c.self.inside.hands.items k) d) same_key c.args.parent c.args.key c.self.inside.drawn.boxes) ∙ (rw (← c.self.view_is) at c.requires.outside)) (place_laid c.self.inside.hands.items c.args.before c.args.parent c.self.inside.drawn.boxes (rw (← c.self.view_is) at c.requires.place)) c.requires.other c.hand_inside-inside.result (c.hand_inside-inside.ensures.inside ∙ ap (λ z. passed_from (same_key c.args.parent c.self.inside.drawn.root) (hand_at z c.args.parent) (item_of same_key c.args.parent c.self.inside.drawn.boxes)) c.deref-2.ensures.value) c.own_offset-old.result (c.own_offset-old.ensures ∙ ap (λ z. own_from z (item_of same_key c.args.key c.self.inside.drawn.boxes)) (c.hand-own.ensures.hand ∙ ap (λ z. hand_at z c.args.key) c.deref.ensures.value)) (subst (λ z. IsApart same_key z.boxes) c.relink.ensures c.known-2.ensures.apart) c.draw_anew.new.drawn c.draw_anew.new.hands.items
    (subst (λ z. IsRedrawn z c.draw_anew.new.drawn c.self.inside.hands.items c.draw_anew.new.hands.items c.args.key c.own_offset-old.result c.hand_inside-inside.result) c.relink.ensures redrawn) (record { rooted = c.known-3.ensures.rooted; apart = c.known-3.ensures.apart; keyed = c.known-3.ensures.keyed; shallow = c.known-3.ensures.depth })).0

pub returns : goal.returns
returns g c =
    let redrawn : IsRedrawn c.relink.new.self c.draw_anew.new.drawn c.self.inside.hands.items c.draw_anew.new.hands.items c.args.key c.own_offset-old.result c.hand_inside-inside.result = record {
      drawn = c.draw_anew.ensures.drawn;
      handed = c.draw_anew.ensures.handed;
      same_length = c.draw_anew.ensures.same_length;
    } in
    (move_done c.self.inside.drawn c.self.inside.hands.items (record { rooted = c.known.ensures.rooted; apart = c.known.ensures.apart; keyed = c.known.ensures.keyed; shallow = c.known.ensures.depth }) c.self.invariant c.args.key c.args.parent c.args.before (sym (has-by (λ k d. laid_at (hand_at c.self.inside.hands.items k) d) same_key c.args.key c.self.inside.drawn.boxes) ∙ (rw (← c.self.view_is) at c.requires.live)) (rw (← c.self.view_is) at c.requires.below) (sym (has-by (λ k d. laid_at (hand_at c.self.inside.hands.items k) d) same_key c.args.parent c.self.inside.drawn.boxes) ∙ (rw (← c.self.view_is) at c.requires.parent)) (sym (subtree-by (λ k d. laid_at (hand_at c.self.inside.hands.items k) d) same_key c.args.parent c.args.key c.self.inside.drawn.boxes) ∙ (rw (← c.self.view_is) at c.requires.outside)) (place_laid c.self.inside.hands.items c.args.before c.args.parent c.self.inside.drawn.boxes (rw (← c.self.view_is) at c.requires.place)) c.requires.other c.hand_inside-inside.result (c.hand_inside-inside.ensures.inside ∙ ap (λ z. passed_from (same_key c.args.parent c.self.inside.drawn.root) (hand_at z c.args.parent) (item_of same_key c.args.parent c.self.inside.drawn.boxes)) c.deref-2.ensures.value) c.own_offset-old.result (c.own_offset-old.ensures ∙ ap (λ z. own_from z (item_of same_key c.args.key c.self.inside.drawn.boxes)) (c.hand-own.ensures.hand ∙ ap (λ z. hand_at z c.args.key) c.deref.ensures.value)) (subst (λ z. IsApart same_key z.boxes) c.relink.ensures c.known-2.ensures.apart) c.draw_anew.new.drawn c.draw_anew.new.hands.items
    (subst (λ z. IsRedrawn z c.draw_anew.new.drawn c.self.inside.hands.items c.draw_anew.new.hands.items c.args.key c.own_offset-old.result c.hand_inside-inside.result) c.relink.ensures redrawn) (record { rooted = c.known-3.ensures.rooted; apart = c.known-3.ensures.apart; keyed = c.known-3.ensures.keyed; shallow = c.known-3.ensures.depth })).1 ∙ ap (edited (moving c.args.key c.args.parent c.args.before)) c.self.view_is

pub hand_inside-below-requires-clause-live : goal.hand_inside-below-requires-clause-live
hand_inside-below-requires-clause-live g c = (sym (has-by (λ k d. laid_at (hand_at c.self.inside.hands.items k) d) same_key c.args.key c.self.inside.drawn.boxes) ∙ (rw (← c.self.view_is) at c.requires.live))

pub hand_inside-below-requires-clause-handing : goal.hand_inside-below-requires-clause-handing
hand_inside-below-requires-clause-handing g c = rw c.deref-3.ensures.value c.self.invariant

pub draw_anew-requires-clause-below : goal.draw_anew-requires-clause-below
draw_anew-requires-clause-below g c =
    subst (λ z. IsHandedDown c.self.inside.hands.items c.hand_inside-below.result (children same_key c.args.key z.boxes)) (sym c.relink.ensures)
    (subst (λ h. IsHandedDown c.self.inside.hands.items h (children same_key c.args.key (edited (moving c.args.key c.args.parent c.args.before) c.self.inside.drawn).boxes)) (sym (c.hand_inside-below.ensures.inside ∙ ap (λ z. passed_from (same_key c.args.key c.self.inside.drawn.root) (hand_at z c.args.key) (item_of same_key c.args.key c.self.inside.drawn.boxes)) c.deref-3.ensures.value))
    (move_below c.self.inside.drawn c.self.inside.hands.items (record { rooted = c.known.ensures.rooted; apart = c.known.ensures.apart; keyed = c.known.ensures.keyed; shallow = c.known.ensures.depth }) c.self.invariant c.args.key c.args.parent c.args.before (sym (has-by (λ k d. laid_at (hand_at c.self.inside.hands.items k) d) same_key c.args.key c.self.inside.drawn.boxes) ∙ (rw (← c.self.view_is) at c.requires.live)) (rw (← c.self.view_is) at c.requires.below) (sym (has-by (λ k d. laid_at (hand_at c.self.inside.hands.items k) d) same_key c.args.parent c.self.inside.drawn.boxes) ∙ (rw (← c.self.view_is) at c.requires.parent)) (sym (subtree-by (λ k d. laid_at (hand_at c.self.inside.hands.items k) d) same_key c.args.parent c.args.key c.self.inside.drawn.boxes) ∙ (rw (← c.self.view_is) at c.requires.outside)) (place_laid c.self.inside.hands.items c.args.before c.args.parent c.self.inside.drawn.boxes (rw (← c.self.view_is) at c.requires.place)) c.requires.other c.hand_inside-inside.result (c.hand_inside-inside.ensures.inside ∙ ap (λ z. passed_from (same_key c.args.parent c.self.inside.drawn.root) (hand_at z c.args.parent) (item_of same_key c.args.parent c.self.inside.drawn.boxes)) c.deref-2.ensures.value)))
