use Rattle.std.proofs.Common.{◌∙◌, ap, sym, subst}
use Rattle.rd_keys.specs.Keys.{same_key}
use Rattle.rd_tree.specs.Forest.{item_of}
use Rattle.rd_tree.specs.Limits.{IsNear}
use Rattle.rd_tree.specs.Changes.{placing}
use Rattle.rd_tree.specs.Touching.{edited}
use Rattle.rd_tree.specs.Internal.Handing.{IsFar, offset_in}
use Rattle.rd_tree.specs.Internal.Hands.{hand_at}
use Rattle.rd_tree.specs.Internal.Redraws.{drawn_anew}
use Rattle.rd_tree.specs.Internal.Laid.{laid_at, own_from}
use Rattle.rd_tree.proofs.Forests.ByKey.{has-by}
use Rattle.rd_tree.proofs.Offsets.{far_none}
use Rattle.rd_tree.proofs.Laying.Near.{near_far, near_is_placed}
use Rattle.rd_tree.proofs.Laying.Added.{from-none}
use Rattle.rd_tree.proofs.Laying.Kept.{own_far, replacing}
use Rattle.rd_tree.proofs.tree.Tree.place.Goals as goal

pub hand-own-requires-clause-live : goal.hand-own-requires-clause-live
hand-own-requires-clause-live g c = (sym (has-by (λ k d. laid_at (hand_at c.self.inside.hands.items k) d) same_key c.args.key c.self.inside.drawn.boxes) ∙ (rw (← c.self.view_is) at c.requires.live))

pub hand-own-requires-clause-handing : goal.hand-own-requires-clause-handing
hand-own-requires-clause-handing g c = rw c.deref.ensures.value c.self.invariant

pub anew-requires-clause-old : goal.anew-requires-clause-old
anew-requires-clause-old g c = subst (IsFar 256) (sym c.unscrolled.ensures) (far_none 256)

pub anew-requires-clause-new : goal.anew-requires-clause-new
anew-requires-clause-new g c = (subst (IsFar 256) (sym c.own_offset-far.ensures) (own_far c.hand-own.result (item_of same_key c.args.key c.self.inside.drawn.boxes) c.hand-own.ensures.few))

pub anew-requires-clause-fits : goal.anew-requires-clause-fits
anew-requires-clause-fits g c = near_is_placed (drawn_anew c.unscrolled.result c.own_offset-far.result c.args.rect)
    (subst IsNear (sym (ap (λ z. drawn_anew z c.own_offset-far.result c.args.rect) c.unscrolled.ensures ∙ from-none c.own_offset-far.result c.args.rect))
    (near_far c.own_offset-far.result c.args.rect (subst (IsFar 256) (sym c.own_offset-far.ensures) (own_far c.hand-own.result (item_of same_key c.args.key c.self.inside.drawn.boxes) c.hand-own.ensures.few)) c.requires.fits))

pub place-requires-clause-live : goal.place-requires-clause-live
place-requires-clause-live g c = (sym (has-by (λ k d. laid_at (hand_at c.self.inside.hands.items k) d) same_key c.args.key c.self.inside.drawn.boxes) ∙ (rw (← c.self.view_is) at c.requires.live))

pub place-requires-clause-fits : goal.place-requires-clause-fits
place-requires-clause-fits g c = subst IsNear (sym (c.anew.ensures ∙ (ap (λ z. drawn_anew z c.own_offset-far.result c.args.rect) c.unscrolled.ensures ∙ from-none c.own_offset-far.result c.args.rect))) (near_far c.own_offset-far.result c.args.rect (subst (IsFar 256) (sym c.own_offset-far.ensures) (own_far c.hand-own.result (item_of same_key c.args.key c.self.inside.drawn.boxes) c.hand-own.ensures.few)) c.requires.fits)

pub invariant_of-self : goal.invariant_of-self
invariant_of-self g c = (replacing c.self.inside.drawn c.place.new.self c.self.inside.hands.items (record { rooted = c.known.ensures.rooted; apart = c.known.ensures.apart; keyed = c.known.ensures.keyed; shallow = c.known.ensures.depth }) c.self.invariant c.known-2.ensures.rooted c.known-2.ensures.apart c.args.key c.own_offset-far.result c.args.rect c.requires.fits
    (λ d v. sym (c.own_offset-far.ensures ∙ (ap (own_from c.hand-own.result) v ∙ ap (λ z. offset_in z d.style.position) (c.hand-own.ensures.hand ∙ ap (λ z. hand_at z c.args.key) c.deref.ensures.value))))
    (c.place.ensures ∙ ap (λ z. edited (placing c.args.key z) c.self.inside.drawn) (c.anew.ensures ∙ (ap (λ z. drawn_anew z c.own_offset-far.result c.args.rect) c.unscrolled.ensures ∙ from-none c.own_offset-far.result c.args.rect)))).0

pub returns : goal.returns
returns g c = (replacing c.self.inside.drawn c.place.new.self c.self.inside.hands.items (record { rooted = c.known.ensures.rooted; apart = c.known.ensures.apart; keyed = c.known.ensures.keyed; shallow = c.known.ensures.depth }) c.self.invariant c.known-2.ensures.rooted c.known-2.ensures.apart c.args.key c.own_offset-far.result c.args.rect c.requires.fits
    (λ d v. sym (c.own_offset-far.ensures ∙ (ap (own_from c.hand-own.result) v ∙ ap (λ z. offset_in z d.style.position) (c.hand-own.ensures.hand ∙ ap (λ z. hand_at z c.args.key) c.deref.ensures.value))))
    (c.place.ensures ∙ ap (λ z. edited (placing c.args.key z) c.self.inside.drawn) (c.anew.ensures ∙ (ap (λ z. drawn_anew z c.own_offset-far.result c.args.rect) c.unscrolled.ensures ∙ from-none c.own_offset-far.result c.args.rect)))).1 ∙ ap (edited (placing c.args.key c.args.rect)) c.self.view_is
