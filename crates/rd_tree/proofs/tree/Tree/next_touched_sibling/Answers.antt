use Rattle.std.proofs.Common.{◌∙◌, sym, ap, subst, ◌+◌}
use Rattle.std.specs.Prelude.{Some}
use Rattle.rd_keys.specs.Keys.{same_key}
use Rattle.rd_tree.specs.Forest.{from_some}
use Rattle.rd_tree.specs.Shown.{shown, told}
use Rattle.rd_tree.specs.Seeking.{siblings_from, is_marked, looks_until}
use Rattle.rd_tree.specs.Drawn.{AllNear}
use Rattle.rd_tree.proofs.Forests.ByKey.{apart_by}
use Rattle.rd_tree.specs.Changes.{unscrolled}
use Rattle.rd_tree.specs.Internal.Handing.{offset_in}
use Rattle.rd_tree.specs.Internal.Hands.{hand_at}
use Rattle.rd_tree.specs.Internal.Redraws.{drawn_anew}
use Rattle.rd_tree.proofs.Laying.Views.{sibling_found, shown_there, shown_near, rect_told}
use Rattle.rd_tree.proofs.tree.Tree.next_touched_sibling.Goals as goal

pub laid_rect-rect-requires-clause-live : goal.laid_rect-rect-requires-clause-live
laid_rect-rect-requires-clause-live g c =
    shown_there c.self.inside.drawn.root c.in-Some.view.key c.self.inside.drawn.boxes (told c.in-Some.view)
    (sibling_found is_marked c.self.inside.drawn.root c.args.first c.self.inside.drawn.boxes (Some c.in-Some.view) c.known.ensures.apart c.in-Some.ensures.seen)

pub laid_rect-rect-requires-clause-handing : goal.laid_rect-rect-requires-clause-handing
laid_rect-rect-requires-clause-handing g c = rw c.deref.ensures.value c.self.invariant

pub laid_rect-rect-requires-clause-near : goal.laid_rect-rect-requires-clause-near
laid_rect-rect-requires-clause-near g c =
    shown_near c.self.inside.drawn.root c.in-Some.view.key c.self.inside.drawn.boxes (told c.in-Some.view) c.known.ensures.apart c.known.ensures.limits
    (sibling_found is_marked c.self.inside.drawn.root c.args.first c.self.inside.drawn.boxes (Some c.in-Some.view) c.known.ensures.apart c.in-Some.ensures.seen)

pub returns-in-Some-clause-seen : goal.returns-in-Some-clause-seen
returns-in-Some-clause-seen g c =
    rw (← c.self.view_is) (ap Some c.with_rect.ensures.told ∙ (c.in-Some.ensures.seen ∙ ap (λ z. shown c.self.inside.drawn.root (siblings_from is_marked (from_some same_key c.args.first z.boxes))) (sym c.self.invariant.is_drawn)))

pub returns-in-None-clause-seen : goal.returns-in-None-clause-seen
returns-in-None-clause-seen g c =
    rw (← c.self.view_is) (c.in-None.ensures.seen ∙ ap (λ z. shown c.self.inside.drawn.root (siblings_from is_marked (from_some same_key c.args.first z.boxes))) (sym c.self.invariant.is_drawn))

pub returns-in-Some-clause-rect : goal.returns-in-Some-clause-rect
returns-in-Some-clause-rect g c =
    rw (← c.self.view_is)
    (rect_told c.self.inside.hands.items c.self.inside.drawn.root c.self.inside.drawn.boxes c.in-Some.view c.with_rect.result c.laid_rect-rect.result c.known.ensures.apart
    (sibling_found is_marked c.self.inside.drawn.root c.args.first c.self.inside.drawn.boxes (Some c.in-Some.view) c.known.ensures.apart c.in-Some.ensures.seen)
    (c.laid_rect-rect.ensures ∙ ap (λ z. drawn_anew (offset_in (hand_at z c.in-Some.view.key) (told c.in-Some.view).style.position) unscrolled c.in-Some.view.at) c.deref.ensures.value)
    c.with_rect.ensures.told c.with_rect.ensures.rect)

pub returns-in-Some-clause-apart : goal.returns-in-Some-clause-apart
returns-in-Some-clause-apart g c = rw (← c.self.view_is) (apart_by _ same_key c.self.inside.drawn.boxes c.known.ensures.apart)

pub returns-in-Some-clause-limits : goal.returns-in-Some-clause-limits
returns-in-Some-clause-limits g c = rw (← c.self.view_is) c.self.invariant.fits

pub returns-in-Some-clause-near : goal.returns-in-Some-clause-near
returns-in-Some-clause-near g c = rw (← c.self.view_is) (subst (λ z. AllNear z.boxes) (sym c.self.invariant.is_drawn) c.known.ensures.limits)

pub returns-in-Some-clause-ticks : goal.returns-in-Some-clause-ticks
returns-in-Some-clause-ticks g c = rw (← c.self.view_is) (c.in-Some.ensures.ticks ∙ ap (λ z. c.args.steps.now + looks_until is_marked (from_some same_key c.args.first z.boxes)) (sym c.self.invariant.is_drawn))

pub returns-in-None-clause-apart : goal.returns-in-None-clause-apart
returns-in-None-clause-apart g c = rw (← c.self.view_is) (apart_by _ same_key c.self.inside.drawn.boxes c.known.ensures.apart)

pub returns-in-None-clause-limits : goal.returns-in-None-clause-limits
returns-in-None-clause-limits g c = rw (← c.self.view_is) c.self.invariant.fits

pub returns-in-None-clause-near : goal.returns-in-None-clause-near
returns-in-None-clause-near g c = rw (← c.self.view_is) (subst (λ z. AllNear z.boxes) (sym c.self.invariant.is_drawn) c.known.ensures.limits)

pub returns-in-None-clause-ticks : goal.returns-in-None-clause-ticks
returns-in-None-clause-ticks g c = rw (← c.self.view_is) (c.in-None.ensures.ticks ∙ ap (λ z. c.args.steps.now + looks_until is_marked (from_some same_key c.args.first z.boxes)) (sym c.self.invariant.is_drawn))
