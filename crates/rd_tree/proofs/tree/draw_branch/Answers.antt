use Rattle.std.proofs.Common.{◌∙◌, ap, sym, subst, cond, arith}
use Rattle.rd_keys.specs.Keys.{same_key}
use Rattle.rd_tree.specs.Forest.{has, children}
use Rattle.rd_tree.specs.Internal.Handing.{IsFar}
use Rattle.rd_tree.specs.Internal.Hands.{CanHand, hand_at, handed_to}
use Rattle.rd_tree.specs.Internal.Redraws.{AllRedraw}
use Rattle.rd_tree.specs.Internal.Laid.{drawn_again}
use Rattle.rd_tree.proofs.Laying.Added.{puts_key}
use Rattle.rd_tree.proofs.Laying.Draws.{draw_hands, draw_own, draw_scrolls, draw_far, draw_can, draw_fits, draw_near}
use Rattle.rd_tree.proofs.tree.draw_branch.Goals as goal

pub pass-inside-requires-clause-few : goal.pass-inside-requires-clause-few
pass-inside-requires-clause-few g c = draw_own c.args.drawn.now c.args.hands.now.items c.args.key c.args.old c.args.own (record { rooted = c.known.ensures.rooted; apart = c.known.ensures.apart; keyed = c.known.ensures.keyed; shallow = c.known.ensures.depth }) c.requires.can c.requires.live

pub pass-inside-requires-clause-scrolls : goal.pass-inside-requires-clause-scrolls
pass-inside-requires-clause-scrolls g c = draw_scrolls c.args.drawn.now c.args.hands.now.items c.args.key c.args.old c.args.own (record { rooted = c.known.ensures.rooted; apart = c.known.ensures.apart; keyed = c.known.ensures.keyed; shallow = c.known.ensures.depth }) c.requires.can c.requires.live

pub redraw-requires-clause-has_rows : goal.redraw-requires-clause-has_rows
redraw-requires-clause-has_rows g c = draw_hands c.args.drawn.now c.args.hands.now.items c.args.key c.args.old c.args.own (record { rooted = c.known.ensures.rooted; apart = c.known.ensures.apart; keyed = c.known.ensures.keyed; shallow = c.known.ensures.depth }) c.requires.can c.requires.live

pub redraw-requires-clause-new : goal.redraw-requires-clause-new
redraw-requires-clause-new g c = subst (IsFar 256) (sym c.own_offset-new.ensures) (draw_far c.args.drawn.now c.args.hands.now.items c.args.key c.args.old c.args.own (record { rooted = c.known.ensures.rooted; apart = c.known.ensures.apart; keyed = c.known.ensures.keyed; shallow = c.known.ensures.depth }) c.requires.can c.requires.live)

pub redraw-requires-clause-can : goal.redraw-requires-clause-can
redraw-requires-clause-can g c = subst (λ h. CanHand h (children same_key c.args.key c.args.drawn.now.boxes)) (sym c.pass-inside.ensures) (draw_can c.args.drawn.now c.args.hands.now.items c.args.key c.args.old c.args.own (record { rooted = c.known.ensures.rooted; apart = c.known.ensures.apart; keyed = c.known.ensures.keyed; shallow = c.known.ensures.depth }) c.requires.can c.requires.live)

pub redraw-requires-clause-fits : goal.redraw-requires-clause-fits
redraw-requires-clause-fits g c = subst (λ h. AllRedraw c.args.hands.now.items h (children same_key c.args.key c.args.drawn.now.boxes)) (sym c.pass-inside.ensures) (draw_fits c.args.drawn.now c.args.hands.now.items c.args.key c.args.old c.args.own (record { rooted = c.known.ensures.rooted; apart = c.known.ensures.apart; keyed = c.known.ensures.keyed; shallow = c.known.ensures.depth }) c.requires.can c.requires.live)

pub redraw-requires-clause-near : goal.redraw-requires-clause-near
redraw-requires-clause-near g c = rw (c.own_offset-new.ensures, c.pass-inside.ensures) (draw_near c.args.drawn.now c.args.hands.now.items c.args.key c.args.old c.args.own (record { rooted = c.known.ensures.rooted; apart = c.known.ensures.apart; keyed = c.known.ensures.keyed; shallow = c.known.ensures.depth }) c.requires.can c.requires.live)

pub write-requires : goal.write-requires
write-requires g c = let n = draw_hands c.args.drawn.now c.args.hands.now.items c.args.key c.args.old c.args.own (record { rooted = c.known.ensures.rooted; apart = c.known.ensures.apart; keyed = c.known.ensures.keyed; shallow = c.known.ensures.depth }) c.requires.can c.requires.live c.args.key c.requires.live in omega (arith, n, c.redraw.ensures.same_length)

pub returns-clause-drawn : goal.returns-clause-drawn
returns-clause-drawn g c = c.redraw.ensures.drawn ∙ (λ i. record c.args.drawn.now { boxes = drawn_again c.args.hands.now.items c.args.key c.args.old (c.own_offset-new.ensures i) (c.pass-inside.ensures i) c.args.drawn.now.boxes })

pub returns-clause-handed : goal.returns-clause-handed
returns-clause-handed g c = λ i u.
    puts_key c.args.drawn.now c.known.ensures.keyed c.redraw.new.rows.items c.write.new.rows.items c.args.key c.args.own c.write.ensures.rows c.requires.live i u
    ∙ ap (λ z. cond (same_key i c.args.key) c.args.own z) (c.redraw.ensures.handed i u
    ∙ (λ x. cond (has same_key i (children same_key c.args.key c.args.drawn.now.boxes)) (handed_to i (c.pass-inside.ensures x) (children same_key c.args.key c.args.drawn.now.boxes))
    (hand_at c.args.hands.now.items i)))

pub returns-clause-same_length : goal.returns-clause-same_length
returns-clause-same_length g c = c.write.ensures.same_length ∙ c.redraw.ensures.same_length
