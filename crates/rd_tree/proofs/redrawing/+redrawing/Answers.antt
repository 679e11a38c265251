use Rattle.std.proofs.Common.{arith, subst, sym}
use Rattle.std.specs.Prelude.{Some}
use Rattle.rd_tree.specs.Internal.Hands.{passed_at, HandsDown}
use Rattle.rd_tree.specs.Internal.Redraws.{Redraws}
use Rattle.rd_tree.specs.Internal.Linked.{linked, seen_from}
use Rattle.rd_tree.proofs.Redrawn.{Ready, Redrawing, BelowRedraw, redrawing_begun, redrawing_done, handing_done, none_redrawn, none_handed, before, below_redraw, redrawing_next}
use Rattle.rd_tree.proofs.redrawing.+redrawing.Goals as goal

pub redraw-loop-at-init : goal.redraw-loop-at-init
redraw-loop-at-init t c = redrawing_begun c.args.asked c.args.nodes.now c.args.rows.now.items c.args.handed c.args.first c.requires.read c.requires.can c.requires.has_rows c.requires.fits

pub redraw-returns-clause-drawn : goal.redraw-returns-clause-drawn
redraw-returns-clause-drawn t c = redrawing_done c.args.asked c.args.nodes.now c.loop-at.nodes c.args.rows.now.items c.loop-at.rows.items c.args.handed c.args.first (subst (λ o. Redrawing
    c.args.asked c.args.nodes.now c.args.rows.now.items c.args.handed c.args.first c.loop-at.nodes c.loop-at.rows.items o) c.in_default.is c.loop-at.invariant)

pub redraw-returns-clause-handed : goal.redraw-returns-clause-handed
redraw-returns-clause-handed t c = handing_done c.args.asked c.args.nodes.now c.loop-at.nodes c.args.rows.now.items c.loop-at.rows.items c.args.handed c.args.first (subst (λ o. Redrawing
    c.args.asked c.args.nodes.now c.args.rows.now.items c.args.handed c.args.first c.loop-at.nodes c.loop-at.rows.items o) c.in_default.is c.loop-at.invariant)

pub redraw-returns-clause-same_length : goal.redraw-returns-clause-same_length
redraw-returns-clause-same_length t c = c.loop-at.invariant.same_length

pub redraw-hand_of-old-requires : goal.redraw-hand_of-old-requires
redraw-hand_of-old-requires t c =
    let w : Redrawing c.args.asked c.args.nodes.now c.args.rows.now.items c.args.handed c.args.first c.loop-at.nodes c.loop-at.rows.items (Some c.in-Some.key) = subst (λ o. Redrawing
    c.args.asked c.args.nodes.now c.args.rows.now.items c.args.handed c.args.first c.loop-at.nodes c.loop-at.rows.items o) c.in-Some.is c.loop-at.invariant in
    rw c.deref.ensures.value (before c.args.asked c.args.nodes.now c.loop-at.nodes c.args.rows.now.items c.loop-at.rows.items c.args.handed c.args.first c.in-Some.key w).here

pub redraw-write-requires : goal.redraw-write-requires
redraw-write-requires t c =
    let w : Redrawing c.args.asked c.args.nodes.now c.args.rows.now.items c.args.handed c.args.first c.loop-at.nodes c.loop-at.rows.items (Some c.in-Some.key) = subst (λ o. Redrawing
    c.args.asked c.args.nodes.now c.args.rows.now.items c.args.handed c.args.first c.loop-at.nodes c.loop-at.rows.items o) c.in-Some.is c.loop-at.invariant in
    (before c.args.asked c.args.nodes.now c.loop-at.nodes c.args.rows.now.items c.loop-at.rows.items c.args.handed c.args.first c.in-Some.key w).here

pub redraw-redraw_one-onward-requires-clause-few : goal.redraw-redraw_one-onward-requires-clause-few
redraw-redraw_one-onward-requires-clause-few t c =
    let w : Redrawing c.args.asked c.args.nodes.now c.args.rows.now.items c.args.handed c.args.first c.loop-at.nodes c.loop-at.rows.items (Some c.in-Some.key) = subst (λ o. Redrawing
    c.args.asked c.args.nodes.now c.args.rows.now.items c.args.handed c.args.first c.loop-at.nodes c.loop-at.rows.items o) c.in-Some.is c.loop-at.invariant in
    (before c.args.asked c.args.nodes.now c.loop-at.nodes c.args.rows.now.items c.loop-at.rows.items c.args.handed c.args.first c.in-Some.key w).few

pub redraw-redraw_one-onward-requires-clause-can : goal.redraw-redraw_one-onward-requires-clause-can
redraw-redraw_one-onward-requires-clause-can t c =
    let w : Redrawing c.args.asked c.args.nodes.now c.args.rows.now.items c.args.handed c.args.first c.loop-at.nodes c.loop-at.rows.items (Some c.in-Some.key) = subst (λ o. Redrawing
    c.args.asked c.args.nodes.now c.args.rows.now.items c.args.handed c.args.first c.loop-at.nodes c.loop-at.rows.items o) c.in-Some.is c.loop-at.invariant in
    rw (c.hand_of-old.ensures, c.deref.ensures.value) (before c.args.asked c.args.nodes.now c.loop-at.nodes c.args.rows.now.items c.loop-at.rows.items c.args.handed c.args.first c.in-Some.key w).can

pub redraw-redraw_one-onward-requires-clause-scroll : goal.redraw-redraw_one-onward-requires-clause-scroll
redraw-redraw_one-onward-requires-clause-scroll t c =
    let w : Redrawing c.args.asked c.args.nodes.now c.args.rows.now.items c.args.handed c.args.first c.loop-at.nodes c.loop-at.rows.items (Some c.in-Some.key) = subst (λ o. Redrawing
    c.args.asked c.args.nodes.now c.args.rows.now.items c.args.handed c.args.first c.loop-at.nodes c.loop-at.rows.items o) c.in-Some.is c.loop-at.invariant in
    (before c.args.asked c.args.nodes.now c.loop-at.nodes c.args.rows.now.items c.loop-at.rows.items c.args.handed c.args.first c.in-Some.key w).scroll

pub redraw-redraw_below-requires : goal.redraw-redraw_below-requires
redraw-redraw_below-requires t c =
    let w : Redrawing c.args.asked c.args.nodes.now c.args.rows.now.items c.args.handed c.args.first c.loop-at.nodes c.loop-at.rows.items (Some c.in-Some.key) = subst (λ o. Redrawing
    c.args.asked c.args.nodes.now c.args.rows.now.items c.args.handed c.args.first c.loop-at.nodes c.loop-at.rows.items o) c.in-Some.is c.loop-at.invariant in
    let b : BelowRedraw c.args.nodes.now c.redraw_one-onward.new.self c.write.new.rows.items (passed_at c.args.handed (linked c.loop-at.nodes c.in-Some.key)) c.args.first
    c.redraw_one-onward.result.below =
    below_redraw c.args.asked c.args.nodes.now c.loop-at.nodes c.args.rows.now.items c.loop-at.rows.items c.args.handed c.args.first c.in-Some.key w c.write.new.rows.items c.write.ensures.rows c.write.ensures.same_length c.redraw_one-onward.new.self
    (rw (c.hand_of-old.ensures, c.deref.ensures.value) at c.redraw_one-onward.ensures.drawn) c.redraw_one-onward.result.below c.redraw_one-onward.result.next c.redraw_one-onward.ensures.onward in
    let r : Ready c.write.new.rows.items c.redraw_one-onward.result.inside (seen_from c.redraw_one-onward.new.self c.redraw_one-onward.result.below) = subst (λ q. Ready
    c.write.new.rows.items q (seen_from c.redraw_one-onward.new.self c.redraw_one-onward.result.below)) (sym c.redraw_one-onward.ensures.inside) b.ready in
    (omega (arith, b.smaller), (b.read, (r.has_rows, (r.can, r.fits))))

pub redraw-loop-at-smaller : goal.redraw-loop-at-smaller
redraw-loop-at-smaller t c =
    let w : Redrawing c.args.asked c.args.nodes.now c.args.rows.now.items c.args.handed c.args.first c.loop-at.nodes c.loop-at.rows.items (Some c.in-Some.key) = subst (λ o. Redrawing
    c.args.asked c.args.nodes.now c.args.rows.now.items c.args.handed c.args.first c.loop-at.nodes c.loop-at.rows.items o) c.in-Some.is c.loop-at.invariant in
    let n = redrawing_next c.args.asked c.args.nodes.now c.loop-at.nodes c.args.rows.now.items c.loop-at.rows.items c.args.handed c.args.first c.in-Some.key w c.write.new.rows.items c.write.ensures.rows c.write.ensures.same_length c.redraw_one-onward.new.self
    (rw (c.hand_of-old.ensures, c.deref.ensures.value) at c.redraw_one-onward.ensures.drawn) c.redraw_one-onward.result.below c.redraw_one-onward.result.next c.redraw_one-onward.ensures.onward c.redraw_below.new.nodes c.redraw_below.new.rows.items
    (rw c.redraw_one-onward.ensures.inside at c.redraw_below.ensures.drawn) (rw c.redraw_one-onward.ensures.inside at c.redraw_below.ensures.handed) c.redraw_below.ensures.same_length in
    rw c.in-Some.is n.1

pub redraw-loop-at-preserved : goal.redraw-loop-at-preserved
redraw-loop-at-preserved t c =
    let w : Redrawing c.args.asked c.args.nodes.now c.args.rows.now.items c.args.handed c.args.first c.loop-at.nodes c.loop-at.rows.items (Some c.in-Some.key) = subst (λ o. Redrawing
    c.args.asked c.args.nodes.now c.args.rows.now.items c.args.handed c.args.first c.loop-at.nodes c.loop-at.rows.items o) c.in-Some.is c.loop-at.invariant in
    (redrawing_next c.args.asked c.args.nodes.now c.loop-at.nodes c.args.rows.now.items c.loop-at.rows.items c.args.handed c.args.first c.in-Some.key w c.write.new.rows.items c.write.ensures.rows c.write.ensures.same_length c.redraw_one-onward.new.self
    (rw (c.hand_of-old.ensures, c.deref.ensures.value) at c.redraw_one-onward.ensures.drawn) c.redraw_one-onward.result.below c.redraw_one-onward.result.next c.redraw_one-onward.ensures.onward c.redraw_below.new.nodes c.redraw_below.new.rows.items
    (rw c.redraw_one-onward.ensures.inside at c.redraw_below.ensures.drawn) (rw c.redraw_one-onward.ensures.inside at c.redraw_below.ensures.handed) c.redraw_below.ensures.same_length).0

pub redraw_below-returns-in-None-clause-drawn : goal.redraw_below-returns-in-None-clause-drawn
redraw_below-returns-in-None-clause-drawn t c = subst (λ o. Redraws c.args.asked c.args.nodes.now c.args.nodes.now c.args.rows.now.items c.args.handed (seen_from c.args.nodes.now o))
    (sym c.in-None.is) (none_redrawn c.args.asked c.args.nodes.now c.args.rows.now.items c.args.handed)

pub redraw_below-returns-in-None-clause-handed : goal.redraw_below-returns-in-None-clause-handed
redraw_below-returns-in-None-clause-handed t c = subst (λ o. HandsDown c.args.nodes.now c.args.rows.now.items c.args.rows.now.items c.args.handed (seen_from c.args.nodes.now o))
    (sym c.in-None.is) (none_handed c.args.nodes.now c.args.rows.now.items c.args.handed)
