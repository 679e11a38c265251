use Rattle.std.proofs.Common.{arith, subst, sym, refl, ◌∙◌}
use Rattle.std.specs.Prelude.{Some}
use Rattle.rd_style.specs.Limits.{FitsRect}
use Rattle.rd_tree.specs.Changes.{shifted}
use Rattle.rd_tree.specs.Internal.Hands.{hand_at}
use Rattle.rd_tree.proofs.Nodes.Works.{Fitted, FittedStep, here_row, here_fits, fitted_step, at_node, none_left, here_said}
use Rattle.rd_tree.proofs.links.walk.+shift_from_fits.Goals as goal

pub shift_one_fits-fits-requires-clause-here : goal.shift_one_fits-fits-requires-clause-here
shift_one_fits-fits-requires-clause-here t c =
    let w : Fitted (λ d. FitsRect (shifted c.args.by.now.dx c.args.by.now.dy d.rect)) c.args.rows.now c.args.nodes.now c.args.first (Some c.in-Some.key) = subst
    (λ o. Fitted (λ d. FitsRect (shifted c.args.by.now.dx c.args.by.now.dy d.rect)) c.args.rows.now c.args.nodes.now c.args.first o) c.in-Some.is c.loop-at.invariant in
    here_row (λ d. FitsRect (shifted c.args.by.now.dx c.args.by.now.dy d.rect)) c.args.rows.now c.args.nodes.now c.args.first c.in-Some.key w

pub shift_one_fits-fits-requires-clause-fits : goal.shift_one_fits-fits-requires-clause-fits
shift_one_fits-fits-requires-clause-fits t c =
    let w : Fitted (λ d. FitsRect (shifted c.args.by.now.dx c.args.by.now.dy d.rect)) c.args.rows.now c.args.nodes.now c.args.first (Some c.in-Some.key) = subst
    (λ o. Fitted (λ d. FitsRect (shifted c.args.by.now.dx c.args.by.now.dy d.rect)) c.args.rows.now c.args.nodes.now c.args.first o) c.in-Some.is c.loop-at.invariant in
    here_fits (λ d. FitsRect (shifted c.args.by.now.dx c.args.by.now.dy d.rect)) c.args.rows.now c.args.nodes.now c.args.first c.in-Some.key w

pub returns-then-not-fits : goal.returns-then-not-fits
returns-then-not-fits t c =
    let w : Fitted (λ d. FitsRect (shifted c.args.by.now.dx c.args.by.now.dy d.rect)) c.args.rows.now c.args.nodes.now c.args.first (Some c.in-Some.key) = subst
    (λ o. Fitted (λ d. FitsRect (shifted c.args.by.now.dx c.args.by.now.dy d.rect)) c.args.rows.now c.args.nodes.now c.args.first o) c.in-Some.is c.loop-at.invariant in
    let s : FittedStep (λ d. FitsRect (shifted c.args.by.now.dx c.args.by.now.dy d.rect)) c.args.rows.now c.args.nodes.now c.args.first c.in-Some.key
    c.shift_one_fits-fits.result.1 c.shift_one_fits-fits.result.2 = fitted_step (λ d. FitsRect (shifted c.args.by.now.dx c.args.by.now.dy d.rect)) c.args.rows.now
    c.args.nodes.now c.args.first c.in-Some.key c.shift_one_fits-fits.result.1 c.shift_one_fits-fits.result.2 w c.shift_one_fits-fits.ensures.onward in (
      (λ u. cc (u)),
      (λ v. let k = c.shift_one_fits-fits.ensures.fits.1 (here_said (hand_at c.args.rows.now c.in-Some.key) c.args.nodes.now c.in-Some.key c.args.by.now.dx c.args.by.now.dy
          (λ n e. s.here n e v)) in sym c.if-not-fits.true ∙ k),
    )

pub shift_from_fits-requires : goal.shift_from_fits-requires
shift_from_fits-requires t c =
    let w : Fitted (λ d. FitsRect (shifted c.args.by.now.dx c.args.by.now.dy d.rect)) c.args.rows.now c.args.nodes.now c.args.first (Some c.in-Some.key) = subst
    (λ o. Fitted (λ d. FitsRect (shifted c.args.by.now.dx c.args.by.now.dy d.rect)) c.args.rows.now c.args.nodes.now c.args.first o) c.in-Some.is c.loop-at.invariant in
    let s : FittedStep (λ d. FitsRect (shifted c.args.by.now.dx c.args.by.now.dy d.rect)) c.args.rows.now c.args.nodes.now c.args.first c.in-Some.key
    c.shift_one_fits-fits.result.1 c.shift_one_fits-fits.result.2 = fitted_step (λ d. FitsRect (shifted c.args.by.now.dx c.args.by.now.dy d.rect)) c.args.rows.now
    c.args.nodes.now c.args.first c.in-Some.key c.shift_one_fits-fits.result.1 c.shift_one_fits-fits.result.2 w c.shift_one_fits-fits.ensures.onward in
    (omega (arith, s.smaller), (s.read, (s.has_rows, s.fits)))

pub returns-then-not-shift_from_fits : goal.returns-then-not-shift_from_fits
returns-then-not-shift_from_fits t c =
    let w : Fitted (λ d. FitsRect (shifted c.args.by.now.dx c.args.by.now.dy d.rect)) c.args.rows.now c.args.nodes.now c.args.first (Some c.in-Some.key) = subst
    (λ o. Fitted (λ d. FitsRect (shifted c.args.by.now.dx c.args.by.now.dy d.rect)) c.args.rows.now c.args.nodes.now c.args.first o) c.in-Some.is c.loop-at.invariant in
    let s : FittedStep (λ d. FitsRect (shifted c.args.by.now.dx c.args.by.now.dy d.rect)) c.args.rows.now c.args.nodes.now c.args.first c.in-Some.key
    c.shift_one_fits-fits.result.1 c.shift_one_fits-fits.result.2 = fitted_step (λ d. FitsRect (shifted c.args.by.now.dx c.args.by.now.dy d.rect)) c.args.rows.now
    c.args.nodes.now c.args.first c.in-Some.key c.shift_one_fits-fits.result.1 c.shift_one_fits-fits.result.2 w c.shift_one_fits-fits.ensures.onward in
    ((λ u. cc (u)), (λ v. let k = c.shift_from_fits.ensures.1 (s.below v) in sym c.if-not-shift_from_fits.true ∙ k))

pub loop-at-smaller : goal.loop-at-smaller
loop-at-smaller t c =
    let w : Fitted (λ d. FitsRect (shifted c.args.by.now.dx c.args.by.now.dy d.rect)) c.args.rows.now c.args.nodes.now c.args.first (Some c.in-Some.key) = subst
    (λ o. Fitted (λ d. FitsRect (shifted c.args.by.now.dx c.args.by.now.dy d.rect)) c.args.rows.now c.args.nodes.now c.args.first o) c.in-Some.is c.loop-at.invariant in
    let s : FittedStep (λ d. FitsRect (shifted c.args.by.now.dx c.args.by.now.dy d.rect)) c.args.rows.now c.args.nodes.now c.args.first c.in-Some.key
    c.shift_one_fits-fits.result.1 c.shift_one_fits-fits.result.2 = fitted_step (λ d. FitsRect (shifted c.args.by.now.dx c.args.by.now.dy d.rect)) c.args.rows.now
    c.args.nodes.now c.args.first c.in-Some.key c.shift_one_fits-fits.result.1 c.shift_one_fits-fits.result.2 w c.shift_one_fits-fits.ensures.onward in
    rw c.in-Some.is s.later

pub loop-at-preserved : goal.loop-at-preserved
loop-at-preserved t c =
    let w : Fitted (λ d. FitsRect (shifted c.args.by.now.dx c.args.by.now.dy d.rect)) c.args.rows.now c.args.nodes.now c.args.first (Some c.in-Some.key) = subst
    (λ o. Fitted (λ d. FitsRect (shifted c.args.by.now.dx c.args.by.now.dy d.rect)) c.args.rows.now c.args.nodes.now c.args.first o) c.in-Some.is c.loop-at.invariant in
    let s : FittedStep (λ d. FitsRect (shifted c.args.by.now.dx c.args.by.now.dy d.rect)) c.args.rows.now c.args.nodes.now c.args.first c.in-Some.key
    c.shift_one_fits-fits.result.1 c.shift_one_fits-fits.result.2 = fitted_step (λ d. FitsRect (shifted c.args.by.now.dx c.args.by.now.dy d.rect)) c.args.rows.now
    c.args.nodes.now c.args.first c.in-Some.key c.shift_one_fits-fits.result.1 c.shift_one_fits-fits.result.2 w c.shift_one_fits-fits.ensures.onward in
    s.next (at_node (hand_at c.args.rows.now c.in-Some.key) c.args.nodes.now c.in-Some.key c.args.by.now.dx c.args.by.now.dy (c.shift_one_fits-fits.ensures.fits.0 c.if-not-fits.false))
    (c.shift_from_fits.ensures.0 c.if-not-shift_from_fits.false)

pub returns : goal.returns
returns t c = (
  (λ _. none_left (λ d. FitsRect (shifted c.args.by.now.dx c.args.by.now.dy d.rect)) c.args.rows.now c.args.nodes.now c.args.first (subst (λ o. Fitted
      (λ d. FitsRect (shifted c.args.by.now.dx c.args.by.now.dy d.rect)) c.args.rows.now c.args.nodes.now c.args.first o) c.in_default.is c.loop-at.invariant)),
  (λ _. refl),
)
