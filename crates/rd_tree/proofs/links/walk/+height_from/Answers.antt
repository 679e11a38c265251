use Rattle.std.proofs.Common.{◌≡◌, ◌+◌, arith, subst, sym, ◌∙◌}
use Rattle.std.specs.Prelude.{Some}
use Rattle.rd_tree.specs.Forest.{height}
use Rattle.rd_tree.specs.Internal.Linked.{seen_from}
use Rattle.rd_tree.proofs.Nodes.Works.{RowParts, MeasuredStep, measured_step, nothing_left, height_small, max_is}
use Rattle.rd_tree.proofs.links.walk.+height_from.Goals as goal

pub height_from-requires : goal.height_from-requires
height_from-requires t c =
    let w : RowParts c.args.nodes.now c.args.first (Some c.in-Some.key) c.loop-at.most = subst (λ o. RowParts c.args.nodes.now c.args.first o
    c.loop-at.most) c.in-Some.is c.loop-at.invariant in
    let s : MeasuredStep c.args.nodes.now c.args.first c.in-Some.key c.child_and_sibling-below.result.0 c.child_and_sibling-below.result.1 c.loop-at.most =
    measured_step c.args.nodes.now c.args.first c.in-Some.key c.child_and_sibling-below.result.0 c.child_and_sibling-below.result.1 c.loop-at.most w
    c.child_and_sibling-below.ensures in
    (omega (arith, s.smaller), (s.read, c.requires.small))

pub loop-at-smaller : goal.loop-at-smaller
loop-at-smaller t c =
    let w : RowParts c.args.nodes.now c.args.first (Some c.in-Some.key) c.loop-at.most = subst (λ o. RowParts c.args.nodes.now c.args.first o
    c.loop-at.most) c.in-Some.is c.loop-at.invariant in
    let s : MeasuredStep c.args.nodes.now c.args.first c.in-Some.key c.child_and_sibling-below.result.0 c.child_and_sibling-below.result.1 c.loop-at.most =
    measured_step c.args.nodes.now c.args.first c.in-Some.key c.child_and_sibling-below.result.0 c.child_and_sibling-below.result.1 c.loop-at.most w
    c.child_and_sibling-below.ensures in
    rw c.in-Some.is s.later

pub loop-at-preserved : goal.loop-at-preserved
loop-at-preserved t c =
    let w : RowParts c.args.nodes.now c.args.first (Some c.in-Some.key) c.loop-at.most = subst (λ o. RowParts c.args.nodes.now c.args.first o
    c.loop-at.most) c.in-Some.is c.loop-at.invariant in
    let s : MeasuredStep c.args.nodes.now c.args.first c.in-Some.key c.child_and_sibling-below.result.0 c.child_and_sibling-below.result.1 c.loop-at.most =
    measured_step c.args.nodes.now c.args.first c.in-Some.key c.child_and_sibling-below.result.0 c.child_and_sibling-below.result.1 c.loop-at.most w
    c.child_and_sibling-below.ensures in
    subst (λ m. RowParts c.args.nodes.now c.args.first c.child_and_sibling-below.result.1 m) (sym (c.max-most.ensures ∙ max_is c.loop-at.most
    (c.height_from.result + 1))) (s.next c.height_from.result c.height_from.ensures.height)

pub returns-clause-height : goal.returns-clause-height
returns-clause-height t c = nothing_left c.args.nodes.now c.args.first c.loop-at.most (subst (λ o. RowParts c.args.nodes.now c.args.first o c.loop-at.most)
    c.in_default.is c.loop-at.invariant)

pub returns-clause-most : goal.returns-clause-most
returns-clause-most t c =
    let e : c.loop-at.most ≡ height (seen_from c.args.nodes.now c.args.first) = nothing_left c.args.nodes.now c.args.first c.loop-at.most (subst
    (λ o. RowParts c.args.nodes.now c.args.first o c.loop-at.most) c.in_default.is c.loop-at.invariant) in
    omega (arith, e, height_small c.args.nodes.now c.args.first c.requires.read)
