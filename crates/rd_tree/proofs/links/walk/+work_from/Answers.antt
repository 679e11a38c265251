use Rattle.std.proofs.Common.{◌<◌, arith, subst}
use Rattle.std.specs.Prelude.{Some}
use Rattle.rd_tree.specs.Forest.{size}
use Rattle.rd_tree.specs.Internal.Linked.{seen_from}
use Rattle.rd_tree.proofs.Nodes.Works.{Walked, allowed_here, Below, then_below, then_onward}
use Rattle.rd_tree.proofs.links.walk.+work_from.Goals as goal

pub work_on-onward-requires : goal.work_on-onward-requires
work_on-onward-requires t c =
    let w : Walked c.args.nodes.now c.args.first c.args.work c.loop-at.nodes (Some c.in-Some.key) = subst (λ o. Walked c.args.nodes.now c.args.first
    c.args.work c.loop-at.nodes o) c.in-Some.is c.loop-at.invariant in
    allowed_here c.args.nodes.now c.loop-at.nodes c.args.first c.args.work c.in-Some.key w

pub work_from-requires : goal.work_from-requires
work_from-requires t c =
    let w : Walked c.args.nodes.now c.args.first c.args.work c.loop-at.nodes (Some c.in-Some.key) = subst (λ o. Walked c.args.nodes.now c.args.first
    c.args.work c.loop-at.nodes o) c.in-Some.is c.loop-at.invariant in
    let b : Below c.args.nodes.now c.args.first c.args.work c.work_on-onward.new.self c.work_on-onward.result.0 =
    then_below c.args.nodes.now c.loop-at.nodes c.work_on-onward.new.self c.args.first c.args.work c.in-Some.key w c.work_on-onward.ensures.worked
    c.work_on-onward.result c.work_on-onward.ensures.onward in
    (omega (arith, b.smaller), (b.read, b.allowed))

pub loop-at-smaller : goal.loop-at-smaller
loop-at-smaller t c =
    let w : Walked c.args.nodes.now c.args.first c.args.work c.loop-at.nodes (Some c.in-Some.key) = subst (λ o. Walked c.args.nodes.now c.args.first
    c.args.work c.loop-at.nodes o) c.in-Some.is c.loop-at.invariant in
    let n : (w2 : Walked c.args.nodes.now c.args.first c.args.work c.work_from.new.nodes c.work_on-onward.result.1)
    × (size (seen_from c.work_from.new.nodes c.work_on-onward.result.1) < size (seen_from c.loop-at.nodes (Some c.in-Some.key))) =
    then_onward c.args.nodes.now c.loop-at.nodes c.work_on-onward.new.self c.args.first c.args.work c.in-Some.key w c.work_on-onward.ensures.worked
    c.work_on-onward.result c.work_on-onward.ensures.onward c.work_from.new.nodes c.work_from.ensures in
    rw c.in-Some.is n.1

pub loop-at-preserved : goal.loop-at-preserved
loop-at-preserved t c =
    let w : Walked c.args.nodes.now c.args.first c.args.work c.loop-at.nodes (Some c.in-Some.key) = subst (λ o. Walked c.args.nodes.now c.args.first
    c.args.work c.loop-at.nodes o) c.in-Some.is c.loop-at.invariant in
    (then_onward c.args.nodes.now c.loop-at.nodes c.work_on-onward.new.self c.args.first c.args.work c.in-Some.key w c.work_on-onward.ensures.worked
    c.work_on-onward.result c.work_on-onward.ensures.onward c.work_from.new.nodes c.work_from.ensures).0
