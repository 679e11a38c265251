use Rattle.std.proofs.Common.{ap, subst}
use Rattle.std.specs.Prelude.{Some}
use Rattle.rd_geom.specs.Plane.{hull_of}
use Rattle.rd_tree.specs.Internal.Summaries.{summary_at}
use Rattle.rd_tree.proofs.Tables.Siblings.{Joined, joined_begun, joined_ended, joined_here, joined_next}
use Rattle.rd_tree.proofs.table.hulls.hull_from.Goals as goal

pub loop-at-init : goal.loop-at-init
loop-at-init c = joined_begun c.args.table.now.rows c.args.nodes.now c.args.first c.requires.read c.requires.rows

pub row_at-requires : goal.row_at-requires
row_at-requires c = joined_here c.args.table.now.rows c.args.nodes.now c.args.first c.in-Some.key c.loop-at.all (subst (λ o. Joined
    c.args.table.now.rows c.args.nodes.now c.args.first o c.loop-at.all) c.in-Some.is c.loop-at.invariant)

pub loop-at-smaller : goal.loop-at-smaller
loop-at-smaller c =
    let w : Joined c.args.table.now.rows c.args.nodes.now c.args.first (Some c.in-Some.key) c.loop-at.all = subst (λ o. Joined c.args.table.now.rows c.args.nodes.now
    c.args.first o c.loop-at.all) c.in-Some.is c.loop-at.invariant in
    rw c.in-Some.is ((joined_next c.args.table.now.rows c.args.nodes.now c.args.first c.in-Some.key c.loop-at.all w c.child_and_sibling-at.result.1
    (ap (λ o. o.1) c.child_and_sibling-at.ensures)).1)

pub loop-at-preserved : goal.loop-at-preserved
loop-at-preserved c =
    let w : Joined c.args.table.now.rows c.args.nodes.now c.args.first (Some c.in-Some.key) c.loop-at.all = subst (λ o. Joined c.args.table.now.rows c.args.nodes.now
    c.args.first o c.loop-at.all) c.in-Some.is c.loop-at.invariant in
    let n : Joined c.args.table.now.rows c.args.nodes.now c.args.first c.child_and_sibling-at.result.1 (hull_of c.loop-at.all (summary_at c.args.table.now.rows
    c.in-Some.key).hull) = (joined_next c.args.table.now.rows c.args.nodes.now c.args.first c.in-Some.key c.loop-at.all w c.child_and_sibling-at.result.1
    (ap (λ o. o.1) c.child_and_sibling-at.ensures)).0 in
    rw (c.hull-all.ensures.value, c.row_at.ensures) n

pub returns : goal.returns
returns c = joined_ended c.args.table.now.rows c.args.nodes.now c.args.first c.loop-at.all (subst (λ o. Joined c.args.table.now.rows c.args.nodes.now c.args.first o
    c.loop-at.all) c.in_default.is c.loop-at.invariant)
