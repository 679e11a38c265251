use Rattle.std.proofs.Common.{◌<◌, subst}
use Rattle.std.specs.Prelude.{Some}
use Rattle.rd_tree.specs.Internal.Linked.{linked}
use Rattle.rd_tree.specs.Internal.Links.{parent_of}
use Rattle.rd_tree.proofs.Tables.Above.{from_up, fewer_up}
use Rattle.rd_tree.proofs.Tables.Hulling.{Hulling, HereHull, hulling_begun, hulling_ended, here_hull, hulling_next}
use Rattle.rd_tree.proofs.table.climb.move_hulls.Goals as goal

pub loop-at-init : goal.loop-at-init
loop-at-init c = hulling_begun c.args.nodes.now c.args.table.now.rows c.args.from c.args.lost c.args.gained

pub moved_hull-hull-requires : goal.moved_hull-hull-requires
moved_hull-hull-requires c =
    let w : Hulling c.args.nodes.now c.args.table.now.rows c.loop-at.table.rows c.args.from (Some c.in-Some.key) c.args.lost c.args.gained = subst
    (λ o. Hulling c.args.nodes.now c.args.table.now.rows c.loop-at.table.rows c.args.from o c.args.lost c.args.gained) c.in-Some.is
    c.loop-at.invariant in
    let h : HereHull c.args.nodes.now c.loop-at.table.rows c.in-Some.key = here_hull c.args.nodes.now c.args.table.now.rows c.loop-at.table.rows
    c.args.from c.in-Some.key c.args.lost c.args.gained w c.requires in
    (record { here = h.here; fits = h.fits; read = h.read; rows = h.has_rows })

pub put_hull-requires : goal.put_hull-requires
put_hull-requires c =
    let w : Hulling c.args.nodes.now c.args.table.now.rows c.loop-at.table.rows c.args.from (Some c.in-Some.key) c.args.lost c.args.gained = subst
    (λ o. Hulling c.args.nodes.now c.args.table.now.rows c.loop-at.table.rows c.args.from o c.args.lost c.args.gained) c.in-Some.is
    c.loop-at.invariant in
    (here_hull c.args.nodes.now c.args.table.now.rows c.loop-at.table.rows c.args.from c.in-Some.key c.args.lost c.args.gained w c.requires).here

pub loop-at-smaller : goal.loop-at-smaller
loop-at-smaller c =
    let w : Hulling c.args.nodes.now c.args.table.now.rows c.loop-at.table.rows c.args.from (Some c.in-Some.key) c.args.lost c.args.gained = subst
    (λ o. Hulling c.args.nodes.now c.args.table.now.rows c.loop-at.table.rows c.args.from o c.args.lost c.args.gained) c.in-Some.is
    c.loop-at.invariant in
    let n : from_up c.args.nodes.now.limit (linked c.args.nodes.now) (parent_of (linked c.args.nodes.now c.in-Some.key)) < from_up c.args.nodes.now.limit
    (linked c.args.nodes.now) (Some c.in-Some.key) =
    fewer_up c.args.nodes.now c.requires.root c.requires.boxes c.requires.is c.in-Some.key (w.each c.requires.root c.requires.boxes c.requires.is
    c.requires.there).there in
    rw (c.in-Some.is, c.parent_of-at.ensures) n

pub loop-at-preserved : goal.loop-at-preserved
loop-at-preserved c =
    let w : Hulling c.args.nodes.now c.args.table.now.rows c.loop-at.table.rows c.args.from (Some c.in-Some.key) c.args.lost c.args.gained = subst
    (λ o. Hulling c.args.nodes.now c.args.table.now.rows c.loop-at.table.rows c.args.from o c.args.lost c.args.gained) c.in-Some.is
    c.loop-at.invariant in
    rw c.parent_of-at.ensures (hulling_next c.args.nodes.now c.args.table.now.rows c.loop-at.table.rows c.args.from c.in-Some.key
    c.args.lost c.args.gained w c.put_hull.new.table.rows c.moved_hull-hull.result c.moved_hull-hull.ensures c.put_hull.ensures.rows c.put_hull.ensures.same_length)

pub returns-clause-hulls : goal.returns-clause-hulls
returns-clause-hulls c = hulling_ended c.args.nodes.now c.args.table.now.rows c.loop-at.table.rows c.args.from c.args.lost c.args.gained (subst
    (λ o. Hulling c.args.nodes.now c.args.table.now.rows c.loop-at.table.rows c.args.from o c.args.lost c.args.gained) c.in_default.is
    c.loop-at.invariant)

pub returns-clause-others : goal.returns-clause-others
returns-clause-others c root f is i = (c.loop-at.invariant.each root f is i).others

pub returns-clause-counts : goal.returns-clause-counts
returns-clause-counts c = c.loop-at.invariant.counts

pub returns-clause-same_length : goal.returns-clause-same_length
returns-clause-same_length c = c.loop-at.invariant.same_length
