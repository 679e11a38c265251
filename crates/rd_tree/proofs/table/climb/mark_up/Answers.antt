use Rattle.std.proofs.Common.{◌<◌, subst}
use Rattle.std.specs.Prelude.{Some}
use Rattle.rd_tree.specs.Internal.Linked.{linked}
use Rattle.rd_tree.specs.Internal.Links.{parent_of}
use Rattle.rd_tree.proofs.Tables.Above.{from_up, fewer_up}
use Rattle.rd_tree.proofs.Tables.Marking.{Marking, marking_begun, marking_ended, here_row, here_markable, marking_next}
use Rattle.rd_tree.proofs.table.climb.mark_up.Goals as goal

pub loop-at-init : goal.loop-at-init
loop-at-init c = marking_begun c.args.nodes.now c.args.table.now.rows c.args.from c.args.less c.args.more

pub mark-requires-clause-here : goal.mark-requires-clause-here
mark-requires-clause-here c =
    let w : Marking c.args.nodes.now c.args.table.now.rows c.loop-at.table.rows c.args.from (Some c.in-Some.key) c.args.less c.args.more = subst
    (λ o. Marking c.args.nodes.now c.args.table.now.rows c.loop-at.table.rows c.args.from o c.args.less c.args.more) c.in-Some.is c.loop-at.invariant
    in
    here_row c.args.nodes.now c.args.table.now.rows c.loop-at.table.rows c.args.from c.in-Some.key c.args.less c.args.more w c.requires

pub mark-requires-clause-markable : goal.mark-requires-clause-markable
mark-requires-clause-markable c =
    let w : Marking c.args.nodes.now c.args.table.now.rows c.loop-at.table.rows c.args.from (Some c.in-Some.key) c.args.less c.args.more = subst
    (λ o. Marking c.args.nodes.now c.args.table.now.rows c.loop-at.table.rows c.args.from o c.args.less c.args.more) c.in-Some.is c.loop-at.invariant
    in
    here_markable c.args.nodes.now c.args.table.now.rows c.loop-at.table.rows c.args.from c.in-Some.key c.args.less c.args.more w c.requires

pub loop-at-smaller : goal.loop-at-smaller
loop-at-smaller c =
    let w : Marking c.args.nodes.now c.args.table.now.rows c.loop-at.table.rows c.args.from (Some c.in-Some.key) c.args.less c.args.more = subst
    (λ o. Marking c.args.nodes.now c.args.table.now.rows c.loop-at.table.rows c.args.from o c.args.less c.args.more) c.in-Some.is c.loop-at.invariant
    in
    let n : from_up c.args.nodes.now.limit (linked c.args.nodes.now) (parent_of (linked c.args.nodes.now c.in-Some.key)) < from_up c.args.nodes.now.limit
    (linked c.args.nodes.now) (Some c.in-Some.key) =
    fewer_up c.args.nodes.now c.requires.root c.requires.boxes c.requires.is c.in-Some.key (w.each c.requires.root c.requires.boxes c.requires.is
    c.requires.there).there in
    rw (c.in-Some.is, c.parent_of-at.ensures) n

pub loop-at-preserved : goal.loop-at-preserved
loop-at-preserved c =
    let w : Marking c.args.nodes.now c.args.table.now.rows c.loop-at.table.rows c.args.from (Some c.in-Some.key) c.args.less c.args.more = subst
    (λ o. Marking c.args.nodes.now c.args.table.now.rows c.loop-at.table.rows c.args.from o c.args.less c.args.more) c.in-Some.is c.loop-at.invariant
    in
    rw c.parent_of-at.ensures (marking_next c.args.nodes.now c.args.table.now.rows c.loop-at.table.rows c.args.from c.in-Some.key c.args.less c.args.more
    w c.mark.new.table.rows c.mark.ensures.rows c.mark.ensures.same_length)

pub returns-clause-rows : goal.returns-clause-rows
returns-clause-rows c = marking_ended c.args.nodes.now c.args.table.now.rows c.loop-at.table.rows c.args.from c.args.less c.args.more (subst
    (λ o. Marking c.args.nodes.now c.args.table.now.rows c.loop-at.table.rows c.args.from o c.args.less c.args.more) c.in_default.is c.loop-at.invariant)

pub returns-clause-same_length : goal.returns-clause-same_length
returns-clause-same_length c = c.loop-at.invariant.same_length
