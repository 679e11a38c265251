use Rattle.std.proofs.Common.{subst}
use Rattle.std.specs.Prelude.{Some}
use Rattle.rd_tree.proofs.Blending.Climbing.{Recounting, recount_begun, recount_here, recount_enough, recount_few, recount_smaller, recount_next, recount_ended, nothing_owed}
use Rattle.rd_tree.proofs.table.blends.recount.Goals.{In-Some}
use Rattle.rd_tree.proofs.table.blends.recount.Goals as goal

pub loop-at-init : goal.loop-at-init
loop-at-init c = recount_begun c.args.nodes.now c.args.counts.now.items c.args.from c.args.less c.args.more

-- The climb has come to this box.
come_here : (c : In-Some) → Recounting c.args.nodes.now c.args.counts.now.items c.loop-at.counts.items c.args.from (Some c.in-Some.key) c.args.less c.args.more
come_here c = subst (λ o. Recounting c.args.nodes.now c.args.counts.now.items c.loop-at.counts.items c.args.from o c.args.less c.args.more) c.in-Some.is
    c.loop-at.invariant

pub shift_count-requires-clause-here : goal.shift_count-requires-clause-here
shift_count-requires-clause-here c = recount_here c.args.nodes.now c.args.counts.now.items c.loop-at.counts.items c.args.from c.in-Some.key c.args.less
    c.args.more (come_here (goal.at.shift_count-requires-clause-here c).In-Some) c.requires

pub shift_count-requires-clause-enough : goal.shift_count-requires-clause-enough
shift_count-requires-clause-enough c = recount_enough c.args.nodes.now c.args.counts.now.items c.loop-at.counts.items c.args.from c.in-Some.key c.args.less
    c.args.more (come_here (goal.at.shift_count-requires-clause-enough c).In-Some) c.requires

pub shift_count-requires-clause-few : goal.shift_count-requires-clause-few
shift_count-requires-clause-few c = recount_few c.args.nodes.now c.args.counts.now.items c.loop-at.counts.items c.args.from c.in-Some.key c.args.less
    c.args.more (come_here (goal.at.shift_count-requires-clause-few c).In-Some) c.requires

pub loop-at-smaller : goal.loop-at-smaller
loop-at-smaller c = rw (c.in-Some.is, c.open_parent_of-at.ensures) (recount_smaller c.args.nodes.now c.args.counts.now.items c.loop-at.counts.items
    c.args.from c.in-Some.key c.args.less c.args.more (come_here (goal.at.loop-at-smaller c).In-Some) c.requires)

pub loop-at-preserved : goal.loop-at-preserved
loop-at-preserved c = rw c.open_parent_of-at.ensures (recount_next c.args.nodes.now c.args.counts.now.items c.loop-at.counts.items c.args.from
    c.in-Some.key c.args.less c.args.more (come_here (goal.at.loop-at-preserved c).In-Some) c.shift_count.new.counts.items c.shift_count.ensures.rows
    c.shift_count.ensures.same_length)

pub returns-then-less-more-clause-right : goal.returns-then-less-more-clause-right
returns-then-less-more-clause-right c = λ root f is i w. nothing_owed c.args.counts.now.items c.args.from c.args.less c.args.more f c.if-less-more.true w

pub returns-clause-right : goal.returns-clause-right
returns-clause-right c = recount_ended c.args.nodes.now c.args.counts.now.items c.loop-at.counts.items c.args.from c.args.less c.args.more (subst
    (λ o. Recounting c.args.nodes.now c.args.counts.now.items c.loop-at.counts.items c.args.from o c.args.less c.args.more) c.in_default.is
    c.loop-at.invariant)
