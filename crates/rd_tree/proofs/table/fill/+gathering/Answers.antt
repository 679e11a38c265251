use Rattle.std.proofs.Common.{ap, arith, cond, refl, subst, sym, ◌∙◌}
use Rattle.rd_keys.specs.Keys.{same_key}
use Rattle.rd_tree.specs.Forest.{has}
use Rattle.rd_tree.specs.Internal.Gathers.{gathered_in}
use Rattle.rd_tree.specs.Internal.Summaries.{summary_at, summary_of}
use Rattle.rd_tree.proofs.Tables.Siblings.{nothing_seen}
use Rattle.std.specs.Prelude.{Some}
use Rattle.rd_tree.specs.Internal.Links.{child_and_sibling}
use Rattle.rd_tree.specs.Internal.Linked.{linked}
use Rattle.rd_tree.proofs.Tables.Filling.{Filled, BelowFill, FillNext, filled_begun, filled_told, filled_rows, below_fill, fill_next}
use Rattle.rd_tree.proofs.table.fill.+gathering.Goals as goal

pub gather-loop-at-init : goal.gather-loop-at-init
gather-loop-at-init t c = rw c.none-all.ensures (filled_begun c.args.nodes.now c.args.table.now.rows c.args.first c.requires.read c.requires.fits c.requires.has_rows)

pub gather-gather_below-low-requires : goal.gather-gather_below-low-requires
gather-gather_below-low-requires t c =
    let w : Filled c.args.nodes.now c.args.table.now.rows c.loop-at.table.rows c.args.first (Some c.in-Some.key) c.loop-at.all = subst (λ o. Filled
    c.args.nodes.now c.args.table.now.rows c.loop-at.table.rows c.args.first o c.loop-at.all) c.in-Some.is c.loop-at.invariant in
    let b : BelowFill c.args.nodes.now c.loop-at.table.rows c.args.first c.in-Some.key c.measure-own.result.below = below_fill c.args.nodes.now
    c.args.table.now.rows c.loop-at.table.rows c.args.first c.in-Some.key c.loop-at.all w c.measure-own.result.below
    c.measure-own.result.next c.measure-own.ensures.onward in
    (omega (arith, b.smaller), (b.read, (c.requires.small, (b.has_rows, b.fits))))

pub gather-measure-own-requires : goal.gather-measure-own-requires
gather-measure-own-requires t c =
    let w : Filled c.args.nodes.now c.args.table.now.rows c.loop-at.table.rows c.args.first (Some c.in-Some.key) c.loop-at.all = subst (λ o. Filled
    c.args.nodes.now c.args.table.now.rows c.loop-at.table.rows c.args.first o c.loop-at.all) c.in-Some.is c.loop-at.invariant in
    let b : BelowFill c.args.nodes.now c.loop-at.table.rows c.args.first c.in-Some.key (child_and_sibling (linked c.args.nodes.now c.in-Some.key)).0 =
    below_fill c.args.nodes.now c.args.table.now.rows c.loop-at.table.rows c.args.first c.in-Some.key c.loop-at.all w
    (child_and_sibling (linked c.args.nodes.now c.in-Some.key)).0 (child_and_sibling (linked c.args.nodes.now c.in-Some.key)).1 refl in
    b.fit_here

pub gather-with_one-all-requires-clause-few : goal.gather-with_one-all-requires-clause-few
gather-with_one-all-requires-clause-few t c =
    let w : Filled c.args.nodes.now c.args.table.now.rows c.loop-at.table.rows c.args.first (Some c.in-Some.key) c.loop-at.all = subst (λ o. Filled
    c.args.nodes.now c.args.table.now.rows c.loop-at.table.rows c.args.first o c.loop-at.all) c.in-Some.is c.loop-at.invariant in
    let n : FillNext c.args.nodes.now c.args.table.now.rows c.loop-at.table.rows c.args.first c.in-Some.key c.loop-at.all w
    c.measure-own.result.below c.measure-own.result.next c.measure-own.ensures.onward c.gather_below-low.result =
    fill_next c.args.nodes.now c.args.table.now.rows c.loop-at.table.rows c.args.first c.in-Some.key c.loop-at.all w
    c.measure-own.result.below c.measure-own.result.next c.measure-own.ensures.onward c.gather_below-low.result
    c.gather_below-low.ensures.told in
    omega (arith, n.few, c.requires.small)

pub gather-with_one-all-requires-clause-few_touched : goal.gather-with_one-all-requires-clause-few_touched
gather-with_one-all-requires-clause-few_touched t c =
    let w : Filled c.args.nodes.now c.args.table.now.rows c.loop-at.table.rows c.args.first (Some c.in-Some.key) c.loop-at.all = subst (λ o. Filled
    c.args.nodes.now c.args.table.now.rows c.loop-at.table.rows c.args.first o c.loop-at.all) c.in-Some.is c.loop-at.invariant in
    let n : FillNext c.args.nodes.now c.args.table.now.rows c.loop-at.table.rows c.args.first c.in-Some.key c.loop-at.all w
    c.measure-own.result.below c.measure-own.result.next c.measure-own.ensures.onward c.gather_below-low.result =
    fill_next c.args.nodes.now c.args.table.now.rows c.loop-at.table.rows c.args.first c.in-Some.key c.loop-at.all w
    c.measure-own.result.below c.measure-own.result.next c.measure-own.ensures.onward c.gather_below-low.result
    c.gather_below-low.ensures.told in
    rw (c.measure-own.ensures.touched, c.row_of-row.ensures) (omega (arith, n.few_touched, c.requires.small))

pub gather-write-requires : goal.gather-write-requires
gather-write-requires t c =
    let w : Filled c.args.nodes.now c.args.table.now.rows c.loop-at.table.rows c.args.first (Some c.in-Some.key) c.loop-at.all = subst (λ o. Filled
    c.args.nodes.now c.args.table.now.rows c.loop-at.table.rows c.args.first o c.loop-at.all) c.in-Some.is c.loop-at.invariant in
    let b : BelowFill c.args.nodes.now c.loop-at.table.rows c.args.first c.in-Some.key c.measure-own.result.below = below_fill c.args.nodes.now
    c.args.table.now.rows c.loop-at.table.rows c.args.first c.in-Some.key c.loop-at.all w c.measure-own.result.below
    c.measure-own.result.next c.measure-own.ensures.onward in
    omega (arith, b.here, c.gather_below-low.ensures.same_length)

pub gather-loop-at-smaller : goal.gather-loop-at-smaller
gather-loop-at-smaller t c =
    let w : Filled c.args.nodes.now c.args.table.now.rows c.loop-at.table.rows c.args.first (Some c.in-Some.key) c.loop-at.all = subst (λ o. Filled
    c.args.nodes.now c.args.table.now.rows c.loop-at.table.rows c.args.first o c.loop-at.all) c.in-Some.is c.loop-at.invariant in
    let n : FillNext c.args.nodes.now c.args.table.now.rows c.loop-at.table.rows c.args.first c.in-Some.key c.loop-at.all w
    c.measure-own.result.below c.measure-own.result.next c.measure-own.ensures.onward c.gather_below-low.result =
    fill_next c.args.nodes.now c.args.table.now.rows c.loop-at.table.rows c.args.first c.in-Some.key c.loop-at.all w
    c.measure-own.result.below c.measure-own.result.next c.measure-own.ensures.onward c.gather_below-low.result
    c.gather_below-low.ensures.told in
    rw c.in-Some.is n.less

pub gather-loop-at-preserved : goal.gather-loop-at-preserved
gather-loop-at-preserved t c =
    let w : Filled c.args.nodes.now c.args.table.now.rows c.loop-at.table.rows c.args.first (Some c.in-Some.key) c.loop-at.all = subst (λ o. Filled
    c.args.nodes.now c.args.table.now.rows c.loop-at.table.rows c.args.first o c.loop-at.all) c.in-Some.is c.loop-at.invariant in
    let n : FillNext c.args.nodes.now c.args.table.now.rows c.loop-at.table.rows c.args.first c.in-Some.key c.loop-at.all w
    c.measure-own.result.below c.measure-own.result.next c.measure-own.ensures.onward c.gather_below-low.result =
    fill_next c.args.nodes.now c.args.table.now.rows c.loop-at.table.rows c.args.first c.in-Some.key c.loop-at.all w
    c.measure-own.result.below c.measure-own.result.next c.measure-own.ensures.onward c.gather_below-low.result
    c.gather_below-low.ensures.told in
    n.next c.gather_below-low.new.table.rows c.write.new.table.rows c.with_one-all.result c.gather_below-low.ensures.rows c.gather_below-low.ensures.same_length
    (rw (c.row_of-row.ensures, c.measure-own.ensures.extent) at c.write.ensures.rows) c.write.ensures.same_length
    c.with_one-all.ensures.breadth
    (rw (c.measure-own.ensures.touched, c.row_of-row.ensures) at c.with_one-all.ensures.touched)
    (rw (c.row_of-row.ensures, c.measure-own.ensures.extent) at c.with_one-all.ensures.hull)

pub gather-returns-clause-told : goal.gather-returns-clause-told
gather-returns-clause-told t c = filled_told c.args.nodes.now c.args.table.now.rows c.loop-at.table.rows c.args.first c.loop-at.all (subst (λ o. Filled
    c.args.nodes.now c.args.table.now.rows c.loop-at.table.rows c.args.first o c.loop-at.all) c.in_default.is c.loop-at.invariant)

pub gather-returns-clause-rows : goal.gather-returns-clause-rows
gather-returns-clause-rows t c = filled_rows c.args.nodes.now c.args.table.now.rows c.loop-at.table.rows c.args.first c.loop-at.all (subst (λ o. Filled
    c.args.nodes.now c.args.table.now.rows c.loop-at.table.rows c.args.first o c.loop-at.all) c.in_default.is c.loop-at.invariant)

pub gather-returns-clause-same_length : goal.gather-returns-clause-same_length
gather-returns-clause-same_length t c = c.loop-at.invariant.same_length

pub gather_below-returns-in-None-clause-told : goal.gather_below-returns-in-None-clause-told
gather_below-returns-in-None-clause-told t c = rw c.in-None.is (c.none.ensures ∙ sym (ap gathered_in (nothing_seen c.args.nodes.now)))

pub gather_below-returns-in-None-clause-rows : goal.gather_below-returns-in-None-clause-rows
gather_below-returns-in-None-clause-rows t c = rw c.in-None.is (λ k u. sym (ap (λ f. cond (has same_key k f) (summary_of k f) (summary_at c.args.table.now.rows k))
    (nothing_seen c.args.nodes.now)))
