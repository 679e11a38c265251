use Rattle.std.proofs.Common.{arith, ap, ◌∙◌, sym, subst, cond}
use Rattle.std.specs.Prelude.{◌==◌, None}
use Rattle.rd_tree.proofs.Nodes.Works.{ended}
use Rattle.rd_tree.specs.declared.links.walk.Work.TheVariants.{Settle}
use Rattle.rd_tree.proofs.Tables.Settling.{Settling, settling_begun, settling_ended, settling_on, walked, live_key, here_row, below_settle, marks_below, row_stays, settle_next, settle_passed, settle_over, settling_rest}
use Rattle.rd_tree.proofs.table.settle.+settling.Goals as goal

pub settle_from-loop-at-init : goal.settle_from-loop-at-init
settle_from-loop-at-init t c =
    let on = settling_on c.args.nodes.now c.args.nodes.now c.args.table.now.rows c.args.table.now.rows c.args.first c.args.first c.where_left-at.result
    c.args.marks (settling_begun c.args.nodes.now c.args.table.now.rows c.args.first c.requires.read c.requires.has_rows c.requires.counted)
    c.requires.marks c.where_left-at.ensures in
    (on.0, on.1)

pub settle_from-settle_on-here-requires : goal.settle_from-settle_on-here-requires
settle_from-settle_on-here-requires t c =
    let w = walked c.args.nodes.now c.loop-at.nodes c.args.table.now.rows c.loop-at.table.rows c.args.first c.loop-at.at c.in-Some.key c.loop-at.left
    c.in-Some.is c.loop-at.invariant in
    record { live = live_key c.args.nodes.now c.loop-at.nodes c.args.table.now.rows c.loop-at.table.rows c.args.first c.in-Some.key w.0 }

pub settle_from-row_at-marks_below-requires : goal.settle_from-row_at-marks_below-requires
settle_from-row_at-marks_below-requires t c =
    let w = walked c.args.nodes.now c.loop-at.nodes c.args.table.now.rows c.loop-at.table.rows c.args.first c.loop-at.at c.in-Some.key c.loop-at.left
    c.in-Some.is c.loop-at.invariant in
    (here_row c.args.nodes.now c.loop-at.nodes c.args.table.now.rows c.loop-at.table.rows c.args.first c.in-Some.key w.0)

pub settle_from-loop-at-smaller-then-marks_below-eq0 : goal.settle_from-loop-at-smaller-then-marks_below-eq0
settle_from-loop-at-smaller-then-marks_below-eq0 t c =
    let w = walked c.args.nodes.now c.loop-at.nodes c.args.table.now.rows c.loop-at.table.rows c.args.first c.loop-at.at c.in-Some.key c.loop-at.left
    c.in-Some.is c.loop-at.invariant in
    let row = c.row_at-marks_below.ensures in
    let none = sym (ap (λ r. r.touched) row) ∙ c.if-marks_below-eq0.true in
    let n = settle_passed c.args.nodes.now c.loop-at.nodes c.args.table.now.rows c.loop-at.table.rows c.args.first c.in-Some.key w.0
    c.settle_on-here.new.nodes c.settle_on-here.ensures.worked (c.settle_on-here.result.first, c.settle_on-here.result.next)
    c.settle_on-here.ensures.onward none in
    rw c.in-Some.is (omega (arith, n.1))

pub settle_from-loop-at-preserved-then-marks_below-eq0 : goal.settle_from-loop-at-preserved-then-marks_below-eq0
settle_from-loop-at-preserved-then-marks_below-eq0 t c =
    let w = walked c.args.nodes.now c.loop-at.nodes c.args.table.now.rows c.loop-at.table.rows c.args.first c.loop-at.at c.in-Some.key c.loop-at.left
    c.in-Some.is c.loop-at.invariant in
    let row = c.row_at-marks_below.ensures in
    let none = sym (ap (λ r. r.touched) row) ∙ c.if-marks_below-eq0.true in
    let n = settle_passed c.args.nodes.now c.loop-at.nodes c.args.table.now.rows c.loop-at.table.rows c.args.first c.in-Some.key w.0
    c.settle_on-here.new.nodes c.settle_on-here.ensures.worked (c.settle_on-here.result.first, c.settle_on-here.result.next)
    c.settle_on-here.ensures.onward none in
    let own = c.settle_on-here.ensures.own in
    let quiet = c.if-here-eq0.true in
    (n.0, omega (arith, w.1, n.2, own, quiet))

pub settle_from-settle_below-requires : goal.settle_from-settle_below-requires
settle_from-settle_below-requires t c =
    let w = walked c.args.nodes.now c.loop-at.nodes c.args.table.now.rows c.loop-at.table.rows c.args.first c.loop-at.at c.in-Some.key c.loop-at.left
    c.in-Some.is c.loop-at.invariant in
    let row = c.row_at-marks_below.ensures in
    let below_is = c.where_left-below.ensures ∙ ap (λ r. cond (r.touched == 0) None c.settle_on-here.result.first) row in
    let b = below_settle c.args.nodes.now c.loop-at.nodes c.args.table.now.rows c.loop-at.table.rows c.args.first c.in-Some.key w.0
    c.settle_on-here.new.nodes c.settle_on-here.ensures.worked (c.settle_on-here.result.first, c.settle_on-here.result.next)
    c.settle_on-here.ensures.onward c.where_left-below.result below_is in
    let m = marks_below c.args.nodes.now c.loop-at.nodes c.args.table.now.rows c.loop-at.table.rows c.args.first c.in-Some.key w.0
    c.settle_on-here.new.nodes c.settle_on-here.ensures.worked (c.settle_on-here.result.first, c.settle_on-here.result.next)
    c.settle_on-here.ensures.onward c.where_left-below.result below_is in
    (omega (arith, b.smaller), (b.read, (b.has_rows, (b.counts, ap (λ r. r.touched) row ∙ m))))

pub settle_from-unmark-requires : goal.settle_from-unmark-requires
settle_from-unmark-requires t c =
    let w = walked c.args.nodes.now c.loop-at.nodes c.args.table.now.rows c.loop-at.table.rows c.args.first c.loop-at.at c.in-Some.key c.loop-at.left
    c.in-Some.is c.loop-at.invariant in
    let row = c.row_at-marks_below.ensures in
    let below_is = c.where_left-below.ensures ∙ ap (λ r. cond (r.touched == 0) None c.settle_on-here.result.first) row in
    record {
      here = omega (
        arith,
        here_row c.args.nodes.now c.loop-at.nodes c.args.table.now.rows c.loop-at.table.rows c.args.first c.in-Some.key w.0,
        c.settle_below.ensures.same_length,
      );
      were =
          ap (λ r. r.touched) (row_stays c.args.nodes.now c.loop-at.nodes c.args.table.now.rows c.loop-at.table.rows c.args.first c.in-Some.key w.0
          c.settle_on-here.new.nodes c.settle_on-here.ensures.worked (c.settle_on-here.result.first, c.settle_on-here.result.next)
          c.settle_on-here.ensures.onward c.where_left-below.result below_is c.settle_below.new.table.rows c.settle_below.ensures.rows)
          ∙ sym (ap (λ r. r.touched) row);
    }

pub settle_from-overflow_sub-left : goal.settle_from-overflow_sub-left
settle_from-overflow_sub-left t c =
    let w = walked c.args.nodes.now c.loop-at.nodes c.args.table.now.rows c.loop-at.table.rows c.args.first c.loop-at.at c.in-Some.key c.loop-at.left
    c.in-Some.is c.loop-at.invariant in
    let row = c.row_at-marks_below.ensures in
    let below_is = c.where_left-below.ensures ∙ ap (λ r. cond (r.touched == 0) None c.settle_on-here.result.first) row in
    let n = settle_next c.args.nodes.now c.loop-at.nodes c.args.table.now.rows c.loop-at.table.rows c.args.first c.in-Some.key w.0
    c.settle_on-here.new.nodes c.settle_on-here.ensures.worked (c.settle_on-here.result.first, c.settle_on-here.result.next)
    c.settle_on-here.ensures.onward c.where_left-below.result below_is c.settle_below.new.nodes c.settle_below.new.table.rows
    c.unmark.new.table.rows c.settle_below.ensures.settled c.settle_below.ensures.rows c.settle_below.ensures.same_length
    c.unmark.ensures.rows c.unmark.ensures.same_length in
    let own = c.settle_on-here.ensures.own in
    let marks = ap (λ r. r.touched) row in
    omega (arith, w.1, n.marks, own, marks)

pub settle_from-overflow_add-left : goal.settle_from-overflow_add-left
settle_from-overflow_add-left t c =
    let w = walked c.args.nodes.now c.loop-at.nodes c.args.table.now.rows c.loop-at.table.rows c.args.first c.loop-at.at c.in-Some.key c.loop-at.left
    c.in-Some.is c.loop-at.invariant in
    let row = c.row_at-marks_below.ensures in
    let below_is = c.where_left-below.ensures ∙ ap (λ r. cond (r.touched == 0) None c.settle_on-here.result.first) row in
    let n = settle_next c.args.nodes.now c.loop-at.nodes c.args.table.now.rows c.loop-at.table.rows c.args.first c.in-Some.key w.0
    c.settle_on-here.new.nodes c.settle_on-here.ensures.worked (c.settle_on-here.result.first, c.settle_on-here.result.next)
    c.settle_on-here.ensures.onward c.where_left-below.result below_is c.settle_below.new.nodes c.settle_below.new.table.rows
    c.unmark.new.table.rows c.settle_below.ensures.settled c.settle_below.ensures.rows c.settle_below.ensures.same_length
    c.unmark.ensures.rows c.unmark.ensures.same_length in
    let own = c.settle_on-here.ensures.own in
    let marks = ap (λ r. r.touched) row in
    omega (arith, w.1, n.marks, own, marks, c.loop-at.auto.left-fits)

pub settle_from-returns-then-left-eq0-clause-settled : goal.settle_from-returns-then-left-eq0-clause-settled
settle_from-returns-then-left-eq0-clause-settled t c =
    let w = walked c.args.nodes.now c.loop-at.nodes c.args.table.now.rows c.loop-at.table.rows c.args.first c.loop-at.at c.in-Some.key c.loop-at.left
    c.in-Some.is c.loop-at.invariant in
    let row = c.row_at-marks_below.ensures in
    let below_is = c.where_left-below.ensures ∙ ap (λ r. cond (r.touched == 0) None c.settle_on-here.result.first) row in
    let n = settle_next c.args.nodes.now c.loop-at.nodes c.args.table.now.rows c.loop-at.table.rows c.args.first c.in-Some.key w.0
    c.settle_on-here.new.nodes c.settle_on-here.ensures.worked (c.settle_on-here.result.first, c.settle_on-here.result.next)
    c.settle_on-here.ensures.onward c.where_left-below.result below_is c.settle_below.new.nodes c.settle_below.new.table.rows
    c.unmark.new.table.rows c.settle_below.ensures.settled c.settle_below.ensures.rows c.settle_below.ensures.same_length
    c.unmark.ensures.rows c.unmark.ensures.same_length in
    let own = c.settle_on-here.ensures.own in
    let marks = ap (λ r. r.touched) row in
    let none = c.if-left-eq0.true in
    let end = settling_rest c.args.nodes.now c.settle_below.new.nodes c.args.table.now.rows c.unmark.new.table.rows c.args.first
    c.settle_on-here.result.next n.next (omega (arith, w.1, n.marks, own, marks, none)) in
    ended c.args.nodes.now c.settle_below.new.nodes c.args.first Settle end.walked

pub settle_from-returns-then-left-eq0-clause-rows : goal.settle_from-returns-then-left-eq0-clause-rows
settle_from-returns-then-left-eq0-clause-rows t c =
    let w = walked c.args.nodes.now c.loop-at.nodes c.args.table.now.rows c.loop-at.table.rows c.args.first c.loop-at.at c.in-Some.key c.loop-at.left
    c.in-Some.is c.loop-at.invariant in
    let row = c.row_at-marks_below.ensures in
    let below_is = c.where_left-below.ensures ∙ ap (λ r. cond (r.touched == 0) None c.settle_on-here.result.first) row in
    let n = settle_next c.args.nodes.now c.loop-at.nodes c.args.table.now.rows c.loop-at.table.rows c.args.first c.in-Some.key w.0
    c.settle_on-here.new.nodes c.settle_on-here.ensures.worked (c.settle_on-here.result.first, c.settle_on-here.result.next)
    c.settle_on-here.ensures.onward c.where_left-below.result below_is c.settle_below.new.nodes c.settle_below.new.table.rows
    c.unmark.new.table.rows c.settle_below.ensures.settled c.settle_below.ensures.rows c.settle_below.ensures.same_length
    c.unmark.ensures.rows c.unmark.ensures.same_length in
    let own = c.settle_on-here.ensures.own in
    let marks = ap (λ r. r.touched) row in
    let none = c.if-left-eq0.true in
    let end = settling_rest c.args.nodes.now c.settle_below.new.nodes c.args.table.now.rows c.unmark.new.table.rows c.args.first
    c.settle_on-here.result.next n.next (omega (arith, w.1, n.marks, own, marks, none)) in
    settling_ended c.args.nodes.now c.settle_below.new.nodes c.args.table.now.rows c.unmark.new.table.rows c.args.first end

pub settle_from-loop-at-smaller : goal.settle_from-loop-at-smaller
settle_from-loop-at-smaller t c =
    let w = walked c.args.nodes.now c.loop-at.nodes c.args.table.now.rows c.loop-at.table.rows c.args.first c.loop-at.at c.in-Some.key c.loop-at.left
    c.in-Some.is c.loop-at.invariant in
    let row = c.row_at-marks_below.ensures in
    let below_is = c.where_left-below.ensures ∙ ap (λ r. cond (r.touched == 0) None c.settle_on-here.result.first) row in
    let n = settle_next c.args.nodes.now c.loop-at.nodes c.args.table.now.rows c.loop-at.table.rows c.args.first c.in-Some.key w.0
    c.settle_on-here.new.nodes c.settle_on-here.ensures.worked (c.settle_on-here.result.first, c.settle_on-here.result.next)
    c.settle_on-here.ensures.onward c.where_left-below.result below_is c.settle_below.new.nodes c.settle_below.new.table.rows
    c.unmark.new.table.rows c.settle_below.ensures.settled c.settle_below.ensures.rows c.settle_below.ensures.same_length
    c.unmark.ensures.rows c.unmark.ensures.same_length in
    let own = c.settle_on-here.ensures.own in
    let marks = ap (λ r. r.touched) row in
    rw c.in-Some.is (omega (arith, n.less))

pub settle_from-loop-at-preserved : goal.settle_from-loop-at-preserved
settle_from-loop-at-preserved t c =
    let w = walked c.args.nodes.now c.loop-at.nodes c.args.table.now.rows c.loop-at.table.rows c.args.first c.loop-at.at c.in-Some.key c.loop-at.left
    c.in-Some.is c.loop-at.invariant in
    let row = c.row_at-marks_below.ensures in
    let below_is = c.where_left-below.ensures ∙ ap (λ r. cond (r.touched == 0) None c.settle_on-here.result.first) row in
    let n = settle_next c.args.nodes.now c.loop-at.nodes c.args.table.now.rows c.loop-at.table.rows c.args.first c.in-Some.key w.0
    c.settle_on-here.new.nodes c.settle_on-here.ensures.worked (c.settle_on-here.result.first, c.settle_on-here.result.next)
    c.settle_on-here.ensures.onward c.where_left-below.result below_is c.settle_below.new.nodes c.settle_below.new.table.rows
    c.unmark.new.table.rows c.settle_below.ensures.settled c.settle_below.ensures.rows c.settle_below.ensures.same_length
    c.unmark.ensures.rows c.unmark.ensures.same_length in
    let own = c.settle_on-here.ensures.own in
    let marks = ap (λ r. r.touched) row in
    (n.next, omega (arith, w.1, n.marks, own, marks))

pub settle_from-returns-clause-settled : goal.settle_from-returns-clause-settled
settle_from-returns-clause-settled t c =
    let w : Settling c.args.nodes.now c.loop-at.nodes c.args.table.now.rows c.loop-at.table.rows c.args.first _ = subst (λ o. Settling c.args.nodes.now
    c.loop-at.nodes c.args.table.now.rows c.loop-at.table.rows c.args.first o) c.in_default.is c.loop-at.invariant.0 in
    ended c.args.nodes.now c.loop-at.nodes c.args.first Settle w.walked

pub settle_from-returns-clause-rows : goal.settle_from-returns-clause-rows
settle_from-returns-clause-rows t c = settling_ended c.args.nodes.now c.loop-at.nodes c.args.table.now.rows c.loop-at.table.rows c.args.first (subst
    (λ o. Settling c.args.nodes.now c.loop-at.nodes c.args.table.now.rows c.loop-at.table.rows c.args.first o) c.in_default.is c.loop-at.invariant.0)

pub settle_from-returns-clause-same_length : goal.settle_from-returns-clause-same_length
settle_from-returns-clause-same_length t c = c.loop-at.invariant.0.same_length

pub settle_from-after_page-requires : goal.settle_from-after_page-requires
settle_from-after_page-requires t c =
    let w = walked c.args.nodes.now c.loop-at.nodes c.args.table.now.rows c.loop-at.table.rows c.args.first c.loop-at.at c.in-Some.key c.loop-at.left
    c.in-Some.is c.loop-at.invariant in
    record { live = live_key c.args.nodes.now c.loop-at.nodes c.args.table.now.rows c.loop-at.table.rows c.args.first c.in-Some.key w.0 }

pub settle_from-loop-at-smaller-in-Some-after_page : goal.settle_from-loop-at-smaller-in-Some-after_page
settle_from-loop-at-smaller-in-Some-after_page t c =
    let p = settle_over c.args.nodes.now c.loop-at.nodes c.args.table.now.rows c.loop-at.table.rows c.args.first c.loop-at.at c.in-Some-after_page.next c.in-Some.key
    c.loop-at.invariant.0 c.in-Some.is c.in-Some-after_page.ensures in
    p.less

pub settle_from-loop-at-preserved-in-Some-after_page : goal.settle_from-loop-at-preserved-in-Some-after_page
settle_from-loop-at-preserved-in-Some-after_page t c =
    let p = settle_over c.args.nodes.now c.loop-at.nodes c.args.table.now.rows c.loop-at.table.rows c.args.first c.loop-at.at c.in-Some-after_page.next c.in-Some.key
    c.loop-at.invariant.0 c.in-Some.is c.in-Some-after_page.ensures in
    (p.next, c.loop-at.invariant.1 ∙ p.marks)
