use Rattle.std.proofs.Common.{◌≡◌, ◌++◌, ◌∷◌, [], sym, ap, ◌∙◌, map, reverse, length}
use Rattle.std.proofs.lemmas.Result.{err_from_is_err_and}
use Rattle.std.proofs.lemmas.List.{map_push}
use Rattle.std.proofs.lemmas.Bool.{eqb-true, eqb-false}
use Rattle.rd_check.specs.Rows.{row_of}
use Rattle.rd_check.specs.Internal.Nesting.{one_less, opened, may_come}
use Rattle.rd_check.proofs.Loop.{read_more, shorter, no_more, misplaced, unfinished, finished, not_zero, err_is}
use Rattle.rd_check.specs.declared.fault.CheckFault.TheVariants as faults
use Rattle.rd_check.proofs.nesting.rows_of.Goals as goal

pub returns-in_err-row-clause-none : goal.returns-in_err-row-clause-none
returns-in_err-row-clause-none c =
    let p = err_from_is_err_and c.from_residual.result c.from_residual.ensures.1 in
    λ is. no_more c.args.bytes.now c.loop-rest.rest.now (map row_of c.loop-rest.rows.items) (reverse c.loop-rest.stack.items) c.in_err-row.field-0.0
    c.loop-rest.invariant c.in_err-row.ensures (not_zero _ (sym c.is_empty.ensures ∙ c.loop-rest-test.true)) (err_is c.from_residual.result p.0 faults.Dump c.in_err-row.field-0.0 p.1 p.2 is)

pub returns-then-not-may_come-clause-none : goal.returns-then-not-may_come-clause-none
returns-then-not-may_come-clause-none c = λ is.
    misplaced c.args.bytes.now c.loop-rest.rest.now c.in_ok-row.after.now (map row_of c.loop-rest.rows.items) (reverse c.loop-rest.stack.items) (row_of c.in_ok-row.row)
    c.loop-rest.invariant c.in_ok-row.ensures (not_zero _ (sym c.is_empty.ensures ∙ c.loop-rest-test.true))
    (ap (λ s. may_come s (row_of c.in_ok-row.row)) (sym (ap reverse c.deref.ensures.value ∙ c.close.ensures)) ∙ sym c.may_come.ensures ∙ c.if-not-may_come.true)

pub loop-rest-smaller : goal.loop-rest-smaller
loop-rest-smaller c = shorter c.loop-rest.rest.now c.in_ok-row.after.now (row_of c.in_ok-row.row) c.in_ok-row.ensures

pub loop-rest-preserved : goal.loop-rest-preserved
loop-rest-preserved c =
    let r = row_of c.in_ok-row.row in
    let e : map row_of c.push.new.self.items ≡ map row_of c.loop-rest.rows.items ++ r ∷ [] = rw c.in_ok-push.ensures.items (map_push row_of c.loop-rest.rows.items c.in_ok-row.row) in
    rw e (read_more c.args.bytes.now c.loop-rest.rest.now c.in_ok-row.after.now (map row_of c.loop-rest.rows.items) (reverse c.loop-rest.stack.items) (reverse c.enter.new.stack.items) r
    c.loop-rest.invariant c.in_ok-row.ensures
    (ap (λ s. may_come s r) (sym (ap reverse c.deref.ensures.value ∙ c.close.ensures)) ∙ sym c.may_come.ensures ∙ c.if-not-may_come.false)
    (c.in_ok-enter.ensures ∙ ap (λ s. opened r (one_less s)) c.close.ensures))

pub returns-then-none_is_open-clause-lines : goal.returns-then-none_is_open-clause-lines
returns-then-none_is_open-clause-lines c =
    (finished c.args.bytes.now c.loop-rest.rest.now (map row_of c.loop-rest.rows.items) (reverse c.loop-rest.stack.items) c.loop-rest.invariant
    (eqb-true _ 0 (sym c.is_empty.ensures ∙ c.loop-rest-test.false))
    (ap length (sym (ap reverse c.deref-2.ensures.value ∙ c.close-2.ensures)) ∙ eqb-true _ 0 (sym c.none_is_open.ensures ∙ c.if-none_is_open.true))).0

pub returns-then-none_is_open-clause-fit : goal.returns-then-none_is_open-clause-fit
returns-then-none_is_open-clause-fit c = c.loop-rest.invariant.fit

pub returns-then-none_is_open-clause-nested : goal.returns-then-none_is_open-clause-nested
returns-then-none_is_open-clause-nested c =
    (finished c.args.bytes.now c.loop-rest.rest.now (map row_of c.loop-rest.rows.items) (reverse c.loop-rest.stack.items) c.loop-rest.invariant
    (eqb-true _ 0 (sym c.is_empty.ensures ∙ c.loop-rest-test.false))
    (ap length (sym (ap reverse c.deref-2.ensures.value ∙ c.close-2.ensures)) ∙ eqb-true _ 0 (sym c.none_is_open.ensures ∙ c.if-none_is_open.true))).1

pub returns-else-none_is_open-clause-none : goal.returns-else-none_is_open-clause-none
returns-else-none_is_open-clause-none c = λ is.
    unfinished c.args.bytes.now c.loop-rest.rest.now (map row_of c.loop-rest.rows.items) (reverse c.loop-rest.stack.items) c.loop-rest.invariant
    (eqb-true _ 0 (sym c.is_empty.ensures ∙ c.loop-rest-test.false))
    (λ e. eqb-false _ 0 (sym c.none_is_open.ensures ∙ c.if-none_is_open.false) (ap length (ap reverse c.deref-2.ensures.value ∙ c.close-2.ensures) ∙ e))
