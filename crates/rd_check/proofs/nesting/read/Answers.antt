use Rattle.std.proofs.Common.{sym, ap, ◌∙◌, map, arith}
use Rattle.std.proofs.lemmas.Result.{err_from_is_err_and}
use Rattle.rd_check.specs.Rows.{row_of}
use Rattle.rd_check.specs.Internal.Nesting.{leaves_in}
use Rattle.rd_check.proofs.Lines.{dump_reader, is_dump}
use Rattle.rd_check.proofs.Loop.{no_head, no_rows, miscounted, few_lines}
use Rattle.rd_check.proofs.nesting.read.Goals as goal

pub returns-in_default-clause-none : goal.returns-in_default-clause-none
returns-in_default-clause-none c = λ is. no_head c.args.dump.now c.in_default.ensures

pub returns-in_err-rows-clause-none : goal.returns-in_err-rows-clause-none
returns-in_err-rows-clause-none c =
    let p = err_from_is_err_and c.from_residual.result c.from_residual.ensures.1 in
    rw (p.1, p.2) (λ is. no_rows c.args.dump.now c.in-Some.rest.now c.in-Some.leaves c.in-Some.ensures (c.in_err-rows.ensures.none is))

pub returns-then-leaves_in-leaves-clause-found : goal.returns-then-leaves_in-leaves-clause-found
returns-then-leaves_in-leaves-clause-found c =
    let few = c.requires in
    is_dump c.args.dump.now c.in-Some.rest.now c.in-Some.leaves (map row_of c.in_ok-rows.rows.items)
    (dump_reader.takes c.args.dump.now c.in-Some.leaves c.in-Some.rest.now (sym c.in-Some.ensures)).0
    c.in_ok-rows.ensures.lines c.in_ok-rows.ensures.fit c.in_ok-rows.ensures.nested
    (ap (λ z. leaves_in (map row_of z)) (sym c.deref.ensures.value) ∙ sym c.leaves_in.ensures ∙ c.if-leaves_in-leaves.true)
    (omega (arith, few))

pub returns-then-leaves_in-leaves-clause-few : goal.returns-then-leaves_in-leaves-clause-few
returns-then-leaves_in-leaves-clause-few c =
    let k = few_lines c.args.dump.now c.in-Some.rest.now c.in-Some.leaves c.in_ok-rows.rows.items c.in-Some.ensures c.in_ok-rows.ensures.lines in
    let few = c.requires in
    omega (arith, k, few)

pub returns-else-leaves_in-leaves-clause-none : goal.returns-else-leaves_in-leaves-clause-none
returns-else-leaves_in-leaves-clause-none c = λ is.
    miscounted c.args.dump.now c.in-Some.rest.now c.in-Some.leaves (map row_of c.in_ok-rows.rows.items) c.in-Some.ensures c.in_ok-rows.ensures.lines c.in_ok-rows.ensures.fit
    (λ e. c.if-leaves_in-leaves.false (c.leaves_in.ensures ∙ ap (λ z. leaves_in (map row_of z)) c.deref.ensures.value ∙ e))
