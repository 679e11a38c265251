use Rattle.std.proofs.Common.{arith, ◌++◌}
use Rattle.std.proofs.lemmas.Result.{err_from_is_err_and}
use Rattle.rd_run.proofs.Runs.{step_on, perform_on, whole_run, counted_on, within_on, fewer}
use Rattle.rd_run.proofs.performing.perform_all.Goals as goal

pub loop-command-preserved : goal.loop-command-preserved
loop-command-preserved g c = record {
  so_far = λ s h.
      let p = c.loop-command.invariant.so_far s h in
      let q = c.in_ok-perform.ensures.ok (p.0) p.4 in (
        q.1.0,
        p.1 ++ q.0,
        step_on _ _ _ _ _ _ _ _ c.loop-command-test.true c.command-item.is p.2 q.1.1,
        counted_on _ _ _ _ _ _ _ _ _ p.3 q.1.3,
        q.1.2,
      );
  few = c.perform.ensures.count _ c.loop-command.invariant.few;
}

pub returns-clause-all : goal.returns-clause-all
returns-clause-all g c = λ s h.
    let p = c.loop-command.invariant.so_far s h in
    (p.0, p.1, whole_run _ _ _ _ _ c.loop-command-test.false p.2, p.3, p.4)

pub returns-in_err-perform-clause-part : goal.returns-in_err-perform-clause-part
returns-in_err-perform-clause-part g c =
    let r = err_from_is_err_and c.from_residual.result c.from_residual.ensures.1 in
    rw (r.1) (λ s h.
    let p = c.loop-command.invariant.so_far s h in
    let q = c.in_err-perform.ensures.err (p.0) p.4 in
    perform_on _ _ _ _ _ _ _ _ _ _ _ _ c.loop-command-test.true c.command-item.is p.2 q.2 q.3
    (within_on _ _ _ _ _ _ _ _ _ p.3 q.4))

pub returns-in_err-perform-clause-count : goal.returns-in_err-perform-clause-count
returns-in_err-perform-clause-count g c =
    let l = c.loop-command-test.true in
    let m = c.requires.few in
    fewer _ _ _ (omega (arith, l, m)) (c.perform.ensures.count _ c.loop-command.invariant.few)
