use Rattle.std.proofs.Common.{◌++◌}
use Rattle.std.proofs.lemmas.Result.{err_from_is_err_and}
use Rattle.rd_run.proofs.Runs.{counted_on, within_on}
use Rattle.rd_run.proofs.Lasting.{changes_on, all_changed, changes_may}
use Rattle.rd_run.proofs.last.change_all.Goals as goal

pub loop-command-preserved : goal.loop-command-preserved
loop-command-preserved g c = record {
  so_far = λ s h.
      let p = c.loop-command.invariant.so_far s h in
      let q = c.in_ok-change.ensures.all (p.0) p.4 in (
        q.0,
        p.1 ++ q.1,
        changes_on _ _ _ _ _ _ _ _ c.loop-command-test.true c.command-item.is p.2 q.2,
        counted_on _ _ _ _ _ _ _ _ _ p.3 q.3,
        q.4,
      );
  few = c.change.ensures.count _ c.loop-command.invariant.few;
}

pub returns-clause-all : goal.returns-clause-all
returns-clause-all g c = λ s h.
    let p = c.loop-command.invariant.so_far s h in
    (p.0, p.1, all_changed _ _ _ _ _ c.loop-command-test.false p.2, p.3, p.4)

pub returns-in_err-change-clause-part : goal.returns-in_err-change-clause-part
returns-in_err-change-clause-part g c =
    let r = err_from_is_err_and c.from_residual.result c.from_residual.ensures.1 in
    rw (r.1) (λ s h.
    let p = c.loop-command.invariant.so_far s h in
    let q = c.in_err-change.ensures.part (p.0) p.4 in
    changes_may _ _ _ _ _ _ _ _ _ _ _ _ c.loop-command-test.true c.command-item.is p.2 q.2 q.4
    (within_on _ _ _ _ _ _ _ _ _ p.3 q.3))
