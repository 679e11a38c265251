use Rattle.std.proofs.Common.{arith}
use Rattle.rd_run.proofs.Undoing.{takes_on, takes_all, unpainted_on}
use Rattle.rd_run.proofs.session.Session.take_back.Goals as goal

pub loop-edit-preserved : goal.loop-edit-preserved
loop-edit-preserved g c = record {
  so_far = λ s h.
      let p = c.loop-edit.invariant.so_far s h in
      let q = c.in_ok-done.ensures.ok (p.0) p.2 in
      (q.0, takes_on _ _ _ _ _ _ _ _ c.loop-edit-test.true c.edit-item.is p.1 q.1, q.2);
  few = λ n h. c.take_one.ensures.count n (c.loop-edit.invariant.few n h);
  little = omega (arith, c.loop-edit.invariant.little, c.in_ok-done.ensures.little);
  still = unpainted_on _ _ _ c.loop-edit.invariant.still c.in_ok-done.ensures.watched;
}

pub returns-clause-ok : goal.returns-clause-ok
returns-clause-ok g c = λ s h.
    let p = c.loop-edit.invariant.so_far s h in
    (p.0, takes_all _ _ _ _ _ c.loop-edit-test.false p.1, p.2)

pub returns-in_err-done-clause-count : goal.returns-in_err-done-clause-count
returns-in_err-done-clause-count g c = λ n few. c.take_one.ensures.count n (c.loop-edit.invariant.few n few)
