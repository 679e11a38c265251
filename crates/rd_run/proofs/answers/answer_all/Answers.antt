use Rattle.std.proofs.Common.{◌++◌, ◌∙◌, inl, inr, sym, subst}
use Rattle.std.proofs.lemmas.Result.{err_from_is_err_and}
use Rattle.std.specs.Io.KnownBytes.{Appends}
use Rattle.rd_io.proofs.Bytes.{appends_more}
use Rattle.rd_run.proofs.Runs.{step_on, part_on, none_on, all_on, front_on, gathers_on, on_err, on_ok, counted_on, within_on}
use Rattle.rd_run.proofs.answers.answer_all.Goals as goal

pub loop-command-preserved : goal.loop-command-preserved
loop-command-preserved g c = record {
  so_far = λ s h.
      let p = c.loop-command.invariant.so_far s h in
      let q = c.in_ok-answer_one.ensures.all (p.0) p.3 in (
        q.0,
        p.1 ++ q.1,
        step_on _ _ _ _ _ _ _ _ c.loop-command-test.true c.command-item.is p.2 q.2,
        q.3,
        counted_on _ _ _ _ _ _ _ _ _ p.4 q.4,
        p.5 ++ q.5.sent,
        gathers_on _ _ _ _ _ _ p.6 q.5.whole,
        appends_more _ _ _ _ _ p.7 q.5.gained,
      );
  few = c.answer_one.ensures.count _ c.loop-command.invariant.few;
  faultless = c.in_ok-answer_one.ensures.faultless ∙ c.loop-command.invariant.faultless;
}

pub returns-in_err-answer_one-clause-part : goal.returns-in_err-answer_one-clause-part
returns-in_err-answer_one-clause-part g c =
    let r = err_from_is_err_and c.from_residual.result c.from_residual.ensures.1 in
    rw (r.1) (λ s h.
    let p = c.loop-command.invariant.so_far s h in
    elim c.in_err-answer_one.ensures.only [
      | inl e ↦ (let q = c.in_err-answer_one.ensures.part e (p.0) p.3 in
          part_on _ _ _ _ _ _ _ _ _ _ _ _ _ 0 0 _ _ _ _ c.loop-command-test.true c.command-item.is p.2 q.2 q.3
          (within_on _ _ _ _ _ _ _ _ _ p.4 q.4) p.6 p.7 q.5)
      | inr e ↦ (let q = c.in_err-answer_one.ensures.on e (p.0) p.3 in
          none_on _ _ _ _ _ _ _ _ _ _ _ _ 0 0 _ _ _ _ c.loop-command-test.true c.command-item.is p.2 q.2 q.3
          (within_on _ _ _ _ _ _ _ _ _ p.4 q.4) p.6
          (subst (λ x. Appends (g.O.Sink.written c.args.out.now) (g.O.Sink.written x) (p.5)) (sym (c.in_err-answer_one.ensures.none e)) p.7))
    ])

pub returns-clause-all : goal.returns-clause-all
returns-clause-all g c =
    on_ok _ _ c.send.result (λ w s h.
    let p = c.loop-command.invariant.so_far s h in
    all_on _ _ _ _ _ _ _ _ _ _ 0 0 _ _ _ _ c.loop-command-test.false p.2 p.4 p.6 p.7 w) c.send.ensures.all

pub returns-clause-part : goal.returns-clause-part
returns-clause-part g c =
    on_err _ _ c.send.result (λ w s h.
    let p = c.loop-command.invariant.so_far s h in
    front_on _ _ _ _ _ _ _ _ _ _ 0 0 _ _ _ _ c.loop-command-test.false p.2 p.4 p.6 p.7 w) c.send.ensures.part
