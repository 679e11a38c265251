use Rattle.std.proofs.Common.{List, ℕ, subst}
use Rattle.rd_io.specs.Causes.{GainsPart}
use Rattle.rd_run.proofs.Runs.{passes_none, passes_all, on_two, of_err, counted_within}
use Rattle.rd_run.proofs.answers.answer_one.Goals as goal

pub returns-then-len-lt-PIECE-clause-all : goal.returns-then-len-lt-PIECE-clause-all
returns-then-len-lt-PIECE-clause-all g c = λ s h.
    let a = c.in-Ok.ensures.ok s h in
    (a.2.0, a.0, a.2.1, a.2.2, a.2.3, passes_none _ _ _ _ _ a.1)

pub returns-else-len-lt-PIECE-clause-all : goal.returns-else-len-lt-PIECE-clause-all
returns-else-len-lt-PIECE-clause-all g c =
    on_two _ _ _ c.send.result (λ p q s h.
    let a = c.in-Ok.ensures.ok s h in
    (a.2.0, a.0, a.2.1, a.2.2, a.2.3, passes_all _ _ _ _ _ _ _ _ a.1 q p)) c.send.ensures.all c.send.ensures.empty

pub returns-else-len-lt-PIECE-clause-part : goal.returns-else-len-lt-PIECE-clause-part
returns-else-len-lt-PIECE-clause-part g c = λ e s h.
    let a = c.in-Ok.ensures.ok s h in
    (a.2.0, a.0, a.2.1, a.2.2.well_formed, counted_within _ _ _ _ _ _ a.2.3, subst (λ (x : List ℕ). GainsPart (g.O.Sink.written c.args.out.now) (g.O.Sink.written c.send.new.out) x) a.1 (of_err _ c.send.result _ e c.send.ensures.part))
