use Rattle.std.proofs.Common.{sym, ◌∙◌, ◌+◌, arith, []}
use Rattle.rd_run.proofs.Runs.{on_ok, on_err, nothing_counted, fewer}
use Rattle.rd_run.proofs.Lasting.{passed, one_performed, one_may}
use Rattle.rd_run.proofs.last.change.Goals as goal

pub returns-then-is_change-clause-all : goal.returns-then-is_change-clause-all
returns-then-is_change-clause-all g c =
    let e = sym c.is_change.ensures ∙ c.if-is_change.true in
    on_ok _ _ _ (one_performed _ _ _ _ _ e) c.perform.ensures.ok

pub returns-then-is_change-clause-part : goal.returns-then-is_change-clause-part
returns-then-is_change-clause-part g c =
    let e = sym c.is_change.ensures ∙ c.if-is_change.true in
    on_err _ _ _ (one_may _ _ _ _ e) c.perform.ensures.err

pub returns-else-is_change-clause-all : goal.returns-else-is_change-clause-all
returns-else-is_change-clause-all g c = λ s h. (s, [], passed _ s (sym c.is_change.ensures ∙ c.if-is_change.false), nothing_counted s _ _, h)

pub returns-else-is_change-clause-count : goal.returns-else-is_change-clause-count
returns-else-is_change-clause-count g c = λ n h. fewer _ n (n + 1) (omega arith) h
