use Rattle.std.proofs.Common.{◌∙◌}
use Rattle.rd_run.proofs.Splitting.{verdict_written}
use Rattle.rd_run.proofs.checking.check_tree.Goals as goal

pub returns-in-Ok-verdict_text : goal.returns-in-Ok-verdict_text
returns-in-Ok-verdict_text g c = λ text r.
    verdict_written _ _ _ text c.args.tree.now c.in-Ok.verdict _ _ (c.in-Ok.ensures.verdict text r) (c.as_bytes.ensures.value ∙ c.in-Ok-verdict_text.ensures)
    c.in-Ok.ensures.made c.check.ensures.looks c.write.ensures
