use Rattle.std.proofs.Common.{◌∙◌}
use Rattle.rd_why.proofs.Ending.{written}
use Rattle.rd_why.proofs.program.answer_on.Goals as goal

pub returns-in-Ok : goal.returns-in-Ok
returns-in-Ok g c = written _ c.args.tree.now c.args.question _ _ _ (c.as_str.ensures.value ∙ c.in-Ok.ensures) c.write.ensures
