use Rattle.rd_why.proofs.Ending.{of_script}
use Rattle.rd_why.proofs.program.answer.Goals as goal

pub returns-in-Ok : goal.returns-in-Ok
returns-in-Ok g c = of_script _ c.args.script.now _ c.args.question _ c.answer_on.result c.in-Ok.ensures c.answer_on.ensures
