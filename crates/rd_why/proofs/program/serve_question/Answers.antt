use Rattle.rd_why.proofs.Ending.{answered, refused}
use Rattle.std.proofs.Common.{refl}
use Rattle.rd_why.proofs.program.serve_question.Goals as goal

pub returns-in-Ok : goal.returns-in-Ok
returns-in-Ok g c = answered _ _ _ _ c.in-Ok.script c.in-Ok.ensures.script.0 _ c.in-Ok.ensures.script.1 c.in-Ok.ensures.script.2 c.answer.ensures

pub returns-in-Err : goal.returns-in-Err
returns-in-Err g c = refused _ _ _ _ _ c.in-Err.ensures.refused refl
