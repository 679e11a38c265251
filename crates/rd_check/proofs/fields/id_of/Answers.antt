use Rattle.rd_check.proofs.Texts.{id_no_text}
use Rattle.rd_check.proofs.fields.id_of.Goals as goal

pub returns-in_default : goal.returns-in_default
returns-in_default c = id_no_text c.args.word.now c.in_default.ensures.cases.0
