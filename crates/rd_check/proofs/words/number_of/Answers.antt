use Rattle.std.proofs.Common.{◌≡◌, sym, ◌∙◌, arith}
use Rattle.rd_check.proofs.Spelled.{bytes_same, number_found, number_no_text, number_no_parse, number_other}
use Rattle.rd_check.proofs.words.number_of.Goals as goal

pub returns-in_default : goal.returns-in_default
returns-in_default c = sym (number_no_text c.args.word.now c.in_default.ensures.cases.0)

pub returns-in_default-parse : goal.returns-in_default-parse
returns-in_default-parse c =
    sym (number_no_parse c.args.word.now c.in-Ok.text.now c.parse.result c.in_default-parse.field-0 c.in-Ok.ensures.cases.0 c.parse.ensures.value.0 c.in_default-parse.is)

pub returns-then-eq : goal.returns-then-eq
returns-then-eq c =
    let same : c.as_bytes.result.now ≡ c.args.word.now = bytes_same _ _ (sym c.eq.ensures ∙ c.if-eq.true) in
    sym (number_found c.in-Ok-parse.number c.args.word.now (omega arith) (sym (c.as_bytes.ensures.value ∙ c.format.ensures.text) ∙ same))

pub returns-else-eq : goal.returns-else-eq
returns-else-eq c =
    sym (number_other c.args.word.now c.in-Ok.text.now c.as_bytes.result.now c.parse.result c.in-Ok-parse.number c.in-Ok.ensures.cases.0 c.parse.ensures.value.0 c.in-Ok-parse.is
    (c.as_bytes.ensures.value ∙ c.format.ensures.text) (sym c.eq.ensures ∙ c.if-eq.false))
