use Rattle.std.proofs.Common.{◌∙◌, ap, ◌++◌, codes, string_bytes, append_assoc}
use Rattle.std.proofs.lemmas.Result.{on_ok_weaker}
use Rattle.rd_why.proofs.lines.push_boxes.Goals as goal

pub returns : goal.returns
returns g c = on_ok_weaker c.write.result (λ e. e ∙ ap (λ t. string_bytes c.args.out.now ++ t) (rw (c.id_text-context.ensures, c.id_text-upper_id.ensures, c.id_text-lower_id.ensures, c.number-number.ensures) (simp append_assoc))) c.write.ensures.bytes
