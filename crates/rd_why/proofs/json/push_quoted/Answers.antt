use Rattle.std.proofs.Common.{◌∙◌, ap, ◌++◌, codes, string_bytes, append_assoc}
use Rattle.std.proofs.lemmas.Result.{on_ok_weaker}
use Rattle.rd_why.proofs.json.push_quoted.Goals as goal

pub returns : goal.returns
returns g c = on_ok_weaker c.write.result (λ e. e ∙ ap (λ t. string_bytes c.args.out.now ++ (codes "\"" ++ t ++ codes "\"")) c.id_text-id.ensures) c.write.ensures.bytes
