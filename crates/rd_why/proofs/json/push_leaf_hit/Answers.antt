use Rattle.std.proofs.Common.{◌∙◌, ap, ◌++◌, codes, string_bytes, append_assoc}
use Rattle.std.proofs.lemmas.Result.{on_ok_weaker}
use Rattle.rd_why.specs.Json as spec
use Rattle.rd_why.proofs.json.push_leaf_hit.Goals as goal

pub returns : goal.returns
unfolding spec.leaf_hit
returns c = on_ok_weaker c.write.result (λ e. e ∙ ap (λ t. string_bytes c.args.out.now ++ t) (rw (c.bool_text-text.ensures, c.bool_text-hit.ensures, c.is_hit.ensures) (simp append_assoc))) c.write.ensures.bytes
