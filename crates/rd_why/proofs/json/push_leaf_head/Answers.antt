use Rattle.std.proofs.Common.{◌∙◌, ap, ◌++◌, codes, string_bytes, append_assoc}
use Rattle.std.proofs.lemmas.Result.{on_ok_weaker}
use Rattle.rd_why.specs.Json as spec
use Rattle.rd_why.proofs.json.push_leaf_head.Goals as goal

pub returns : goal.returns
unfolding spec.leaf_head
returns g c = on_ok_weaker c.write.result (λ e. e ∙ rw (c.in_ok-push_quoted.ensures, c.in_ok-push_str.ensures.bytes, c.part_text-part.ensures) (simp append_assoc)) c.write.ensures.bytes
