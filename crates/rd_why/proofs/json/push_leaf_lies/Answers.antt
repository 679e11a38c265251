use Rattle.std.proofs.Common.{◌∙◌, append_assoc}
use Rattle.std.proofs.lemmas.Result.{on_ok_weaker}
use Rattle.rd_why.proofs.Growing.{pushed}
use Rattle.rd_why.specs.Json as spec
use Rattle.rd_why.proofs.json.push_leaf_lies.Goals as goal

pub returns : goal.returns
unfolding spec.leaf_lies
returns g c =
    on_ok_weaker c.push_str-3.result
    (λ e. e ∙ rw (c.in_ok-push_groups.ensures, c.in_ok-push_str-2.ensures.bytes, c.in_ok-push_places.ensures, c.in_ok-push_str.ensures.bytes) (simp append_assoc))
    (pushed c.push_str-3.result _ _ _ c.push_str-3.ensures.bytes)
