use Rattle.std.proofs.Common.{◌∙◌, append_assoc, w32}
use Rattle.std.proofs.lemmas.Int.{to_z-of_z}
use Rattle.std.proofs.lemmas.Result.{on_ok_weaker}
use Rattle.rd_why.proofs.Growing.{pushed}
use Rattle.rd_why.proofs.json.push_why_json.Goals as goal
use mir.Val.{SFits}

pub returns : goal.returns
returns g c =
    let column : SFits w32 c.args.x = c.ranges.x in
    let row : SFits w32 c.args.y = c.ranges.y in
    on_ok_weaker c.push_str-2.result
    (λ e. e ∙ rw (c.in_ok-push_leaves.ensures, c.in_ok-push_str.ensures.bytes, c.in_ok-push_or_null.ensures, c.in_ok-write.ensures.bytes, c.hit_of.ensures) (simp (to_z-of_z, append_assoc)))
    (pushed c.push_str-2.result _ _ _ c.push_str-2.ensures.bytes)
