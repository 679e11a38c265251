use Rattle.std.proofs.Common.{rules, w32}
use Rattle.std.proofs.lemmas.Int.{to_z-of_z}
use Rattle.rd_why.proofs.program.in_json.Goals as goal
use mir.Val.{SFits}

pub returns : goal.returns
returns g c =
    let column : SFits w32 c.args.question.x = search rules in
    let row : SFits w32 c.args.question.y = search rules in
    rw (c.in_ok-push_why_json.ensures, c.new-text.ensures.bytes) (simp to_z-of_z)
