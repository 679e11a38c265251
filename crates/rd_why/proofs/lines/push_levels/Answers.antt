use Rattle.std.proofs.Common.{◌∙◌, ap, ◌++◌, string_bytes, append_assoc, rules, w32}
use Rattle.std.proofs.lemmas.Int.{to_z-of_z}
use Rattle.std.proofs.lemmas.Result.{on_ok_weaker}
use Rattle.rd_why.proofs.lines.push_levels.Goals as goal
use mir.Val.{SFits}

pub returns : goal.returns
returns g c =
    let upper : SFits w32 c.args.u.now.level = search rules in
    let lower : SFits w32 c.args.l.now.level = search rules in
    on_ok_weaker c.write.result (λ e. e ∙ ap (λ t. string_bytes c.args.out.now ++ t) (rw (c.id_text-context.ensures, c.id_text-upper_id.ensures, c.id_text-lower_id.ensures) (simp (to_z-of_z, append_assoc)))) c.write.ensures.bytes
