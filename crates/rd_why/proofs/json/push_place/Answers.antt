use Rattle.std.proofs.Common.{◌∙◌, ap, ◌++◌, codes, decimal, string_bytes, append_assoc, rules, w32}
use Rattle.std.specs.Fmt.{signed_decimal}
use Rattle.std.proofs.lemmas.Int.{to_z-of_z}
use Rattle.std.proofs.lemmas.Result.{on_ok_weaker}
use Rattle.rd_trace.specs.Reasons.{number_of}
use Rattle.rd_why.specs.Json as spec
use Rattle.rd_why.proofs.Growing.{seven}
use Rattle.rd_why.proofs.json.push_place.Goals as goal
use mir.Val.{SFits}

pub returns : goal.returns
unfolding spec.place_json
returns g c =
    let level : SFits w32 c.args.p.now.level = search rules in
    on_ok_weaker c.write-2.result
    (λ e. seven (codes "{\"step\":" ++ decimal (number_of c.args.p.now.step) ++ codes ",\"context\":") (spec.quoted c.args.tree.now.boxes c.args.p.now.context) (codes ",\"line\":")
    (spec.quoted c.args.tree.now.boxes c.args.p.now.line) (codes ",\"box\":") (spec.quoted c.args.tree.now.boxes c.args.p.now.of)
    (codes ",\"level\":" ++ signed_decimal c.args.p.now.level ++ codes "}") _ _ _ _ _ _ _ _
    (c.in_ok-write.ensures.bytes ∙ ap (λ n. string_bytes c.args.out.now ++ (codes "{\"step\":" ++ decimal n ++ codes ",\"context\":")) c.number-number.ensures)
    c.in_ok-push_quoted.ensures c.in_ok-push_str.ensures.bytes c.in_ok-push_quoted-2.ensures c.in_ok-push_str-2.ensures.bytes c.in_ok-push_quoted-3.ensures
    (e ∙ ap (λ t. string_bytes c.push_quoted-3.new.out ++ t) (simp (to_z-of_z, append_assoc))))
    c.write-2.ensures.bytes
