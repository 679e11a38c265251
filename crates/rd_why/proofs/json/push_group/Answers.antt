use Rattle.std.proofs.Common.{◌∙◌, ap, ◌++◌, string_bytes, append_assoc}
use Rattle.std.proofs.lemmas.Result.{on_ok_weaker}
use Rattle.rd_list.specs.Wrappers.{Wrapper}
use Rattle.rd_why.specs.Json.{group_json}
use Rattle.rd_why.proofs.json.push_group.Goals as goal

pub returns : goal.returns
returns g c =
    on_ok_weaker c.write.result
    (λ e. e ∙ (rw (c.in_ok-push_quoted.ensures, c.in_ok-push_str.ensures.bytes, c.blend_name-blend.ensures) (simp append_assoc) ∙ ap (λ (w : Wrapper). string_bytes c.args.out.now ++ group_json c.args.tree.now.boxes w) c.g.view_is))
    c.write.ensures.bytes
