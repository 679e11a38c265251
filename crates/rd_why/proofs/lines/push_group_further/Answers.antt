use Rattle.std.proofs.Common.{◌∙◌, ap, ◌++◌, codes, string_bytes}
use Rattle.std.proofs.lemmas.Result.{on_ok_weaker}
use Rattle.rd_list.specs.Wrappers.{Wrapper}
use Rattle.rd_why.specs.Lines.{group_further}
use Rattle.rd_why.proofs.lines.push_group_further.Goals as goal

pub returns : goal.returns
returns g c =
    on_ok_weaker c.write.result
    (λ e. e ∙ ap (λ t. string_bytes c.args.out.now ++ (codes " in that of " ++ t)) c.id_text-id.ensures ∙ ap (λ (w : Wrapper). string_bytes c.args.out.now ++ group_further c.args.tree.now.boxes w) c.g.view_is)
    c.write.ensures.bytes
