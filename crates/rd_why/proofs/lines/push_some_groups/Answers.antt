use Rattle.std.proofs.Common.{◌∙◌, ap, ◌++◌, codes, string_bytes, append_assoc}
use Rattle.std.proofs.lemmas.Result.{on_ok_weaker}
use Rattle.rd_list.specs.Wrappers.{Wrapper}
use Rattle.rd_why.specs.Lines.{some_groups}
use Rattle.rd_why.proofs.lines.push_some_groups.Goals as goal

pub returns : goal.returns
returns g c =
    on_ok_weaker c.push_groups_further.result
    (λ e. e ∙ (rw (c.in_ok-write.ensures.bytes, c.id_text-id.ensures) (simp append_assoc) ∙ ap (λ (w : Wrapper). string_bytes c.args.out.now ++ some_groups c.args.tree.now.boxes w c.args.gs.now) c.g.view_is))
    c.push_groups_further.ensures
