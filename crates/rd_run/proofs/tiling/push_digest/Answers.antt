use Rattle.std.proofs.Common.{◌∙◌, ◌++◌, ap, subst, string_bytes}
use Rattle.std.proofs.lemmas.Result.{on_ok_weaker}
use Rattle.sha2.specs.Sha256.{sha256}
use Rattle.rd_keys.specs.Keys.{same_key}
use Rattle.rd_tree.specs.Forest.{IsApart}
use Rattle.rd_tree.specs.Document.{Document}
use Rattle.rd_report.specs.Summaries.{final_line}
use Rattle.rd_run.proofs.Following.{copied_picture}
use Rattle.rd_run.proofs.tiling.push_digest.Goals as goal

pub returns : goal.returns
returns g c =
    let apart = subst (λ (d : Document). IsApart same_key d.boxes) c.tree.ensures c.root-root.ensures.apart in
    let p = c.in_ok-bytes.ensures in
    let is = copied_picture c.args.engine.now c.view-list.ensures.state apart c.requires.done c.args.tiles.now c.requires.shows (p.0) p.1 in
    on_ok_weaker c.push_final.result
    (λ w. w ∙ ap (λ d. string_bytes c.args.tiles.now.text ++ final_line d) (c.digest.ensures ∙ ap sha256 (c.deref.ensures.value ∙ p.2 ∙ is)))
    c.push_final.ensures
