use Rattle.std.proofs.Common.{◌∙◌, ap, sym, ◌++◌, string_bytes}
use Rattle.std.proofs.lemmas.Result.{on_ok_weaker}
use Rattle.rd_why.specs.Json.{reason_json}
use Rattle.rd_why.proofs.Growing.{pushed}
use Rattle.rd_why.proofs.json.push_reason.Goals as goal

pub returns-in-Steps : goal.returns-in-Steps
returns-in-Steps g c =
    on_ok_weaker c.push_differing.result (λ e. e ∙ ap (λ r. string_bytes c.args.out.now ++ reason_json c.args.tree.now.boxes r) (sym c.in-Steps.is)) c.push_differing.ensures

pub returns-in-Levels : goal.returns-in-Levels
returns-in-Levels g c =
    on_ok_weaker c.push_differing-in-Levels.result (λ e. e ∙ ap (λ r. string_bytes c.args.out.now ++ reason_json c.args.tree.now.boxes r) (sym c.in-Levels.is)) c.push_differing-in-Levels.ensures

pub returns-in-Boxes : goal.returns-in-Boxes
returns-in-Boxes g c =
    on_ok_weaker c.push_differing-in-Boxes.result (λ e. e ∙ ap (λ r. string_bytes c.args.out.now ++ reason_json c.args.tree.now.boxes r) (sym c.in-Boxes.is)) c.push_differing-in-Boxes.ensures

pub returns-in-Inlines : goal.returns-in-Inlines
returns-in-Inlines g c =
    on_ok_weaker c.push_differing-in-Inlines.result (λ e. e ∙ ap (λ r. string_bytes c.args.out.now ++ reason_json c.args.tree.now.boxes r) (sym c.in-Inlines.is)) c.push_differing-in-Inlines.ensures

pub returns-in-Parts : goal.returns-in-Parts
returns-in-Parts g c =
    on_ok_weaker c.push_str.result (λ e. e ∙ ap (λ r. string_bytes c.args.out.now ++ reason_json c.args.tree.now.boxes r) (sym c.in-Parts.is))
    (pushed c.push_str.result _ _ _ c.push_str.ensures.bytes)
