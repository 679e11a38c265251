use Rattle.std.proofs.Common.{rules, ◌≡◌, ◌∙◌, ap, ap₂, codes, true}
use Rattle.std.proofs.lemmas.Result.{IfOk-weaker}
use Rattle.clap.specs.Words.{app_of, rule_of, with_rule, new_app}
use Rattle.clap.specs.Simple.{app_of_fields, on_top}
use Rattle.rd_run.specs.Words as spec
use Rattle.rd_run.proofs.words.command_line.Goals as goal

pub returns : goal.returns
returns c =
    let mode_is : rule_of c.action-mode.result ≡ spec.mode = search rules in
    let plain : app_of c.disable_version_flag.result ≡ on_top (λ s. record s { no_binary_name = true; disable_help_flag = true; disable_version_flag = true }) (new_app (codes "rd_cli")) =
    ap app_of_fields c.disable_version_flag.ensures
    ∙ ap (on_top (λ s. record s { disable_version_flag = true })) (ap app_of_fields c.disable_help_flag.ensures)
    ∙ ap (on_top (λ s. record s { disable_help_flag = true; disable_version_flag = true })) (ap app_of_fields c.no_binary_name.ensures)
    ∙ ap (on_top (λ s. record s { no_binary_name = true; disable_help_flag = true; disable_version_flag = true })) c.new-2.ensures.app in
    let one = c.in_ok-arg.ensures.shape (search rules) ∙ ap₂ with_rule plain mode_is in
    let two = c.in_ok-arg-2.ensures.shape c.option_named.ensures.local ∙ ap₂ with_rule one c.option_named.ensures.rule in
    let three = c.in_ok-arg-3.ensures.shape c.option_named-2.ensures.local ∙ ap₂ with_rule two c.option_named-2.ensures.rule in
    IfOk-weaker c.arg-4.result _ _ (λ r h. h.shape c.option_named-3.ensures.local ∙ ap₂ with_rule three c.option_named-3.ensures.rule) c.arg-4.ensures
