use Rattle.std.proofs.Common.{rules, ◌≡◌, ◌∙◌, sym, ap, refl, codes, true, map, string_bytes, List, [], inl, inr, subst}
use Rattle.clap.specs.Words.{Text, fault_of, first_of, first_value, found_of, kind_of, IsAmong, is_simple, is_simple_and_free, matches_of}
use Rattle.clap.proofs.WalkLemmas.{first_value-rows}
use Rattle.clap.proofs.OnLiterals.{clap_on_literals}
use Rattle.rd_run.specs.Words as spec
use Rattle.rd_run.proofs.Reading.{formed, unformed}
use Rattle.rd_run.proofs.words.read_words.Goals as goal

simple : is_simple spec.command_line ≡ true
unfolding clap_on_literals
simple = refl

free : is_simple_and_free spec.command_line ≡ true
unfolding clap_on_literals
free = refl

pub returns-in-Ok-clause-form : goal.returns-in-Ok-clause-form
returns-in-Ok-clause-form c =
    let ws : List Text = map string_bytes c.args.words.now in
    let is = c.in_ok-command.ensures in
    let rows = (c.in-Ok.ensures.matches (ap is_simple is ∙ simple)).0 ∙ ap (λ a. matches_of a ws) is in
    let none : fault_of spec.command_line ws ≡ [] = sym (ap (λ a. fault_of a ws) is) ∙ c.in-Ok.ensures.kinds (ap is_simple_and_free is ∙ free) in
    let value : (id : Text) → first_value (found_of c.in-Ok.m) id ≡ spec.value_of id ws = λ id. first_value-rows (found_of c.in-Ok.m) id ∙ ap (first_of id) rows in
    formed ws c.form.result _ _ _ _ none
    (c.get_str.ensures ∙ value (codes "mode"))
    (c.get_str-in-Ok.ensures ∙ value (codes "seed"))
    (c.get_str-in-Ok-2.ensures ∙ value (codes "boxes"))
    (c.get_str-in-Ok-3.ensures ∙ value (codes "edits"))
    c.form.ensures.form

pub returns-clause-form : goal.returns-clause-form
returns-clause-form c =
    let ws : List Text = map string_bytes c.args.words.now in
    let is = c.in_ok-command.ensures in
    let kinds = c.in-Err.ensures.kinds (ap is_simple_and_free is ∙ free) in
    elim kinds [
      | inl e ↦ search rules
      | inr h ↦ unformed (kind_of c.in-Err.error) (fault_of spec.command_line ws) _ (subst (IsAmong (kind_of c.in-Err.error)) (ap (λ a. fault_of a ws) is) h)
    ]
