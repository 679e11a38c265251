use Rattle.std.proofs.Common.{rules, ◌+◌, ◌*◌, ◌≤◌, ◌∷◌, [], subst, arith, length-append, All, length}
use Rattle.std.proofs.lemmas.List.Elements.{All-push}
use Rattle.rd_scene.specs.Scripts.{FitsBox, IsOfVersion}
use Rattle.rd_scene.specs.Commands.{FitsCommand}
use Rattle.rd_scene.specs.Versions.{HasBox, HasCommand}
use Rattle.rd_scene.specs.declared.script.Command.TheVariants.{Paint}
use Rattle.rd_gen.proofs.Turns.{script_of_parts}
use Rattle.rd_gen.proofs.Fitting.{boxes_fit}
use Rattle.rd_gen.proofs.FittingEdits.{commands_fit, commands_few}
use Rattle.rd_gen.proofs.Unblended.{boxes_unblended, commands_unblended}
use Rattle.rd_gen.proofs.generated.script.Goals as goal

pub invariant_of-result : goal.invariant_of-result
unfolding IsOfVersion
invariant_of-result c =
    let items = c.in_ok-push.ensures.items in
    let few : length c.in_ok-done.done.items ≤ 1 + 2 * c.args.edits = subst (λ p. length p.0 ≤ 1 + 2 * c.args.edits) c.in_ok-done.ensures (commands_few c.args.boxes c.args.edits _) in
    let fit : All FitsCommand c.in_ok-done.done.items = subst (λ p. All FitsCommand p.0) c.in_ok-done.ensures (commands_fit c.args.boxes c.args.edits _) in
    let none : All (HasCommand 1) c.in_ok-done.done.items = subst (λ p. All (HasCommand 1) p.0) c.in_ok-done.ensures (commands_unblended c.args.boxes c.args.edits _) in
    record {
      version = (omega arith, omega arith, subst (λ p. All (HasBox 1) p.0) c.in_ok-made.ensures.drawn (boxes_unblended c.args.boxes _), rw items (All-push (HasCommand 1) _ Paint none tt));
      canvas = record { some_wide = search rules; wide = search rules; some_high = search rules; high = search rules };
      some = omega (arith, c.in_ok-made.ensures.len);
      most = omega (arith, c.in_ok-made.ensures.len);
      order = c.in_ok-made.ensures.order;
      boxes = subst (λ p. All FitsBox p.0) c.in_ok-made.ensures.drawn (boxes_fit c.args.boxes _);
      few = rw items (omega (arith, length-append c.in_ok-done.done.items (Paint ∷ []), few));
      commands = rw items (All-push FitsCommand _ Paint fit tt);
    }

pub returns-clause-drawn : goal.returns-clause-drawn
returns-clause-drawn c =
    script_of_parts c.args.boxes c.args.edits c.args.seed _ _ c.in_ok-done.done.items _ _ (rw c.new-draw.ensures at c.in_ok-made.ensures.drawn) c.in_ok-done.ensures c.in_ok-push.ensures.items

pub returns-clause-rules : goal.returns-clause-rules
returns-clause-rules c = invariant_of-result c
