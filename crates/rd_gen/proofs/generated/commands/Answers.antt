use Rattle.std.proofs.Common.{rules, ◌++◌, ◌∷◌, [], ap, ◌∙◌}
use Rattle.rd_scene.specs.declared.script.Command.TheVariants.{Paint}
use Rattle.rd_gen.specs.Commands.{commands}
use Rattle.rd_gen.proofs.Turns.{edit_painted, edit_unpainted}
use Rattle.rd_gen.proofs.generated.commands.Goals as goal
use Rattle.rd_gen.proofs.generated.commands.Goals.{then-j-eq9+in_ok-push-3, else-j-eq9}

pub loop-j-init : goal.loop-j-init
unfolding commands
loop-j-init c = search rules

pub loop-j-preserved : goal.loop-j-preserved
loop-j-preserved c =
    elim c.if-j-eq9.branch [
      | then-j-eq9+in_ok-push-3 w ↦ edit_painted _ _ _ _ _ _ _ _ c.loop-j.invariant c.in_ok-edit.ensures w.if-j-eq9.true
          (ap (λ v. v.items) w.commands-is ∙ w.in_ok-push-3.ensures.items ∙ ap (λ l. l ++ Paint ∷ []) c.in_ok-push-2.ensures.items)
      | else-j-eq9 w ↦ edit_unpainted _ _ _ _ _ _ _ _ c.loop-j.invariant c.in_ok-edit.ensures w.if-j-eq9.false
          (ap (λ v. v.items) w.commands-is ∙ c.in_ok-push-2.ensures.items)
    ]
