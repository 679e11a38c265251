use Rattle.std.proofs.Common.{arith, rules, ◌∙◌, sym, ap, length}
use Rattle.std.proofs.lemmas.List.Elements.{All-push}
use Rattle.rd_scene.specs.Commands.{commands_from, FitsCommand}
use Rattle.rd_scene.specs.Versions.{number_of, HasCommand}
use Rattle.rd_scene.specs.Internal.Gives.{BreaksAt}
use Rattle.serde_json.specs.View.{items_view}
use Rattle.rd_scene.proofs.Each.{command_next, command_ends, commands_end}
use Rattle.rd_scene.proofs.commands.commands_of.Goals as goal

pub loop-v-preserved : goal.loop-v-preserved
loop-v-preserved c = record {
  all = rw c.in_ok-push.ensures.items (command_next c.args.version _ _ _ _ _ _ _ _ c.in-Some.ensures.steps.0 c.in_ok-push.ensures.len c.len-in-loop-v.ensures c.in_ok-command.ensures.value ∙ c.loop-v.invariant.all);
  len = omega (arith, c.in_ok-push.ensures.len, c.loop-v.invariant.len, ap length c.in-Some.ensures.steps.0);
  fits = rw c.in_ok-push.ensures.items (All-push FitsCommand _ _ c.loop-v.invariant.fits c.in_ok-command.ensures.fits);
  had = rw c.in_ok-push.ensures.items (All-push (HasCommand (number_of c.args.version)) _ _ c.loop-v.invariant.had c.in_ok-command.ensures.had);
}

pub returns-in_err-command-clause-value : goal.returns-in_err-command-clause-value
returns-in_err-command-clause-value c =
    let stop : BreaksAt c.in_err-command.field-0.0 (commands_from c.args.version 0 (items_view c.args.list.items)).first =
    command_ends c.args.version _ _ c.loop-v.commands.items c.in_err-command.field-0.0 _ _ _ (commands_from c.args.version 0 (items_view c.args.list.items)).first c.in-Some.ensures.steps.0 c.len-in-loop-v.ensures c.loop-v.invariant.all c.in_err-command.ensures.value in
    search rules

pub returns-clause-value : goal.returns-clause-value
returns-clause-value c = sym c.loop-v.invariant.all ∙ commands_end c.args.version _ c.loop-v.commands.items _ (omega (arith, c.in-None.ensures.steps.0))
