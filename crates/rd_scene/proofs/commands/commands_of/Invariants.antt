use Rattle.std.proofs.Common.{◌≡◌, ◌+◌, vec_len, All, length}
use Rattle.serde_json.specs.View.{items_view}
use Rattle.rd_scene.specs.Commands.{commands_from, FitsCommand}
use Rattle.rd_scene.specs.Versions.{number_of, HasCommand}
use Rattle.rd_scene.proofs.Each.{after}
use Rattle.rd_scene.proofs.commands.commands_of.Given as goal

-- the commands so far and those to come are all
abbrev pub invariant-loop-v : goal.invariant-loop-v
invariant-loop-v l = record {
  all : after l.commands.items (commands_from l.version (vec_len l.commands) (items_view l.v-iterator.rest.items)).first ≡ (commands_from l.version 0 (items_view l.fn.list.items)).first;
  len : vec_len l.commands + length l.v-iterator.rest.items ≡ length l.fn.list.items;
  fits : All FitsCommand l.commands.items;
  had : All (HasCommand (number_of l.version)) l.commands.items;
}
