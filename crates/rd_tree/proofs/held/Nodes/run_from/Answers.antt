use Rattle.std.proofs.Common.{◌≡◌, sym, subst, true}
use Rattle.std.specs.Prelude.{is_some}
use Rattle.rd_keys.specs.Arena.{value}
use Rattle.rd_tree.specs.Internal.Calm.{IsRun}
use Rattle.rd_tree.proofs.Nodes.Passing.{runs}
use Rattle.rd_tree.proofs.held.Nodes.run_from.Goals as goal

pub returns-clause-run : goal.returns-clause-run
returns-clause-run c =
    let live = subst (λ a. is_some (value a c.args.key.slot c.args.key.generation) ≡ true) (sym c.self.view_is) c.requires.live in
    let run = subst (λ s. IsRun c.self.inside.glances.rows s c.run_from.result) c.slot.ensures c.run_from.ensures.run in
    rw (← c.self.view_is) (runs c.self.inside.held c.self.inside.glances.rows c.args.key c.run_from.result c.self.invariant live run)
