use Rattle.std.proofs.Common.{ℕ, arith}
use Rattle.rd_scene.specs.declared.script.Command.TheVariants.{Change}
use Rattle.rd_run.specs.Endings.{counter}
use Rattle.rd_run.specs.Machine.{State, Step}
use Rattle.rd_run.specs.Internal.Session.{Shows, MayGoOn}
use Rattle.rd_run.proofs.Editing.{edit_may}
use Rattle.rd_run.proofs.Steps.{on_err}
use Rattle.rd_run.proofs.session.Session.edit.Goals as goal

pub returns-else-self-clause-err : goal.returns-else-self-clause-err
returns-else-self-clause-err g c =
    let l : ℕ = c.args.looks.now in
    on_err {P = (s : State) → (m : ℕ) → Shows c.args.self.now s → MayGoOn (Step (Change c.args.edit.now)) (counter m m) (counter l l) s} _
    (λ s m sh. edit_may c.args.edit.now s (counter m m) (counter l l) sh.well_formed (omega arith) (omega arith))
