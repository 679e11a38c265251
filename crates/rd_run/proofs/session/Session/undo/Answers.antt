use Rattle.std.proofs.Common.{◌≡◌, refl, subst, ◌+◌, false, arith}
use Rattle.rd_run.specs.Internal.Session.{SessionState}
use Rattle.rd_run.proofs.Undoing.{none_kept}
use Rattle.rd_run.proofs.Runs.{fewer}
use Rattle.rd_run.proofs.session.Session.undo.Goals as goal

pub returns-else-self-clause-ok : goal.returns-else-self-clause-ok
returns-else-self-clause-ok g c = λ s m l sh. none_kept s c.args.self.now sh (subst (λ (y : SessionState). y.keeps ≡ false) c.self.view_is c.if-self.false) m l

pub returns-else-self-clause-count : goal.returns-else-self-clause-count
returns-else-self-clause-count g c = λ n few. fewer c.args.self.now n (n + 1) (omega arith) few

pub returns-else-self-clause-watched : goal.returns-else-self-clause-watched
returns-else-self-clause-watched g c = record { canvas = refl; paints = refl }
