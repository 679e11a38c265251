use Rattle.std.proofs.Common.{List, ℕ, subst}
use Rattle.std.specs.Prelude.{Option, IfOk}
use Rattle.rd_graph.specs.Runs.{HasLineRoom}
use Rattle.rd_graph.proofs.making.room.Goals as goal

pub returns : goal.returns
returns c = subst (λ (o : Option (List ℕ)). IfOk c.line_room.result (λ r. HasLineRoom o r)) c.as_runs.ensures c.line_room.ensures
