use Rattle.std.proofs.Common.{List, ℕ, subst}
use Rattle.std.specs.Prelude.{Option, IfOk}
use Rattle.rd_graph.specs.Runs.{HasLineRoom}
use Rattle.rd_merge.proofs.preparing.entry_room.Goals as goal

pub returns : goal.returns
returns g c = subst (λ (o : Option (List ℕ)). IfOk c.line_room.result (λ r. HasLineRoom o r)) c.line.ensures c.line_room.ensures
