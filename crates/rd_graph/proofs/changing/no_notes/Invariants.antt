use Rattle.std.proofs.Common.{◌≡◌, ℕ, [], Some, length}
use Rattle.rd_graph.specs.Internal.Words.{note_at}
use Rattle.rd_graph.proofs.changing.no_notes.Given as goal

abbrev pub invariant-loop : goal.invariant-loop
invariant-loop l = record {
  len : length l.notes.items ≡ l.counter;
  none : (i : ℕ) → note_at l.notes.items (Some i) ≡ [];
}
