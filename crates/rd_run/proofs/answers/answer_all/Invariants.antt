use Rattle.std.proofs.Common.{◌≡◌, ℕ, List, ◌++◌, take, string_bytes}
use Rattle.std.specs.Io.KnownBytes.{Appends}
use Rattle.rd_run.specs.Endings.{counter}
use Rattle.rd_run.specs.Machine.{State, Run}
use Rattle.rd_run.specs.Internal.Session.{Shows, IsFew, AreCounted}
use Rattle.rd_run.proofs.answers.answer_all.Given as goal

-- the text so far is allowed for the commands so far, and all of it but what is gathered went out
abbrev pub invariant-loop-command : goal.invariant-loop-command
invariant-loop-command g l = record {
  so_far : (s : State) → Shows l.fn.session s
      → (t : State) × (text : List ℕ) × Run s (take l.command-index l.commands) text t × Shows l.session t
      × AreCounted s t (counter l.fn.made l.made) (counter l.fn.looks l.looks)
      × (sent : List ℕ) × (text ≡ sent ++ string_bytes l.gathered) × Appends (g.O.Sink.written l.fn.out) (g.O.Sink.written l.out) sent;
  few : IsFew l.session l.command-index;
  faultless : g.O.Sink.faults l.out ≡ g.O.Sink.faults l.fn.out;
}
