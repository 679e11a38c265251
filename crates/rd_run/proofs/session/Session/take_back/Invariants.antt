use Rattle.std.proofs.Common.{ℕ, ◌≤◌, take}
use Rattle.rd_run.specs.Machine.{State, TakesBack}
use Rattle.rd_run.specs.Internal.Session.{Shows, IsFew, PaintsNot}
use Rattle.rd_run.proofs.session.Session.take_back.Given as goal

-- the edits so far are done
abbrev pub invariant-loop-edit : goal.invariant-loop-edit
invariant-loop-edit g l = record {
  so_far : (s : State) → Shows l.fn.self s → (t : State) × TakesBack (take l.edit-index l.edits) l.done s t × Shows l.self t;
  few : (n : ℕ) → IsFew l.fn.self n → IsFew l.self n;
  little : l.done ≤ l.edit-index;
  still : PaintsNot l.fn.self.engine l.self.engine;
}
