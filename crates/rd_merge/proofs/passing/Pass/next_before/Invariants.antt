use Rattle.std.proofs.Common.{◌≤◌, ◌-◌}
use Rattle.rd_merge.specs.Internal.Looks.{NothingNoted}
use Rattle.rd_merge.proofs.passing.Pass.next_before.Given as goal

abbrev pub decreases-loop-place : goal.decreases-loop-place
decreases-loop-place g l = l.end - l.place

abbrev pub invariant-loop-place : goal.invariant-loop-place
invariant-loop-place g l = record {
  after : l.from ≤ l.place;
  end : l.place ≤ l.end;
  nothing : NothingNoted (g.T.Touches.is_touched l.self.tree.now) l.self.entries.now l.self.names.now l.from l.place;
}

abbrev pub decreases-loop-place-2 : goal.decreases-loop-place-2
decreases-loop-place-2 g l = l.end - l.place

abbrev pub invariant-loop-place-2 : goal.invariant-loop-place-2
invariant-loop-place-2 g l = record {
  after : l.from ≤ l.place;
  end : l.place ≤ l.end;
  nothing : NothingNoted (g.T.Touches.is_touched l.self.tree.now) l.self.entries.now l.self.names.now l.from l.place;
}
