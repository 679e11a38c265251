use Rattle.std.proofs.Common.{◌≤◌, ◌-◌}
use Rattle.rd_merge.specs.Internal.Passes.{IsNoted}
use Rattle.rd_merge.proofs.passing.Pass.between.Given as goal

abbrev pub decreases-loop-place : goal.decreases-loop-place
decreases-loop-place g l = l.end - l.place

abbrev pub invariant-loop-place : goal.invariant-loop-place
invariant-loop-place g l = record {
  after : l.from ≤ l.place;
  end : l.place ≤ l.end;
  noted : IsNoted (g.T.Touches.is_touched l.self.tree.now) l.self l.place l.notes;
}
