use Rattle.std.proofs.Common.{◌≤◌, length, drop}
use Rattle.rd_list.specs.Chunks.{Covers, IsAt}
use Rattle.rd_merge.specs.Internal.Passes.{IsNoted}
use Rattle.rd_merge.proofs.looking.look.Given as goal

abbrev pub invariant-loop-i : goal.invariant-loop-i
invariant-loop-i g l = record {
  at : IsAt l.level.blocks.now l.i l.place;
  within : l.place ≤ length l.level.entries.now;
  ahead : Covers (drop l.i l.level.blocks.now) (drop l.place l.level.entries.now);
  noted : IsNoted (g.T.Touches.is_touched l.tree) l.pass l.place l.notes;
}
