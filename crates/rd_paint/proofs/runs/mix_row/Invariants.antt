use Rattle.std.proofs.Common.{◌≤◌, ◌-◌, length, get_or}
use Rattle.rd_geom.specs.Blends.{blended}
use Rattle.rd_geom.specs.Colors.{scaled, clear}
use Rattle.rd_paint.proofs.Places.{IsDone}
use Rattle.rd_paint.proofs.runs.mix_row.Given as goal

abbrev pub invariant-loop-from : goal.invariant-loop-from
invariant-loop-from l = record {
  at : l.from ≤ length l.out;
  done : IsDone (λ k p. blended l.blend (scaled (get_or l.row k clear) l.opacity) p) l.initial.out l.out l.from;
}

abbrev pub decreases-loop-from : goal.decreases-loop-from
decreases-loop-from l = length l.out - l.from
