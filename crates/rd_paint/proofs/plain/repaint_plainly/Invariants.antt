use Rattle.std.proofs.Common.{◌≡◌}
use Rattle.rd_list.specs.EntryNames.{kept_leaves}
use Rattle.rd_paint.specs.Changed.{IsChanged, list_at}
use Rattle.rd_paint.specs.Internal.Bands.{in_rows}
use Rattle.rd_paint.proofs.plain.repaint_plainly.Given as goal

abbrev pub invariant-loop-row : goal.invariant-loop-row
invariant-loop-row g l = record {
  painted : IsChanged (list_at (kept_leaves l.list.list.now.entries) l.place) (in_rows l.place l.area l.row) l.initial.canvas l.canvas;
  same : l.buffers ≡ l.initial.buffers;
}
