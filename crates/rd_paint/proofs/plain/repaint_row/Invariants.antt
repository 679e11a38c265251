use Rattle.std.proofs.Common.{◌≡◌, take}
use Rattle.rd_list.specs.EntryNames.{kept_leaves}
use Rattle.rd_paint.specs.Changed.{IsChanged, list_at}
use Rattle.rd_paint.specs.Internal.Bands.{in_row}
use Rattle.rd_paint.proofs.plain.repaint_row.Given as goal

abbrev pub invariant-loop-span : goal.invariant-loop-span
invariant-loop-span g l = record {
  painted : IsChanged (list_at (kept_leaves l.upper.list.list.now.entries) l.place) (in_row l.place (take l.span-index l.spans) l.row) l.initial.canvas l.canvas;
  same : l.buffers ≡ l.initial.buffers;
}
