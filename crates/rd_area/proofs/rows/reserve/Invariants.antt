use Rattle.std.proofs.Common.{◌≡◌, ℕ, ◌<◌, ◌≤◌, vec_len}
use Rattle.rd_area.specs.Internal.Normal.{spans_of}
use Rattle.rd_area.specs.Internal.Room.{room_at}
use Rattle.rd_area.proofs.rows.reserve.Given as goal

abbrev pub invariant-loop-y : goal.invariant-loop-y
invariant-loop-y l = record {
  size : vec_len l.rows ≡ vec_len l.fn.rows;
  same : spans_of l.rows.items ≡ spans_of l.fn.rows.items;
  room : (y : ℕ) → l.from ≤ y → y < l.y → 0 < room_at l.rows.items y;
}
