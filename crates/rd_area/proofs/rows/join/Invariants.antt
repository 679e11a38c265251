use Rattle.std.proofs.Common.{◌≡◌, ℕ, ◌<◌, ◌≤◌, ◌⊎◌, [], get_or, vec_len}
use Rattle.rd_area.specs.Internal.Joining.{Joins}
use Rattle.rd_area.specs.Internal.Normal.{spans_of}
use Rattle.rd_area.specs.Internal.Room.{room_at}
use Rattle.rd_area.proofs.rows.join.Given as goal

abbrev pub invariant-loop-y : goal.invariant-loop-y
invariant-loop-y l = record {
  size : vec_len l.rows ≡ vec_len l.fn.rows;
  joined : (y : ℕ) → l.from ≤ y → y < l.y → Joins (get_or (spans_of l.fn.rows.items) y []) (get_or (spans_of l.rows.items) y []) l.span;
  others : (y : ℕ) → (y < l.from) ⊎ (l.y ≤ y) → get_or (spans_of l.rows.items) y [] ≡ get_or (spans_of l.fn.rows.items) y [];
  room : (y : ℕ) → l.y ≤ y → y < l.to → 0 < room_at l.rows.items y;
}
