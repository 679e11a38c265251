use Rattle.std.proofs.Common.{◌≡◌, ◌<◌, ◌≤◌, ℕ, get_or}
use Rattle.rd_list.specs.EntryNames.{kept_leaves}
use Rattle.rd_tiles.specs.Internal.Changing.{IsTileRepainted}
use Rattle.rd_tiles.specs.Tiling.{met_among}
use Rattle.rd_tiles.specs.declared.tile.Tile.{Tile}
use Rattle.rd_tiles.proofs.painting.repaint_all.Given as goal

abbrev pub invariant-loop-i : goal.invariant-loop-i
invariant-loop-i g l = record {
  painted : (k : ℕ) → k < l.i → (d : Tile) → IsTileRepainted (kept_leaves l.list.list.now.entries) l.area l.number (get_or l.initial.tiles k d) (get_or l.tiles k d);
  left : (k : ℕ) → l.i ≤ k → (d : Tile) → get_or l.tiles k d ≡ get_or l.initial.tiles k d;
  count : l.count ≡ met_among l.area l.area.size l.i;
  same : l.buffers ≡ l.initial.buffers;
}
