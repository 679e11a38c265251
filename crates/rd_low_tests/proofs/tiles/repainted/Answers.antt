use Rattle.std.proofs.Common.{◌≤◌, ◌-◌, ◌∙◌, ℕ, sym, arith}
use Rattle.rd_low_tests.proofs.tiles.repainted.Goals as goal

few : (n m : ℕ) → n ≤ 1 → n - 1 ≤ m
few n m h = omega (arith, h)

pub repaint_tiles-requires-clause-area : goal.repaint_tiles-requires-clause-area
repaint_tiles-requires-clause-area g c = c.area-some.ensures ∙ sym c.requires

pub repaint_tiles-requires-clause-deep : goal.repaint_tiles-requires-clause-deep
repaint_tiles-requires-clause-deep g c = few _ _ (rw c.view.ensures c.list_of-list.ensures)

pub repaint_tiles-requires-clause-size : goal.repaint_tiles-requires-clause-size
repaint_tiles-requires-clause-size g c = let k = rw c.expect-buffers.ensures at c.new.ensures in rw k (sym c.requires)
