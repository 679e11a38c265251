use Rattle.std.proofs.Common.{◌≡◌, ℕ, pos, ◌*◌, ◌≤◌, [], get_or, take, sum_by}
use Rattle.rd_geom.specs.Areas.{columns_in}
use Rattle.rd_area.specs.Rows.{IsRising}
use Rattle.rd_area.specs.Internal.Bands.{BeginsBand, rows_of}
use Rattle.rd_area.specs.Internal.Normal.{spans_of}
use Rattle.rd_area.proofs.rows.count.Given as goal

abbrev pub invariant-loop-i : goal.invariant-loop-i
invariant-loop-i l = record {
  begins : BeginsBand l.ends l.start l.i;
  few : l.count ≤ 4097 * l.start;
  so_far : (n : ℕ) → ((k : ℕ) → IsRising (pos 0) (pos n) (get_or (spans_of l.bands) k [])) → l.count
      ≡ sum_by (λ ss. columns_in ss n) (take l.start (rows_of l.height l.ends (spans_of l.bands)));
}
