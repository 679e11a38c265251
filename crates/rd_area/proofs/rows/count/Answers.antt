use Rattle.std.proofs.Common.{◌≡◌, ◌<◌, ◌≤◌, ◌-◌, ◌≤ℤ◌, pos, [], length, get_or, take_all, sum_by, arith, refl, ap, ◌∙◌, rules}
use Rattle.std.proofs.lemmas.Int.{ints}
use Rattle.std.proofs.Math.Nat.{mul-le-mul_right}
use Rattle.rd_geom.specs.Areas.{columns_in}
use Rattle.rd_area.specs.Rows.{IsRising}
use Rattle.rd_area.specs.Internal.Bands.{BeginsBand, row_at, rows_of}
use Rattle.rd_area.specs.Internal.Normal.{spans_of}
use Rattle.rd_area.proofs.Spans.{at_place, rises_at}
use Rattle.rd_area.proofs.Banded.{zero_begins, next_begins, band_ends, start_to_end, band_sum, all_begun, table_length}
use Rattle.rd_area.proofs.rows.count.Goals as goal

pub loop-i-init : goal.loop-i-init
loop-i-init c = record { begins = zero_begins c.args.ends.now; few = omega arith; so_far = λ n r. refl }

pub count-requires : goal.count-requires
count-requires c = rw c.deref.ensures.value (rises_at c.args.bands.now c.loop-i.i c.index-bands-i.result (pos 4096) c.loop-i-test.true c.index-bands-i.is
    c.requires.rising)

pub overflow_sub-count : goal.overflow_sub-count
overflow_sub-count c =
    let h : c.loop-i.i < length c.args.ends.now = omega (arith, c.loop-i-test.true, c.requires.banded.count) in
    start_to_end c.args.ends.now c.loop-i.start (get_or c.args.ends.now c.loop-i.i 0) c.loop-i.i c.loop-i.invariant.begins
    (next_begins c.args.ends.now _ c.loop-i.i h (band_ends c.args.ends.now c.loop-i.i c.requires.banded.rising h) refl)

pub overflow_add-count : goal.overflow_add-count
overflow_add-count c =
    let h : c.loop-i.i < length c.args.ends.now = omega (arith, c.loop-i-test.true, c.requires.banded.count) in
    let top = c.requires.banded.within c.loop-i.i h in
    let le = start_to_end c.args.ends.now c.loop-i.start (get_or c.args.ends.now c.loop-i.i 0) c.loop-i.i c.loop-i.invariant.begins
    (next_begins c.args.ends.now _ c.loop-i.i h (band_ends c.args.ends.now c.loop-i.i c.requires.banded.rising h) refl) in
    let m : pos c.count.result ≤ℤ pos 4097 = c.count.ensures.at_most in
    let w : c.count.result ≤ 4097 = omega (arith, ints, m) in
    let p = mul-le-mul_right (get_or c.args.ends.now c.loop-i.i 0 - c.loop-i.start) w in
    omega (arith, ints, top, le, p, c.loop-i.invariant.few, c.requires.few)

pub loop-i-preserved : goal.loop-i-preserved
loop-i-preserved c =
    let h : c.loop-i.i < length c.args.ends.now = omega (arith, c.loop-i-test.true, c.requires.banded.count) in
    let next = next_begins c.args.ends.now (get_or c.args.ends.now c.loop-i.i 0) c.loop-i.i h
    (band_ends c.args.ends.now c.loop-i.i c.requires.banded.rising h) refl in
    let le = start_to_end c.args.ends.now c.loop-i.start (get_or c.args.ends.now c.loop-i.i 0) c.loop-i.i c.loop-i.invariant.begins next in
    record {
      begins = next;
      few =
          let m : pos c.count.result ≤ℤ pos 4097 = c.count.ensures.at_most in
          let w : c.count.result ≤ 4097 = omega (arith, ints, m) in
          let p = mul-le-mul_right (get_or c.args.ends.now c.loop-i.i 0 - c.loop-i.start) w in
          omega (arith, le, p, c.loop-i.invariant.few);
      so_far = λ n r.
          let rising : IsRising (pos 0) (pos n) c.index-bands-i.result.items =
          rises_at c.args.bands.now c.loop-i.i c.index-bands-i.result (pos n) c.loop-i-test.true c.index-bands-i.is r in
          let this : c.count.result ≡ columns_in c.index-bands-i.result.items n = rw c.deref.ensures.value at c.count.ensures.value n rising in
          let place : get_or (spans_of c.args.bands.now) c.loop-i.i [] ≡ c.index-bands-i.result.items =
          at_place (λ v. v.items) [] c.args.bands.now c.loop-i.i c.index-bands-i.result c.loop-i-test.true c.index-bands-i.is in
          let more = band_sum (λ ss. columns_in ss n) c.args.height c.args.ends.now (spans_of c.args.bands.now) _ c.loop-i.start c.loop-i.i c.requires.banded h
          c.loop-i.invariant.begins in
          let more' = rw (place, ← this) at more in
          omega (arith, more', c.loop-i.invariant.so_far n r);
    }

pub returns : goal.returns
returns c = λ n r.
    let s : c.loop-i.i ≡ length c.args.bands.now = search rules in
    let b : BeginsBand c.args.ends.now c.loop-i.start (length c.args.bands.now) = rw (← s) c.loop-i.invariant.begins in
    let top = all_begun c.args.height c.args.ends.now (length c.args.bands.now) c.loop-i.start c.requires.banded b in
    let size = table_length c.args.height (row_at c.args.ends.now (spans_of c.args.bands.now)) in
    let all = take_all c.loop-i.start (rows_of c.args.height c.args.ends.now (spans_of c.args.bands.now)) (omega (arith, size, top)) in
    c.loop-i.invariant.so_far n r ∙ ap (λ rows. sum_by (λ ss. columns_in ss n) rows) all
