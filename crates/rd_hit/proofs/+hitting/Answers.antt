use Rattle.std.proofs.Common.{◌≡◌, ◌∙◌, sym, ap, ◌+◌, ◌-◌, drop, length, None, arith, FitsSigned, w32, rules}
use Rattle.std.proofs.lemmas.Int.{to_z-of_z}
use Rattle.rd_list.specs.Lists.{hit}
use Rattle.rd_list.specs.Displayed.{shown}
use Rattle.rd_list.proofs.Viewing.{size_at}
use Rattle.rd_list.proofs.Parting.{part_size, rest_is}
use Rattle.rd_hit.proofs.Downward.{hit_down, found_above, not_some, chunk_down, chunk_below, chunk_missed, is_not}
use Rattle.rd_hit.proofs.+hitting.Goals as goal

pub topmost-topmost_in-found-requires : goal.topmost-topmost_in-found-requires
topmost-topmost_in-found-requires g t c κs within =
    let s = size_at c.args.entries.now (c.left_below-left.result - 1) c.index-entries-left.result (omega arith) c.index-entries-left.is in
    (omega (arith, s, c.decreases), within)

pub topmost-returns-then-is_some : goal.topmost-returns-then-is_some
topmost-returns-then-is_some g t c =
    let fx : FitsSigned w32 c.args.x = search rules in
    let fy : FitsSigned w32 c.args.y = search rules in
    let found = simp to_z-of_z at c.topmost_in-found.ensures in
    let none : hit (shown (drop c.left_below-left.result c.args.entries.now)) c.args.x c.args.y ≡ None =
    simp to_z-of_z at (c.left_below-left.ensures.none c.loop-left.invariant.none) in
    let e : c.left_below-left.result - 1 + 1 ≡ c.left_below-left.result = omega arith in
    let above = ap (λ i. hit (shown (drop i c.args.entries.now)) c.args.x c.args.y) e ∙ none in
    found_above c.args.x c.args.y c.args.entries.now (c.left_below-left.result - 1) c.topmost_in-found.result (hit_down c.args.x c.args.y c.args.entries.now (c.left_below-left.result - 1) c.index-entries-left.result c.topmost_in-found.result (omega arith) c.index-entries-left.is found above) (sym c.is_some.ensures ∙ c.if-is_some.true)

pub topmost-loop-left-preserved : goal.topmost-loop-left-preserved
topmost-loop-left-preserved g t c =
    let fx : FitsSigned w32 c.args.x = search rules in
    let fy : FitsSigned w32 c.args.y = search rules in
    let found = simp to_z-of_z at c.topmost_in-found.ensures in
    let none : hit (shown (drop c.left_below-left.result c.args.entries.now)) c.args.x c.args.y ≡ None =
    simp to_z-of_z at (c.left_below-left.ensures.none c.loop-left.invariant.none) in
    let e : c.left_below-left.result - 1 + 1 ≡ c.left_below-left.result = omega arith in
    let above = ap (λ i. hit (shown (drop i c.args.entries.now)) c.args.x c.args.y) e ∙ none in
    record {
      within = omega arith;
      none = simp to_z-of_z (hit_down c.args.x c.args.y c.args.entries.now (c.left_below-left.result - 1) c.index-entries-left.result c.topmost_in-found.result (omega arith) c.index-entries-left.is found above ∙ not_some c.topmost_in-found.result (sym c.is_some.ensures ∙ c.if-is_some.false));
    }

pub topmost_by-topmost-found-requires : goal.topmost_by-topmost-found-requires
topmost_by-topmost-found-requires g t c κs within =
    let s = part_size c.args.entries.now c.covered_by-end.result (length c.args.entries.now - c.covered_by-end.result) in
    (omega (arith, s, c.decreases), within)

pub topmost_by-returns-then-is_some : goal.topmost_by-returns-then-is_some
topmost_by-returns-then-is_some g t c =
    let fx : FitsSigned w32 c.args.x = search rules in
    let fy : FitsSigned w32 c.args.y = search rules in
    let found = simp to_z-of_z at c.topmost-found.ensures in
    found_above c.args.x c.args.y c.args.entries.now c.covered_by-end.result c.topmost-found.result (ap (λ es. hit (shown es) c.args.x c.args.y) (sym (rest_is c.args.entries.now c.covered_by-end.result)) ∙ sym found) (sym c.is_some.ensures ∙ c.if-is_some.true)

pub topmost_by-overflow_sub-start : goal.topmost_by-overflow_sub-start
topmost_by-overflow_sub-start g t c = (chunk_below c.args.chunks.now c.args.entries.now c.loop-number.number c.loop-number.end c.index-chunks-number.result c.requires c.loop-number-test.true c.loop-number.invariant.number c.loop-number.invariant.end c.index-chunks-number.is).0

pub topmost_by-topmost_in_chunk-found-requires : goal.topmost_by-topmost_in_chunk-found-requires
topmost_by-topmost_in_chunk-found-requires g t c κs within =
    let b = chunk_below c.args.chunks.now c.args.entries.now c.loop-number.number c.loop-number.end c.index-chunks-number.result c.requires c.loop-number-test.true c.loop-number.invariant.number c.loop-number.invariant.end c.index-chunks-number.is in
    let start = c.loop-number.end - c.index-chunks-number.result.count in
    let s = part_size c.args.entries.now start (c.loop-number.end - start) in
    (omega (arith, s, c.decreases), (within, b.2))

pub topmost_by-returns-then-is_some-2 : goal.topmost_by-returns-then-is_some-2
topmost_by-returns-then-is_some-2 g t c =
    let fx : FitsSigned w32 c.args.x = search rules in
    let fy : FitsSigned w32 c.args.y = search rules in
    let found = simp to_z-of_z at c.topmost_in_chunk-found.ensures in
    let none = simp to_z-of_z at c.loop-number.invariant.none in
    let end = c.loop-number.end in
    let start = end - c.index-chunks-number.result.count in
    found_above c.args.x c.args.y c.args.entries.now start c.topmost_in_chunk-found.result (chunk_down c.args.x c.args.y c.args.entries.now start end c.topmost_in_chunk-found.result (omega arith) c.loop-number.invariant.within found none) (sym c.is_some-in-loop-number.ensures ∙ c.if-is_some-2.true)

pub topmost_by-loop-number-preserved : goal.topmost_by-loop-number-preserved
topmost_by-loop-number-preserved g t c =
    let fx : FitsSigned w32 c.args.x = search rules in
    let fy : FitsSigned w32 c.args.y = search rules in
    let found = simp to_z-of_z at c.topmost_in_chunk-found.ensures in
    let none = simp to_z-of_z at c.loop-number.invariant.none in
    let b = chunk_below c.args.chunks.now c.args.entries.now c.loop-number.number c.loop-number.end c.index-chunks-number.result c.requires c.loop-number-test.true c.loop-number.invariant.number c.loop-number.invariant.end c.index-chunks-number.is in
    let end = c.loop-number.end in
    let start = end - c.index-chunks-number.result.count in
    let few = c.loop-number.invariant.number in
    let inside = c.loop-number.invariant.within in
    record {
      number = omega (arith, few);
      end = b.1;
      within = omega (arith, inside);
      none = simp to_z-of_z (chunk_down c.args.x c.args.y c.args.entries.now start end c.topmost_in_chunk-found.result (omega arith) inside found none ∙ not_some c.topmost_in_chunk-found.result (sym c.is_some-in-loop-number.ensures ∙ c.if-is_some-2.false));
    }

pub topmost_in_chunk-returns-then-misses : goal.topmost_in_chunk-returns-then-misses
topmost_in_chunk-returns-then-misses g t c =
    let fx : FitsSigned w32 c.args.x = search rules in
    let fy : FitsSigned w32 c.args.y = search rules in
    let e = simp to_z-of_z at c.misses.ensures in
    chunk_missed c.args.x c.args.y c.args.chunk.told.hull c.args.entries.now (c.requires (is_not c.args.chunk.is_open c.if-not-chunk.true)).0 (e c.if-misses.true)
