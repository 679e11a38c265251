use Rattle.std.proofs.Common.{◌+◌, refl, rules, arith}
use Rattle.rd_list.proofs.Admitting.{found_told}
use Rattle.rd_list.proofs.Covering.{at_next}
use Rattle.rd_paint.specs.Internal.Picks.{InAreaWithin}
use Rattle.rd_paint.proofs.Shown.Passing.{past_more}
use Rattle.rd_paint.proofs.skipping.next_within.Goals as goal

pub overflow_add-end : goal.overflow_add-end
overflow_add-end g c =
    let l = (found_told c.args.level.chunks.now c.args.level.entries.now c.loop-now.now.at c.loop-now.now.start c.index-chunks-now.result c.requires.covers.chunks c.loop-now.invariant.at c.loop-now-test.true c.index-chunks-now.is).0 in
    search rules

pub next_in_chunk-i-requires-clause-end : goal.next_in_chunk-i-requires-clause-end
next_in_chunk-i-requires-clause-end g c = (found_told c.args.level.chunks.now c.args.level.entries.now c.loop-now.now.at c.loop-now.now.start c.index-chunks-now.result c.requires.covers.chunks c.loop-now.invariant.at c.loop-now-test.true c.index-chunks-now.is).0

pub next_in_chunk-i-requires-clause-told : goal.next_in_chunk-i-requires-clause-told
next_in_chunk-i-requires-clause-told g c = (found_told c.args.level.chunks.now c.args.level.entries.now c.loop-now.now.at c.loop-now.now.start c.index-chunks-now.result c.requires.covers.chunks c.loop-now.invariant.at c.loop-now-test.true c.index-chunks-now.is).1

pub loop-now-preserved : goal.loop-now-preserved
loop-now-preserved g c =
    let n = c.index-chunks-now.result.count in
    let start = c.loop-now.now.start in
    let from = c.loop-now.invariant.from in
    let later = c.next_in_chunk-i.ensures.from in
    record {
      at = (at_next c.args.level.chunks.now c.loop-now.now.at start (start + n) n c.index-chunks-now.result c.loop-now-test.true c.index-chunks-now.is refl c.loop-now.invariant.at (omega arith) (omega arith)).0;
      from = omega (arith, from, later);
      within = c.next_in_chunk-i.ensures.within;
      same = past_more (InAreaWithin c.args.sight.area.now c.args.sight.columns c.args.sight.rows) c.args.level.entries.now c.args.from c.loop-now.i c.next_in_chunk-i.result c.loop-now.invariant.same c.next_in_chunk-i.ensures.same;
    }
