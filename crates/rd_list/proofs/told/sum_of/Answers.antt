use Rattle.std.proofs.Common.{◌∙◌, ap, subst, sym, take, drop, arith, take-add, Option}
use Rattle.std.specs.Prelude.{IfSome}
use Rattle.std.proofs.lemmas.List.{take_all}
use Rattle.rd_list.specs.Chunks.{IsTold, total}
use Rattle.rd_list.specs.declared.told.ChunkBounds.{ChunkBounds}
use Rattle.rd_list.proofs.Covering.{ahead_first, total_next}
use Rattle.rd_list.proofs.told.sum_of.Goals as goal

pub loop-chunk-preserved : goal.loop-chunk-preserved
loop-chunk-preserved g c =
    let es = c.args.entries.now in
    let p = c.loop-chunk.count in
    let b = c.chunk-item.result in
    let w = c.loop-chunk.invariant.within in
    let n = c.loop-chunk.invariant.count in
    let a = ahead_first c.args.chunks.now es c.loop-chunk.chunk-index p b c.loop-chunk-test.true c.chunk-item.is w c.loop-chunk.invariant.ahead in
    let l = a.0 in
    let e = total_next c.args.chunks.now c.loop-chunk.chunk-index b c.loop-chunk-test.true c.chunk-item.is in
    record {
      count = omega (arith, n, e);
      within = omega (arith, l, w);
      ahead = a.2;
      told = subst (λ xs. IfSome c.joined_if-told.result (λ t. IsTold t xs)) (sym (take-add p b.count es)) (c.joined_if-told.ensures (take p es) (take b.count (drop p es)) c.loop-chunk.invariant.told a.1);
    }

pub returns-in-Some : goal.returns-in-Some
returns-in-Some g c = record {
  count = c.loop-chunk.invariant.count ∙ ap total (take_all c.loop-chunk.chunk-index c.args.chunks.now c.loop-chunk-test.false);
  within = c.loop-chunk.invariant.within;
  told = λ f. subst (λ (o : Option ChunkBounds). IfSome o (λ t. IsTold t (take c.loop-chunk.count c.args.entries.now))) c.in-Some.is c.loop-chunk.invariant.told;
}

pub returns-in-None-clause-count : goal.returns-in-None-clause-count
returns-in-None-clause-count g c = c.open_chunk.ensures.count ∙ c.loop-chunk.invariant.count ∙ ap total (take_all c.loop-chunk.chunk-index c.args.chunks.now c.loop-chunk-test.false)
