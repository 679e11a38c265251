use Rattle.std.proofs.Common.{◌∙◌, ap, ◌+◌, ℕ, arith}
use Rattle.std.proofs.lemmas.List.{take_all}
use Rattle.rd_list.specs.Chunks.{total}
use Rattle.rd_list.proofs.Covering.{ahead_first, total_next}
use Rattle.rd_merge.proofs.passing.Pass.in_chunks.Goals as goal

pub in_chunk-requires-clause-end : goal.in_chunk-requires-clause-end
in_chunk-requires-clause-end g c =
    let a = ahead_first c.args.chunks.now c.args.self.now.entries.now c.loop-chunk.chunk-index c.loop-chunk.place c.chunk-item.result c.loop-chunk-test.true c.chunk-item.is c.loop-chunk.invariant.within c.loop-chunk.invariant.ahead in
    let l = a.0 in
    let w = c.loop-chunk.invariant.within in
    omega (arith, l, w)

pub in_chunk-requires-clause-told : goal.in_chunk-requires-clause-told
in_chunk-requires-clause-told g c =
    (ahead_first c.args.chunks.now c.args.self.now.entries.now c.loop-chunk.chunk-index c.loop-chunk.place c.chunk-item.result c.loop-chunk-test.true c.chunk-item.is c.loop-chunk.invariant.within c.loop-chunk.invariant.ahead).1

pub loop-chunk-preserved : goal.loop-chunk-preserved
loop-chunk-preserved g c =
    let a = ahead_first c.args.chunks.now c.args.self.now.entries.now c.loop-chunk.chunk-index c.loop-chunk.place c.chunk-item.result c.loop-chunk-test.true c.chunk-item.is c.loop-chunk.invariant.within c.loop-chunk.invariant.ahead in
    let l = a.0 in
    let w = c.loop-chunk.invariant.within in
    let p = c.loop-chunk.invariant.place in
    let e = total_next c.args.chunks.now c.loop-chunk.chunk-index c.chunk-item.result c.loop-chunk-test.true c.chunk-item.is in
    record { place = omega (arith, p, e); within = omega (arith, l, w); ahead = a.2; noted = c.in_ok-in_chunk.ensures }

pub returns : goal.returns
returns g c = record {
  end = c.loop-chunk.invariant.place ∙ ap (λ (n : ℕ). c.args.start + n) (ap total (take_all c.loop-chunk.chunk-index c.args.chunks.now c.loop-chunk-test.false));
  within = c.loop-chunk.invariant.within;
  noted = c.loop-chunk.invariant.noted;
}
