use Rattle.std.proofs.Common.{arith, ap, ◌∙◌}
use Rattle.std.proofs.lemmas.List.{take_all}
use Rattle.rd_list.specs.Chunks.{total}
use Rattle.rd_list.proofs.Covering.{ahead_first, total_next}
use Rattle.rd_list.proofs.chunks.covered_by.Goals as goal

pub loop-chunk-preserved : goal.loop-chunk-preserved
loop-chunk-preserved g c =
    let w = c.loop-chunk.invariant.within in
    let p = c.loop-chunk.invariant.place in
    let a = ahead_first c.args.chunks.now c.args.entries.now c.loop-chunk.chunk-index c.loop-chunk.place c.chunk-item.result c.loop-chunk-test.true c.chunk-item.is w c.loop-chunk.invariant.ahead in
    let l = a.0 in
    let n = total_next c.args.chunks.now c.loop-chunk.chunk-index c.chunk-item.result c.loop-chunk-test.true c.chunk-item.is in
    record { place = omega (arith, p, n); within = omega (arith, l, w); ahead = a.2 }

pub returns-clause-total : goal.returns-clause-total
returns-clause-total g c = c.loop-chunk.invariant.place ∙ ap total (take_all c.loop-chunk.chunk-index c.args.chunks.now c.loop-chunk-test.false)
