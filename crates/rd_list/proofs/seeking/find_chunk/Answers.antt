use Rattle.std.proofs.Common.{sym, ap}
use Rattle.rd_list.specs.declared.chunks.Chunk.{Chunk}
use Rattle.rd_list.proofs.Covering.{at_next}
use Rattle.rd_list.proofs.seeking.find_chunk.Goals as goal

pub loop-now-preserved : goal.loop-now-preserved
loop-now-preserved c =
    let next = at_next c.args.chunks.now c.loop-now.now.at c.loop-now.now.start c.args.place _ c.index-chunks-now.result c.loop-now-test.true c.index-chunks-now.is (ap (λ (b : Chunk). b.count) (sym c.index-chunks-now.is)) c.loop-now.invariant.at c.loop-now.invariant.before c.if-place-now.false in
    record { at = next.0; before = next.1 }
