use Rattle.std.proofs.Common.{sym, subst, List}
use Rattle.rd_list.specs.Chunks.{Covers}
use Rattle.rd_list.specs.declared.chunks.Chunk.{Chunk}
use Rattle.rd_list.proofs.Covering.{covers_all, cover_next, slice_within}
use Rattle.rd_list.proofs.chunks.cover_on.Goals as goal

pub returns-then-not-push_chunk-clause-covers : goal.returns-then-not-push_chunk-clause-covers
returns-then-not-push_chunk-clause-covers g c =
    subst (λ (bs : List Chunk). Covers bs c.args.entries.now) (sym (c.push_chunk.ensures.full c.if-not-push_chunk.true))
    (covers_all c.loop-place.chunks.items c.loop-place.place c.args.entries.now c.loop-place.invariant.covers.0)

pub loop-place-preserved : goal.loop-place-preserved
loop-place-preserved g c = record {
  within = slice_within c.args.entries.now c.loop-place.place c.args.to c.first_chunk-chunk.result.count c.loop-place.invariant.within c.requires.to c.first_chunk-chunk.ensures.within;
  covers =
      cover_next c.loop-place.chunks.items c.push_chunk.new.chunks.items c.first_chunk-chunk.result c.args.entries.now c.loop-place.place c.args.to c.loop-place.invariant.within c.requires.to c.loop-place.invariant.covers
      c.first_chunk-chunk.ensures.within c.first_chunk-chunk.ensures.told (c.push_chunk.ensures.put c.if-not-push_chunk.false);
}

pub returns-clause-covers : goal.returns-clause-covers
returns-clause-covers g c = covers_all c.loop-place.chunks.items c.loop-place.place c.args.entries.now c.loop-place.invariant.covers.0
