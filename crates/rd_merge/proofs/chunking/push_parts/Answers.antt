use Rattle.std.proofs.Common.{arith, sym, subst, List}
use Rattle.rd_list.specs.declared.chunks.Chunk.{Chunk}
use Rattle.rd_merge.specs.Internal.Moving.{PartsTo}
use Rattle.rd_merge.proofs.Parts.{parts_none, parts_next, parts_full}
use Rattle.rd_merge.proofs.chunking.push_parts.Goals as goal

pub loop-place-init : goal.loop-place-init
loop-place-init g c = record { at = c.requires.at; from = omega arith; within = c.requires.places; all = parts_none c.args.chunks.now.items c.args.entries.now c.args.from }

pub returns-then-not-push_chunk-clause-parts : goal.returns-then-not-push_chunk-clause-parts
returns-then-not-push_chunk-clause-parts g c =
    subst (λ (bs : List Chunk). PartsTo c.args.chunks.now.items bs c.args.entries.now c.args.from c.args.end) (sym (c.push_chunk.ensures.full c.if-not-push_chunk.true))
    (parts_full c.args.chunks.now.items c.loop-place.chunks.items c.args.entries.now c.args.from c.loop-place.place c.args.end c.loop-place.invariant.from c.loop-place.invariant.within c.loop-place.invariant.all)

pub loop-place-preserved : goal.loop-place-preserved
loop-place-preserved g c =
    let part = c.chunk_at-part.ensures in
    let from = c.loop-place.invariant.from in
    record {
      at = part.at;
      from = omega (arith, from);
      within = part.in_end;
      all =
          parts_next c.args.chunks.now.items c.loop-place.chunks.items c.push_chunk.new.chunks.items c.args.entries.now c.args.from c.loop-place.place c.chunk_at-part.result.chunk from c.loop-place.invariant.all part.within part.told
          (c.push_chunk.ensures.put c.if-not-push_chunk.false);
    }
