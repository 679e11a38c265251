use Rattle.std.proofs.Common.{◌+◌, ◌-◌, sym, subst, arith, List}
use Rattle.rd_list.specs.Chunks.{AreEights, Covers, counts}
use Rattle.rd_list.specs.declared.chunks.Chunk.{Chunk}
use Rattle.rd_list.proofs.Covering.{covers_all, stay_next}
use Rattle.rd_list.proofs.Blocking.{at_eight, covers_eight, eights_put, few_within, put_length, told_within}
use Rattle.rd_list.proofs.blocks.push_blocks.Goals as goal

pub sum_of-block-requires : goal.sum_of-block-requires
sum_of-block-requires g c = covers_eight c.args.chunks.now c.args.entries.now c.loop-at.at c.loop-at.place ((c.loop-at.at + 8) - c.loop-at.at) c.loop-at.invariant.within c.requires.covers c.loop-at.invariant.at

pub returns-then-not-push_chunk-clause-covers : goal.returns-then-not-push_chunk-clause-covers
returns-then-not-push_chunk-clause-covers g c =
    subst (λ (bs : List Chunk). Covers bs c.args.entries.now) (sym (c.push_chunk.ensures.full c.if-not-push_chunk.true))
    (covers_all c.loop-at.blocks.items c.loop-at.place c.args.entries.now c.loop-at.invariant.covers.0)

pub returns-then-not-push_chunk-clause-eights : goal.returns-then-not-push_chunk-clause-eights
returns-then-not-push_chunk-clause-eights g c = subst (λ (bs : List Chunk). AreEights (counts bs) (counts c.args.chunks.now)) (sym (c.push_chunk.ensures.full c.if-not-push_chunk.true)) c.loop-at.invariant.eights

pub returns-clause-covers : goal.returns-clause-covers
returns-clause-covers g c = covers_all c.loop-at.blocks.items c.loop-at.place c.args.entries.now c.loop-at.invariant.covers.0

pub loop-at-preserved : goal.loop-at-preserved
loop-at-preserved g c =
    let was = c.loop-at.invariant in
    let es = c.args.entries.now in
    let at = c.loop-at.at in
    let place = c.loop-at.place in
    let block = c.sum_of-block.result in
    let sum = c.sum_of-block.ensures in
    let put = c.push_chunk.ensures.put c.if-not-push_chunk.false in
    let w = was.within in
    let few = few_within es place block.count w sum.within in
    let first = was.at.0 in
    record {
      at = at_eight c.args.chunks.now at place block.count was.at c.loop-at-test.true sum.count;
      count = put_length c.loop-at.blocks.items c.push_chunk.new.chunks.items at block was.count put;
      within = omega (arith, few, w);
      covers = stay_next c.loop-at.blocks.items c.push_chunk.new.chunks.items block es place was.covers few (told_within es place block w sum.told) put;
      eights = eights_put c.loop-at.blocks.items c.push_chunk.new.chunks.items c.args.chunks.now at block was.eights was.count first c.loop-at-test.true sum.count put;
    }
