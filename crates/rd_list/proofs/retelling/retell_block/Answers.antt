use Rattle.std.proofs.Common.{◌+◌, ℕ, List, subst, sym, rules, arith}
use Rattle.std.specs.Prelude.{slice_set}
use Rattle.rd_list.specs.Chunks.{AreEights, counts}
use Rattle.rd_list.proofs.Admitting.{found_told}
use Rattle.rd_list.proofs.Blocking.{at_alike, at_block, at_first, counts_set, covers_set, eight_within}
use Rattle.rd_list.proofs.retelling.retell_block.Goals as goal

pub overflow_add-end : goal.overflow_add-end
overflow_add-end g c =
    let l = (found_told c.args.level.now.blocks.items c.args.entries.now c.args.block c.args.start c.index-old.result.now c.requires.covers.blocks c.requires.at c.requires.some c.index-old.ensures).0 in
    search rules

pub overflow_mul-at : goal.overflow_mul-at
overflow_mul-at g c =
    let v = c.args.level.now.chunks in
    let few = eight_within c.args.level.now.blocks.items v.items c.args.block c.args.start c.requires.covers.eights c.requires.at c.requires.some in
    let ok = v.ok in
    let small = v.small in
    omega (arith, few, ok.0, ok.1, small)

pub overflow_add-at : goal.overflow_add-at
overflow_add-at g c =
    let v = c.args.level.now.chunks in
    let few = eight_within c.args.level.now.blocks.items v.items c.args.block c.args.start c.requires.covers.eights c.requires.at c.requires.some in
    let ok = v.ok in
    let small = v.small in
    omega (arith, few, ok.0, ok.1, small)

pub retell_chunks-requires-clause-to : goal.retell_chunks-requires-clause-to
retell_chunks-requires-clause-to g c = eight_within c.args.level.now.blocks.items c.args.level.now.chunks.items c.args.block c.args.start c.requires.covers.eights c.requires.at c.requires.some

pub retell_chunks-requires-clause-at : goal.retell_chunks-requires-clause-at
retell_chunks-requires-clause-at g c = at_first c.args.level.now.blocks.items c.args.level.now.chunks.items c.args.block c.args.start c.requires.covers.eights c.requires.at

pub returns-then-not-old-clause-at : goal.returns-then-not-old-clause-at
returns-then-not-old-clause-at g c = at_block c.args.level.now.blocks.items c.args.block c.args.start c.index-old.result.now c.requires.some c.index-old.ensures c.requires.at

pub returns-clause-blocks : goal.returns-clause-blocks
returns-clause-blocks g c =
    let b = c.index-old.result.now in
    counts_set c.args.level.now.blocks.items c.args.block b c.block_told.result c.requires.some c.index-old.ensures (c.block_told.ensures.count b c.index-old.ensures)

pub returns-clause-at : goal.returns-clause-at
returns-clause-at g c =
    let bs = c.args.level.now.blocks.items in
    let b = c.index-old.result.now in
    at_alike bs (slice_set bs c.args.block c.block_told.result) (c.args.block + 1) (c.args.start + b.count) (returns-clause-blocks g c) (at_block bs c.args.block c.args.start b c.requires.some c.index-old.ensures c.requires.at)

pub returns-clause-covers : goal.returns-clause-covers
returns-clause-covers g c =
    let bs = c.args.level.now.blocks.items in
    let new = slice_set bs c.args.block c.block_told.result in
    let b = c.index-old.result.now in
    let eights : AreEights (counts new) (counts c.retell_chunks.new.chunks.items) =
    subst (λ (ms : List ℕ). AreEights ms (counts c.retell_chunks.new.chunks.items)) (sym (returns-clause-blocks g c)) (subst (λ (ns : List ℕ). AreEights (counts bs) ns) (sym c.retell_chunks.ensures.counts) c.requires.covers.eights) in
    record {
      chunks = c.retell_chunks.ensures.covers;
      blocks = covers_set bs c.args.entries.now c.args.block c.args.start b c.block_told.result c.requires.some c.index-old.ensures c.requires.at (c.block_told.ensures.count b c.index-old.ensures) c.block_told.ensures.told c.requires.covers.blocks;
      eights = eights;
    }
