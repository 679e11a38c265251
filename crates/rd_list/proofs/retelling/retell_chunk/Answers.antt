use Rattle.std.proofs.Common.{◌≡◌, ◌+◌, ◌-◌, subst, take, drop, arith, rules}
use Rattle.std.specs.Prelude.{slice_set}
use Rattle.rd_list.specs.Chunks.{Tells}
use Rattle.rd_list.proofs.Admitting.{found_told}
use Rattle.rd_list.proofs.Blocking.{at_alike, at_block, counts_set, covers_set}
use Rattle.rd_list.proofs.Covering.{slice_length}
use Rattle.rd_list.proofs.retelling.retell_chunk.Goals as goal

pub overflow_add-end : goal.overflow_add-end
overflow_add-end g c =
    let l = (found_told c.args.chunks.now.items c.args.entries.now c.args.at c.args.start c.index.result.now c.requires.covers c.requires.at c.requires.some c.index.ensures).0 in
    search rules

pub offset_bounds-entries-start : goal.offset_bounds-entries-start
offset_bounds-entries-start g c =
    let l = (found_told c.args.chunks.now.items c.args.entries.now c.args.at c.args.start c.index.result.now c.requires.covers c.requires.at c.requires.some c.index.ensures).0 in
    search rules

pub slice_bounds-whole_chunk-end : goal.slice_bounds-whole_chunk-end
slice_bounds-whole_chunk-end g c =
    let l = (found_told c.args.chunks.now.items c.args.entries.now c.args.at c.args.start c.index.result.now c.requires.covers c.requires.at c.requires.some c.index.ensures).0 in
    search rules

pub returns-then-is_retold-clause-counts : goal.returns-then-is_retold-clause-counts
returns-then-is_retold-clause-counts g c =
    let b = c.index.result.now in
    let s = c.args.start in
    let l = (found_told c.args.chunks.now.items c.args.entries.now c.args.at s b c.requires.covers c.requires.at c.requires.some c.index.ensures).0 in
    let n = slice_length c.args.entries.now s (s + b.count) (omega arith) l in
    let e = c.whole_chunk.ensures.count in
    counts_set c.args.chunks.now.items c.args.at b c.whole_chunk.result c.requires.some c.index.ensures (omega (arith, e, n))

pub returns-then-is_retold-clause-at : goal.returns-then-is_retold-clause-at
returns-then-is_retold-clause-at g c =
    let bs = c.args.chunks.now.items in
    let b = c.index.result.now in
    at_alike bs (slice_set bs c.args.at c.whole_chunk.result) (c.args.at + 1) (c.args.start + b.count) (returns-then-is_retold-clause-counts g c) (at_block bs c.args.at c.args.start b c.requires.some c.index.ensures c.requires.at)

pub returns-then-is_retold-clause-within : goal.returns-then-is_retold-clause-within
returns-then-is_retold-clause-within g c = (found_told c.args.chunks.now.items c.args.entries.now c.args.at c.args.start c.index.result.now c.requires.covers c.requires.at c.requires.some c.index.ensures).0

pub returns-then-is_retold-clause-covers : goal.returns-then-is_retold-clause-covers
returns-then-is_retold-clause-covers g c =
    let bs = c.args.chunks.now.items in
    let es = c.args.entries.now in
    let b = c.index.result.now in
    let s = c.args.start in
    let new = c.whole_chunk.result in
    let l = (found_told bs es c.args.at s b c.requires.covers c.requires.at c.requires.some c.index.ensures).0 in
    let n = slice_length es s (s + b.count) (omega arith) l in
    let e = c.whole_chunk.ensures.count in
    let same : (s + b.count) - s ≡ new.count = omega (arith, e, n) in
    covers_set bs es c.args.at s b new c.requires.some c.index.ensures c.requires.at (omega (arith, same))
    (λ f. subst (λ j. Tells new (take j (drop s es))) same (c.whole_chunk.ensures.told f)) c.requires.covers

pub returns-else-is_retold-clause-at : goal.returns-else-is_retold-clause-at
returns-else-is_retold-clause-at g c = at_block c.args.chunks.now.items c.args.at c.args.start c.index.result.now c.requires.some c.index.ensures c.requires.at

pub returns-else-is_retold-clause-within : goal.returns-else-is_retold-clause-within
returns-else-is_retold-clause-within g c = (found_told c.args.chunks.now.items c.args.entries.now c.args.at c.args.start c.index.result.now c.requires.covers c.requires.at c.requires.some c.index.ensures).0
