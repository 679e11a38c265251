use Rattle.std.proofs.Common.{arith, subst, take, drop, ℕ}
use Rattle.rd_list.specs.Chunks.{Tells}
use Rattle.rd_list.proofs.Admitting.{found_told}
use Rattle.rd_list.proofs.seeking.chunk_at.Goals as goal

pub returns-clause-within : goal.returns-clause-within
returns-clause-within g c = λ f.
    let h = found_told c.args.chunks.now c.args.entries.now c.find_chunk-seek.result.at c.find_chunk-seek.result.start c.index-chunks-seek.result c.requires.covers c.find_chunk-seek.ensures.at c.if-seek-chunks.false c.index-chunks-seek.is in
    let l = h.0 in
    let w = c.count_in-count.ensures.whole c.if-count-whole.false in
    let s = w.0 in
    let e = c.count_in-count.ensures.in_end in
    omega (arith, l, s)

pub returns-clause-told : goal.returns-clause-told
returns-clause-told g c = λ f.
    let h = found_told c.args.chunks.now c.args.entries.now c.find_chunk-seek.result.at c.find_chunk-seek.result.start c.index-chunks-seek.result c.requires.covers c.find_chunk-seek.ensures.at c.if-seek-chunks.false c.index-chunks-seek.is in
    let w = c.count_in-count.ensures.whole c.if-count-whole.false in
    subst (λ (p : ℕ). Tells c.index-chunks-seek.result (take c.index-chunks-seek.result.count (drop p c.args.entries.now))) w.0 (h.1 f)
