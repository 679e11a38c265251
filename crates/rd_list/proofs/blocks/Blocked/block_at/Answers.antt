use Rattle.std.proofs.Common.{◌≡◌, ◌*◌, ◌/◌, ◌+◌, subst, ℕ, arith}
use Rattle.std.specs.Prelude.{slice_index_or}
use Rattle.rd_list.specs.Chunks.{IsAt}
use Rattle.rd_list.proofs.Admitting.{found_told}
use Rattle.rd_list.proofs.Blocking.{at_block, at_chunk, at_first, get_own}
use Rattle.rd_list.proofs.blocks.Blocked.block_at.Given.{Over}
use Rattle.rd_list.proofs.blocks.Blocked.block_at.Goals as goal

-- so many blocks come before
at_it : (g : Over) (c : goal.After-index-self-block g) → IsAt c.args.self.now.blocks.now (c.args.next.at / 8) c.args.next.start
at_it g c =
    let l = c.args.self.now in
    let k = c.args.next.at / 8 in
    let few = c.if-block-self.false in
    let same : c.args.next.at ≡ k * 8 = omega (arith, c.if-next-ne0.false) in
    at_chunk l.blocks.now l.chunks.now k c.args.next.start c.requires.covers.eights (omega (arith, few)) (subst (λ (n : ℕ). IsAt l.chunks.now n c.args.next.start) same c.requires.at)

pub returns-clause-at : goal.returns-clause-at
returns-clause-at g c =
    let l = c.args.self.now in
    let k = c.args.next.at / 8 in
    let b = slice_index_or l.blocks.now k c.index-self-block.result in
    let is = get_own l.blocks.now k c.index-self-block.result c.if-block-self.false in
    let end = c.args.next.start + b.count in
    let same : (k + 1) * 8 ≡ c.args.next.at + 8 = omega (arith, c.if-next-ne0.false) in
    subst (λ (n : ℕ). IsAt l.chunks.now n end) same (at_first l.blocks.now l.chunks.now (k + 1) end c.requires.covers.eights (at_block l.blocks.now k c.args.next.start b c.if-block-self.false is (at_it g c)))

pub returns-clause-within : goal.returns-clause-within
returns-clause-within g c =
    let l = c.args.self.now in
    let k = c.args.next.at / 8 in
    (found_told l.blocks.now l.entries.now k c.args.next.start (slice_index_or l.blocks.now k c.index-self-block.result) c.requires.covers.blocks (at_it g c) c.if-block-self.false (get_own l.blocks.now k c.index-self-block.result c.if-block-self.false)).0

pub returns-clause-told : goal.returns-clause-told
returns-clause-told g c =
    let l = c.args.self.now in
    let k = c.args.next.at / 8 in
    (found_told l.blocks.now l.entries.now k c.args.next.start (slice_index_or l.blocks.now k c.index-self-block.result) c.requires.covers.blocks (at_it g c) c.if-block-self.false (get_own l.blocks.now k c.index-self-block.result c.if-block-self.false)).1
