use Rattle.std.proofs.Common.{◌≡◌, ◌≤◌, ◌∙◌, ◌*◌, ap, length, take, drop, subst, sym, List}
use Rattle.rd_list.specs.Chunks.{Covers, total}
use Rattle.rd_list.specs.declared.chunks.Chunk.{Chunk}
use Rattle.rd_list.proofs.Blocking.{at_first, covers_first, covers_from, eight_total, eight_there}
use Rattle.rd_list.proofs.blocks.Blocked.eight.Goals as goal

pub split_at-requires : goal.split_at-requires
split_at-requires g c = let l = c.args.self.now in (at_first l.blocks.now l.chunks.now c.args.block c.args.start c.requires.covers.eights c.requires.at).0

pub split_at-requires-2 : goal.split_at-requires-2
split_at-requires-2 g c = let l = c.args.self.now in subst (λ (cs : List Chunk). 8 ≤ length cs) (sym c.split_at.ensures.back) (eight_there l.blocks.now l.chunks.now c.args.block c.args.start c.requires.covers.eights c.requires.at c.requires.some)

pub returns : goal.returns
returns g c =
    let l = c.args.self.now in
    let n = c.args.block * 8 in
    let at = at_first l.blocks.now l.chunks.now c.args.block c.args.start c.requires.covers.eights c.requires.at in
    let same : c.split_at-2.result.0.now ≡ take 8 (drop n l.chunks.now) = c.split_at-2.ensures.front ∙ ap (take 8) c.split_at.ensures.back in
    record {
      covers = subst (λ (cs : List Chunk). Covers cs (drop c.args.start l.entries.now)) (sym same) (covers_first 8 (drop n l.chunks.now) (drop c.args.start l.entries.now) (covers_from l.chunks.now l.entries.now n c.args.start c.requires.covers.chunks at));
      total = λ b is. ap total same ∙ eight_total l.blocks.now l.chunks.now c.args.block c.args.start b c.requires.covers.eights c.requires.at c.requires.some is;
    }
