use Rattle.std.proofs.Common.{◌*◌, length, drop, subst, sym, List}
use Rattle.rd_list.specs.Chunks.{Covers}
use Rattle.rd_list.specs.declared.chunks.Chunk.{Chunk}
use Rattle.rd_list.proofs.Blocking.{at_first, covers_from}
use Rattle.rd_list.proofs.blocks.Blocked.rest.Goals as goal

pub split_at-requires : goal.split_at-requires
split_at-requires g c = let l = c.args.self.now in let at = at_first l.blocks.now l.chunks.now (length l.blocks.now) c.args.start c.requires.covers.eights c.requires.at in at.0

pub returns : goal.returns
returns g c =
    let l = c.args.self.now in
    let n = length l.blocks.now * 8 in
    let at = at_first l.blocks.now l.chunks.now (length l.blocks.now) c.args.start c.requires.covers.eights c.requires.at in
    record { covers = subst (λ (cs : List Chunk). Covers cs (drop c.args.start l.entries.now)) (sym c.split_at.ensures.back) (covers_from l.chunks.now l.entries.now n c.args.start c.requires.covers.chunks at) }
