use Rattle.std.proofs.Common.{arith}
use Rattle.rd_list.proofs.Blocking.{at_first}
use Rattle.rd_list.proofs.seeking.within_block.Goals as goal

pub overflow_mul-result : goal.overflow_mul-result
overflow_mul-result c =
    let at = at_first c.args.chunks.now.blocks.items c.args.chunks.now.chunks.items c.args.block.at c.args.block.start c.requires.eights c.requires.block in
    let ok = c.args.chunks.now.chunks.ok in
    let small = c.args.chunks.now.chunks.small in
    let few = at.0 in
    omega (arith, few, ok.0, ok.1, small)

pub returns : goal.returns
returns c = at_first c.args.chunks.now.blocks.items c.args.chunks.now.chunks.items c.args.block.at c.args.block.start c.requires.eights c.requires.block
