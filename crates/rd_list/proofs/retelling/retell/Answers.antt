use Rattle.std.proofs.Common.{arith}
use Rattle.rd_list.proofs.Blocking.{at_first}
use Rattle.rd_list.proofs.retelling.retell.Goals as goal

pub overflow_mul-block : goal.overflow_mul-block
overflow_mul-block g c =
    let v = c.loop-block.level.chunks in
    let few = (at_first c.loop-block.level.blocks.items v.items c.loop-block.block c.loop-block.place c.loop-block.invariant.covers.eights c.loop-block.invariant.at).0 in
    let ok = v.ok in
    let small = v.small in
    omega (arith, few, ok.0, ok.1, small)

pub retell_chunks-requires-clause-at : goal.retell_chunks-requires-clause-at
retell_chunks-requires-clause-at g c = at_first c.loop-block.level.blocks.items c.loop-block.level.chunks.items c.loop-block.block c.loop-block.place c.loop-block.invariant.covers.eights c.loop-block.invariant.at
