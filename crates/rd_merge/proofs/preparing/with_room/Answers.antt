use Rattle.std.proofs.Common.{arith}
use Rattle.rd_merge.proofs.preparing.with_room.Goals as goal

pub invariant_of-result : goal.invariant_of-result
invariant_of-result g c =
    let few = c.requires in
    let capacity = c.in_ok-made.ensures.capacity in
    (c.in_ok-made.ensures.len, omega (arith, few, capacity), c.in_ok-room.ensures, c.in_ok-parts.ensures.chunks, c.in_ok-parts.ensures.blocks, c.in_ok-chunks.ensures.chunks, c.in_ok-chunks.ensures.blocks)
