use Rattle.std.proofs.Common.{arith}
use Rattle.rd_graph.proofs.moving.take_one.Goals as goal

pub take_at-requires-2 : goal.take_at-requires-2
take_at-requires-2 g c =
    let within = c.requires in
    let above = c.if-i-len.false in
    let first = c.len.ensures in
    let again = c.len-2.ensures in
    omega (arith, within, above, first, again)
