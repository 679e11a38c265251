use Rattle.std.proofs.Common.{◌≡◌, ◌+◌, ◌-◌, refl, arith, length}
use Rattle.rd_graph.proofs.LinedUp.RunLines.{lengthened}
use Rattle.rd_graph.proofs.runs.push_places.Goals as goal

pub returns-then-goes_on : goal.returns-then-goes_on
returns-then-goes_on c =
    let some = c.if-len-eq0.false in
    let size = c.len-len.ensures in
    let last : c.len-len.result - 1 + 1 ≡ length c.args.runs.now.items = omega (arith, some, size) in
    lengthened c.args.runs.now.items (c.len-len.result - 1) c.index-last.result.now c.args.place c.args.count c.args.aside last c.index-last.ensures (c.if-goes_on.ensures.next refl)
