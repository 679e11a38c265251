use Rattle.std.proofs.Common.{◌<◌, length, rules, IsTrue}
use Rattle.rd_area.specs.Internal.Joining.{row_has}
use Rattle.rd_area.proofs.Spans.{has_more}
use Rattle.rd_area.proofs.rows.have.Goals as goal

pub loop-y-preserved : goal.loop-y-preserved
loop-y-preserved c =
    let h : c.loop-y.y < length c.args.rows.now.items = search rules in
    let t : IsTrue c.has.result = search rules in
    let n : IsTrue (row_has c.index.result.now.items c.args.span) = rw (← c.deref.ensures.value, ← c.has.ensures) t in
    has_more c.args.rows.now.items c.loop-y.y c.index.result.now c.args.from c.args.span h c.index.ensures n c.loop-y.invariant
