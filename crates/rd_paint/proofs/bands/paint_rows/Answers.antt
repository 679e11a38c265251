use Rattle.std.proofs.Common.{rules}
use Rattle.rd_paint.proofs.Strips.{strip_part, strip_still}
use Rattle.rd_paint.proofs.bands.paint_rows.Goals as goal

pub paint_run-requires-clause-on : goal.paint_run-requires-clause-on
paint_run-requires-clause-on g c =
    let inv = c.loop-row.invariant in
    let still = strip_still c.args.canvas.now c.loop-row.canvas c.args.band.strip inv.painted.width inv.painted.height c.requires.on in
    strip_part c.loop-row.canvas c.args.band.strip c.loop-row.row c.alike_until-end.result inv.from (search rules) (search rules) still
