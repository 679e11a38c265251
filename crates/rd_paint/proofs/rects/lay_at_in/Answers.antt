use Rattle.std.proofs.Common.{sym}
use Rattle.rd_paint.specs.Internal.Picks.{picked}
use Rattle.rd_paint.proofs.Changing.{laid_as, laid_nil}
use Rattle.rd_paint.proofs.Depths.{rows_same}
use Rattle.rd_paint.proofs.Picking.{entry_at-shown, entry_at-past}
use Rattle.rd_paint.proofs.rects.lay_at_in.Goals as goal

pub lay_pick_in-requires-clause-rows : goal.lay_pick_in-requires-clause-rows
lay_pick_in-requires-clause-rows g c =
    let e = entry_at-shown (picked c.args.own.now) c.args.entries.now c.args.place c.index-entries-index.result c.if-index-entries.true c.index-entries-index.is in
    rows_same c.args.canvas.now.width _ _ _ e c.requires.rows

pub returns-then-index-entries : goal.returns-then-index-entries
returns-then-index-entries g c =
    laid_as c.args.rect.strip.corner _ _ c.args.rect.span c.args.rect.strip.y0 c.args.rect.strip.y1 c.args.canvas.now c.lay_pick_in.new.canvas
    (sym (entry_at-shown (picked c.args.own.now) c.args.entries.now c.args.place c.index-entries-index.result c.if-index-entries.true c.index-entries-index.is)) c.lay_pick_in.ensures

pub returns-else-index-entries : goal.returns-else-index-entries
returns-else-index-entries g c =
    laid_nil c.args.rect.strip.corner _ c.args.rect.span c.args.rect.strip.y0 c.args.rect.strip.y1 c.args.canvas.now (entry_at-past (picked c.args.own.now) c.args.entries.now c.args.place c.if-index-entries.false)
