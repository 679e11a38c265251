use Rattle.std.proofs.Common.{◌-◌, ◌≤◌, ap, arith, FitsSigned, w32, rules}
use Rattle.std.specs.Prelude.{unsigned_abs}
use Rattle.std.proofs.lemmas.Int.{ints}
use Rattle.rd_item.specs.Items.{Made}
use Rattle.rd_keys.specs.declared.entry.EntryKey.{EntryKey}
use Rattle.rd_list.specs.EntryNames.{kept_leaves}
use Rattle.rd_list.specs.Kept.{KeptList}
use Rattle.rd_list.specs.Views.{levels}
use Rattle.rd_list.specs.Wrappers.{Wrapper}
use Rattle.rd_paint.specs.Repainted.{Scratch}
use Rattle.rd_paint.proofs.Depths.{rows_for}
use Rattle.rd_paint.proofs.Standing.{part_painted}
use Rattle.rd_paint.proofs.areas.repaint_upper.Goals as goal

pub paint_kept-requires-clause-rows : goal.paint_kept-requires-clause-rows
paint_kept-requires-clause-rows g c =
    let es = ap (λ (b : Scratch). b.size.w) c.buffers.view_is in
    let er = ap (λ (b : Scratch). b.rows) c.buffers.view_is in
    let el = ap (λ (k : KeptList EntryKey Wrapper Made). levels k.entries) c.list.ensures in
    let short : c.args.canvas.now.width ≤ unsigned_abs c.buffers.inside.size.w = omega (arith, ints, es, c.requires.fits.width, c.requires.on.left, c.requires.on.right) in
    let few : levels c.list.result.now.entries - 1 ≤ c.buffers.inside.rows = omega (arith, el, er, c.requires.deep) in
    rows_for c.args.canvas.now.width (unsigned_abs c.buffers.inside.size.w) (levels c.list.result.now.entries - 1) c.buffers.inside.rows _ short few c.buffers.invariant.1

pub returns-then-paint_kept-clause-painted : goal.returns-then-paint_kept-clause-painted
returns-then-paint_kept-clause-painted g c =
    let fx : FitsSigned w32 c.x.result = search rules in
    let fy : FitsSigned w32 c.y.result = search rules in
    part_painted _ _ c.args.place (kept_leaves c.args.upper.list.list.now.entries) (kept_leaves c.list.result.now.entries) c.args.upper.from c.args.invalid.area.now c.args.canvas.now c.paint_kept.new.canvas
    (c.paint_kept.ensures.painted c.if-paint_kept.true) (ap (λ (k : KeptList EntryKey Wrapper Made). kept_leaves k.entries) c.list.ensures)
    (omega (arith, ints, c.x.ensures.value, c.requires.on.left)) (omega (arith, ints, c.y.ensures.value, c.requires.on.top)) c.requires.shows c.requires.fits
