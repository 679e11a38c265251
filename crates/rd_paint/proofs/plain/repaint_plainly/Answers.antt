use Rattle.std.proofs.Common.{◌+◌, ◌∙◌, arith}
use Rattle.std.proofs.lemmas.Int.{ints}
use Rattle.rd_list.specs.EntryNames.{kept_leaves}
use Rattle.rd_paint.specs.Changed.{list_at}
use Rattle.rd_paint.specs.Internal.Bands.{in_row, in_rows}
use Rattle.rd_paint.proofs.Changes.{changed_then}
use Rattle.rd_paint.proofs.Cutting.{rows_more}
use Rattle.rd_paint.proofs.plain.repaint_plainly.Goals as goal

pub loop-row-preserved : goal.loop-row-preserved
loop-row-preserved g c =
    let h = c.requires.fits.height in
    let r = c.loop-row.row in
    record {
      painted = changed_then (list_at (kept_leaves c.args.list.list.now.entries) c.args.place) (in_rows c.args.place c.args.area.now r) (in_row c.args.place c.spans-spans.result.now r) (in_rows c.args.place c.args.area.now (r + 1))
          c.args.canvas.now c.loop-row.canvas c.repaint_row.new.canvas
          (λ x y a b. rows_more c.args.area.now c.args.place r x y c.spans-spans.result.now _ c.spans-spans.ensures.value (omega (arith, ints, h)))
          c.loop-row.invariant.painted c.repaint_row.ensures.painted;
      same = c.repaint_row.ensures.same ∙ c.loop-row.invariant.same;
    }
