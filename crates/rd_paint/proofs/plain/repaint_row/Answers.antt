use Rattle.std.proofs.Common.{◌+◌, ◌∙◌, ◌∷◌, [], take, get_or, pos}
use Rattle.std.proofs.lemmas.List.{get_or_default}
use Rattle.rd_geom.specs.declared.span.Span.{Span}
use Rattle.rd_list.specs.EntryNames.{kept_leaves}
use Rattle.rd_paint.specs.Changed.{list_at}
use Rattle.rd_paint.specs.Internal.Bands.{in_row}
use Rattle.rd_paint.proofs.Changes.{changed_then}
use Rattle.rd_paint.proofs.Cutting.{row_more}
use Rattle.rd_paint.proofs.plain.repaint_row.Goals as goal

abbrev none : Span
none = record { x0 = pos 0; x1 = pos 0 }

pub loop-span-preserved : goal.loop-span-preserved
loop-span-preserved g c =
    let ss = c.args.spans.now in
    let i = c.loop-span.span-index in
    let s : Span = get_or c.args.spans.now c.loop-span.span-index none in
    record {
      painted = changed_then (list_at (kept_leaves c.args.upper.list.list.now.entries) c.args.place) (in_row c.args.place (take i ss) c.args.row) (in_row c.args.place (s ∷ []) c.args.row) (in_row c.args.place (take (i + 1) ss) c.args.row)
          c.args.canvas.now c.loop-span.canvas c.repaint_span.new.canvas
          (λ x y a b. row_more ss i s c.args.place c.args.row x y c.loop-span-test.true (get_or_default ss i none _ c.loop-span-test.true))
          c.loop-span.invariant.painted c.repaint_span.ensures.painted;
      same = c.repaint_span.ensures.same ∙ c.loop-span.invariant.same;
    }
