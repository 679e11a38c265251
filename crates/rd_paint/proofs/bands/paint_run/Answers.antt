use Rattle.std.proofs.Common.{pos, get_or}
use Rattle.std.proofs.lemmas.List.{get_or_default}
use Rattle.rd_geom.specs.declared.span.Span.{Span}
use Rattle.rd_list.specs.Displayed.{shown}
use Rattle.rd_paint.specs.Internal.Picks.{picked}
use Rattle.rd_paint.proofs.Changing.{run_more}
use Rattle.rd_paint.proofs.Strips.{strip_still}
use Rattle.rd_paint.proofs.bands.paint_run.Goals as goal

pub paint_span_in-requires-clause-on : goal.paint_span_in-requires-clause-on
paint_span_in-requires-clause-on g c = strip_still c.args.canvas.now c.loop-span.canvas c.args.strip c.loop-span.invariant.width c.loop-span.invariant.height c.requires.on

abbrev none : Span
none = record { x0 = pos 0; x1 = pos 0 }

pub loop-span-preserved : goal.loop-span-preserved
loop-span-preserved g c =
    run_more c.args.strip.corner (picked c.args.picks.now (shown c.args.entries.now)) c.args.spans.now c.loop-span.span-index (get_or c.args.spans.now c.loop-span.span-index none) c.args.strip.y0 c.args.strip.y1 c.args.canvas.now c.loop-span.canvas c.paint_span_in.new.canvas c.loop-span-test.true (get_or_default c.args.spans.now c.loop-span.span-index none _ c.loop-span-test.true) c.loop-span.invariant c.paint_span_in.ensures
