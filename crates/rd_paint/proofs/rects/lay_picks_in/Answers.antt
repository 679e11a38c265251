use Rattle.std.proofs.Common.{◌≤◌, ◌+◌, ◌∙◌, List, length, drop, sym, ap, arith}
use Rattle.std.proofs.lemmas.List.{drop_all}
use Rattle.rd_list.specs.Displayed.{shown}
use Rattle.rd_list.specs.Views.{levels}
use Rattle.rd_paint.specs.Internal.Picks.{picked, chosen}
use Rattle.rd_paint.specs.declared.picks.Pick.{Pick}
use Rattle.rd_paint.proofs.Changing.{laid_then, laid_nil}
use Rattle.rd_paint.proofs.Depths.{join_has, levels_by, rows_by}
use Rattle.rd_paint.proofs.Picking.{picked-none}
use Rattle.rd_paint.proofs.Strips.{rect_still}
use Rattle.rd_paint.proofs.rects.lay_picks_in.Goals as goal

pub lay_at_in-requires-clause-on : goal.lay_at_in-requires-clause-on
lay_at_in-requires-clause-on g c = rect_still c.args.canvas.now c.loop-i.canvas c.args.rect c.loop-i.invariant.width c.loop-i.invariant.height c.requires.on

pub lay_at_in-requires-clause-rows : goal.lay_at_in-requires-clause-rows
lay_at_in-requires-clause-rows g c =
    let h = join_has (chosen c.pick_at-place.result.1.now c.pick_at-place.result.0 (shown c.args.entries.now)) (picked (drop (c.loop-i.i + 1 + length c.pick_at-place.result.1.now) c.args.picks.now) (shown c.args.entries.now)) in
    let a = h.0 in
    let b = levels_by _ _ (sym (c.pick_at-place.ensures.parts (shown c.args.entries.now))) in
    let l : levels (chosen c.pick_at-place.result.1.now c.pick_at-place.result.0 (shown c.args.entries.now)) ≤ levels (picked c.args.picks.now (shown c.args.entries.now)) = omega (arith, a, b, c.loop-i.invariant.levels) in
    let r = rows_by c.args.canvas.now.width (length c.args.rows.now) (chosen c.pick_at-place.result.1.now c.pick_at-place.result.0 (shown c.args.entries.now)) (picked c.args.picks.now (shown c.args.entries.now)) l c.requires.rows in
    rw (c.loop-i.invariant.width, c.loop-i.auto.rows) r

pub loop-i-preserved : goal.loop-i-preserved
loop-i-preserved g c = record {
  within = omega (arith, c.pick_at-place.ensures.within);
  width = c.lay_at_in.ensures.width ∙ c.loop-i.invariant.width;
  height = c.lay_at_in.ensures.height ∙ c.loop-i.invariant.height;
  levels =
      let h = join_has (chosen c.pick_at-place.result.1.now c.pick_at-place.result.0 (shown c.args.entries.now)) (picked (drop (c.loop-i.i + 1 + length c.pick_at-place.result.1.now) c.args.picks.now) (shown c.args.entries.now)) in
      let a = h.1 in
      let b = levels_by _ _ (sym (c.pick_at-place.ensures.parts (shown c.args.entries.now))) in
      omega (arith, a, b, c.loop-i.invariant.levels);
  laid = λ end h. c.loop-i.invariant.laid end (laid_then c.args.rect.strip.corner (chosen c.pick_at-place.result.1.now c.pick_at-place.result.0 (shown c.args.entries.now)) (picked (drop (c.loop-i.i + 1 + length c.pick_at-place.result.1.now) c.args.picks.now) (shown c.args.entries.now)) (picked (drop c.loop-i.i c.args.picks.now) (shown c.args.entries.now)) c.args.rect.span c.args.rect.strip.y0 c.args.rect.strip.y1 c.loop-i.canvas c.lay_at_in.new.canvas end
      (c.pick_at-place.ensures.parts (shown c.args.entries.now)) c.lay_at_in.ensures h);
}

pub returns : goal.returns
returns g c =
    c.loop-i.invariant.laid c.loop-i.canvas
    (laid_nil c.args.rect.strip.corner _ c.args.rect.span c.args.rect.strip.y0 c.args.rect.strip.y1 c.loop-i.canvas (ap (λ (qs : List Pick). picked qs (shown c.args.entries.now)) (drop_all c.loop-i.i c.args.picks.now c.loop-i-test.false) ∙ picked-none (shown c.args.entries.now)))
