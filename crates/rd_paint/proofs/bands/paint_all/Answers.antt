use Rattle.std.proofs.Common.{◌≤◌, ◌-◌, List, length, take, ap, ◌∙◌, sym, subst, arith}
use Rattle.std.proofs.lemmas.Int.{ints}
use Rattle.std.proofs.Math.Nat.{mul-le-mul_left}
use Rattle.rd_geom.specs.declared.rect.Size.{Size}
use Rattle.rd_list.specs.Displayed.{shown}
use Rattle.rd_list.specs.KeptView.{kept_entries}
use Rattle.rd_list.specs.Views.{levels}
use Rattle.rd_paint.specs.Internal.Picks.{InAreaWithin, SameWhere, picked}
use Rattle.rd_paint.specs.declared.frame.Frame.{Frame}
use Rattle.rd_paint.specs.declared.picks.Pick.{Pick}
use Rattle.rd_paint.proofs.Depths.{levels_by, levels-leaves, rows_opened}
use Rattle.rd_paint.proofs.Framing.{frame_painted}
use Rattle.rd_paint.proofs.bands.paint_all.Goals as goal

pub paint_band-requires-clause-rows : goal.paint_band-requires-clause-rows
paint_band-requires-clause-rows g c =
    let front = c.split_at_mut-own.ensures.front ∙ ap (take c.in-Some.count) c.deref_mut.ensures.value in
    let own = ap (λ (ps : List Pick). picked ps (shown c.args.level.entries.now)) front in
    let fewer = levels_by _ _ own in
    let all = levels-leaves (kept_entries c.args.level.entries.now) in
    let l : levels (picked c.split_at_mut-own.result.0.now (shown c.args.level.entries.now)) - 1 ≤ levels (kept_entries c.args.level.entries.now) - 1 = omega (arith, fewer, all, c.in-Some.ensures.levels) in
    let p = mul-le-mul_left c.args.canvas.now.width l in
    let width = ap (λ (s : Size). s.w) c.size-size.ensures.value in
    let made = ap length c.deref_mut-2.ensures.value in
    let opened = rows_opened _ c.args.canvas.now.width (levels (picked c.split_at_mut-own.result.0.now (shown c.args.level.entries.now)) - 1) _ _ (omega (arith, ints, width)) (c.open_for.ensures.long (shown c.args.level.entries.now)) (omega (arith, p, c.requires.rows)) in
    omega (arith, opened, made)

pub returns-clause-painted : goal.returns-clause-painted
returns-clause-painted g c = λ t.
    let w = ap (λ (s : Size). s.w) c.size-size.ensures.value in
    let h = ap (λ (s : Size). s.h) c.size-size.ensures.value in
    let left = ap (λ (f : Frame). f.left) c.frame-whole.ensures in
    let right = ap (λ (f : Frame). f.right) c.frame-whole.ensures in
    let top = ap (λ (f : Frame). f.top) c.frame-whole.ensures in
    let bottom = ap (λ (f : Frame). f.bottom) c.frame-whole.ensures in
    frame_painted c.args.window.corner (shown c.args.level.entries.now) (picked c.split_at_mut-own.result.0.now (shown c.args.level.entries.now)) c.args.window.area.now c.frame-whole.result c.frame_of-frame.result c.columns.result c.rows.result c.args.canvas.now c.paint_band.new.canvas
    left (omega (arith, ints, right, w)) top (omega (arith, ints, bottom, h)) c.frame_of-frame.ensures c.columns.ensures c.rows.ensures
    (subst (λ (ps : List Pick). SameWhere (InAreaWithin c.args.window.area.now c.columns.result c.rows.result) (picked ps (shown c.args.level.entries.now)) (shown c.args.level.entries.now)) (sym (c.split_at_mut-own.ensures.front ∙ ap (take c.in-Some.count) c.deref_mut.ensures.value)) c.in-Some.ensures.same) c.paint_band.ensures
