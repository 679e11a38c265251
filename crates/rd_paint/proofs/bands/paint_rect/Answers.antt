use Rattle.std.proofs.Common.{◌≡◌, ◌+ℤ◌, ◌∙◌, pos, sym, ap, List, drop, arith, FitsSigned, w32, to_z, rules}
use Rattle.std.specs.Prelude.{unsigned_abs}
use Rattle.std.proofs.lemmas.Int.{to_z-of_z, ints}
use Rattle.std.proofs.lemmas.List.{take_rest}
use Rattle.rd_geom.specs.Colors.{white}
use Rattle.rd_list.specs.Displayed.{shown}
use Rattle.rd_list.specs.Lists.{composed}
use Rattle.rd_paint.specs.Internal.Picks.{picked}
use Rattle.rd_paint.specs.declared.picks.Pick.{Pick}
use Rattle.rd_paint.proofs.Changing.{Change, rect_hidden, rect_then, laid_as}
use Rattle.rd_paint.proofs.Strips.{rect_still}
use Rattle.rd_paint.proofs.bands.paint_rect.Goals as goal

pub lay_picks_in-requires-in-None-clause-on : goal.lay_picks_in-requires-in-None-clause-on
lay_picks_in-requires-in-None-clause-on g c = rect_still c.args.canvas.now c.whiten.new.canvas c.args.rect c.whiten.ensures.width c.whiten.ensures.height c.requires.on

abbrev made : Change
made x y p = white

pub returns-in-Some : goal.returns-in-Some
returns-in-Some g c =
    let e0 : to_z w32 c.args.rect.strip.y0 ≡ pos c.args.rect.strip.y0 = omega (arith, ints) in
    let e1 : to_z w32 c.args.rect.strip.y1 ≡ pos c.args.rect.strip.y1 = omega (arith, ints) in
    let ex : c.args.rect.span.x0 ≡ pos (unsigned_abs c.args.rect.span.x0) = omega (arith, ints) in
    let f0 : FitsSigned w32 c.args.rect.span.x0 = search rules in
    let f1 : FitsSigned w32 c.args.rect.span.x1 = search rules in
    let hides = simp to_z-of_z at (rw (e0, e1) at c.in-Some.ensures.hides) in
    let e = take_rest c.args.picks.now c.in-Some.i in
    rect_hidden c.args.rect.strip.corner (picked (drop c.in-Some.i c.args.picks.now) (shown c.args.entries.now)) (picked c.args.picks.now (shown c.args.entries.now)) c.args.rect.span c.args.rect.strip.y0 c.args.rect.strip.y1 (unsigned_abs c.args.rect.span.x0) (unsigned_abs c.args.rect.span.x1) c.args.canvas.now c.lay_picks_in.new.canvas ex (omega (arith, ints))
    (λ k y d q l a b. ap (λ z. composed (z +ℤ pos k) y d (picked (drop c.in-Some.i c.args.picks.now) (shown c.args.entries.now))) (sym ex) ∙ hides k y d q (omega (arith, ints, l)) a b ∙ ap (λ z. composed (z +ℤ pos k) y q (picked c.args.picks.now (shown c.args.entries.now))) ex)
    (laid_as c.args.rect.strip.corner _ _ c.args.rect.span c.args.rect.strip.y0 c.args.rect.strip.y1 c.args.canvas.now c.lay_picks_in.new.canvas (ap (λ (qs : List Pick). picked qs (shown c.args.entries.now)) e) c.lay_picks_in.ensures)

pub returns-in-None : goal.returns-in-None
returns-in-None g c =
    rect_then c.args.rect.strip.corner made (λ x y p. composed (pos x) (pos y) p (picked c.args.picks.now (shown c.args.entries.now))) c.args.rect.span c.args.rect.strip.y0 c.args.rect.strip.y1 c.args.canvas.now c.whiten.new.canvas c.lay_picks_in-in-None.new.canvas c.whiten.ensures c.lay_picks_in-in-None.ensures
