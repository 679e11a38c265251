use Rattle.std.proofs.Common.{◌≡◌, ◌∙◌, ◌∷◌, [], ap, pos, ◌+ℤ◌, ◌<ℤ◌, ◌≤ℤ◌, ◌≤◌, length, arith, FitsSigned, to_z, of_z, w32, rules}
use Rattle.std.specs.Prelude.{◌-ℤ◌}
use Rattle.std.specs.Int.{int_max, int_min}
use Rattle.std.proofs.lemmas.Int.{ints, clamps, to_z-of_z}
use Rattle.rd_geom.specs.Plane.{right}
use Rattle.rd_list.specs.EntryNames.{kept_leaves}
use Rattle.rd_paint.specs.Changed.{list_at}
use Rattle.rd_paint.specs.Internal.Bands.{in_row}
use Rattle.rd_paint.proofs.Casting.{diff_is, lt_from, nat_is, sum_is}
use Rattle.rd_paint.proofs.Changes.{unchanged}
use Rattle.rd_paint.proofs.Cutting.{cut_none}
use Rattle.rd_paint.proofs.CutSpans.{span_painted, span_right}
use Rattle.rd_paint.proofs.plain.repaint_span.Goals as goal

pub returns-then-x1-x0-clause-painted : goal.returns-then-x1-x0-clause-painted
returns-then-x1-x0-clause-painted g c =
    let mx = c.max-x0.ensures.value in
    let mn = c.min-x1.ensures.value in
    let w = c.requires.fits.width in
    unchanged (list_at (kept_leaves c.args.upper.list.list.now.entries) c.args.place) (in_row c.args.place (c.args.span ∷ []) c.args.row) c.args.canvas.now
    (λ x y a b. cut_none c.args.span c.args.place c.args.row x y (omega (arith, ints, clamps, mx, mn)) (omega (arith, ints, w, a)))

pub span_mut-out-requires-clause-from : goal.span_mut-out-requires-clause-from
span_mut-out-requires-clause-from g c = omega (arith, ints, clamps, c.max-x0.ensures.value, c.min-x1.ensures.value)

pub span_mut-out-requires-clause-order : goal.span_mut-out-requires-clause-order
span_mut-out-requires-clause-order g c = omega (arith, ints, clamps, c.max-x0.ensures.value, c.min-x1.ensures.value)

pub span_mut-out-requires-clause-within : goal.span_mut-out-requires-clause-within
span_mut-out-requires-clause-within g c =
    let w = c.requires.fits.width in omega (arith, ints, clamps, c.max-x0.ensures.value, c.min-x1.ensures.value, w)

pub paint_span-requires-clause-row : goal.paint_span-requires-clause-row
paint_span-requires-clause-row g c = let h = c.requires.fits.height in omega (arith, ints, h)

pub paint_span-requires-clause-right : goal.paint_span-requires-clause-right
paint_span-requires-clause-right g c =
    let f0 : FitsSigned w32 c.args.span.x0 = search rules in
    let f1 : FitsSigned w32 c.args.span.x1 = search rules in
    let fx : FitsSigned w32 c.x.result = search rules in
    let fr : FitsSigned w32 c.right.result = search rules in
    let g0 : FitsSigned w32 c.max-x0.result = search rules in
    let g1 : FitsSigned w32 c.min-x1.result = search rules in
    let f2 : FitsSigned w32 c.x-2.result = search rules in
    let f3 : FitsSigned w32 c.x-3.result = search rules in
    let mx : c.max-x0.result ≡ int_max c.args.span.x0 c.x.result = simp to_z-of_z at c.max-x0.ensures.value in
    let mn : c.min-x1.result ≡ int_min c.args.span.x1 c.right.result = simp to_z-of_z at c.min-x1.ensures.value in
    let lt : c.max-x0.result <ℤ c.min-x1.result = lt_from c.max-x0.result c.min-x1.result (simp to_z-of_z at c.if-x1-x0.false) in
    span_right c.args.span c.args.place c.max-x0.result c.min-x1.result _ c.x-2.result c.x-3.result (length c.span_mut-out.result.now) c.args.buffers.now.size
    (mx ∙ ap (int_max c.args.span.x0) c.x.ensures.value) (mn ∙ ap (int_min c.args.span.x1) c.right.ensures.value) lt c.x-2.ensures.value c.x-3.ensures.value g0 g1 f2 f3 c.requires.on c.requires.canvas c.span_mut-out.ensures.len (to_z-of_z w32 c.max-x0.result g0)

pub returns-clause-painted : goal.returns-clause-painted
returns-clause-painted g c =
    let f0 : FitsSigned w32 c.args.span.x0 = search rules in
    let f1 : FitsSigned w32 c.args.span.x1 = search rules in
    let fx : FitsSigned w32 c.x.result = search rules in
    let fr : FitsSigned w32 c.right.result = search rules in
    let g0 : FitsSigned w32 c.max-x0.result = search rules in
    let g1 : FitsSigned w32 c.min-x1.result = search rules in
    let f2 : FitsSigned w32 c.x-2.result = search rules in
    let f3 : FitsSigned w32 c.x-3.result = search rules in
    let fy : FitsSigned w32 c.y.result = search rules in
    let mx0 : c.max-x0.result ≡ int_max c.args.span.x0 c.x.result = simp to_z-of_z at c.max-x0.ensures.value in
    let mn0 : c.min-x1.result ≡ int_min c.args.span.x1 c.right.result = simp to_z-of_z at c.min-x1.ensures.value in
    let mx : c.max-x0.result ≡ int_max c.args.span.x0 c.args.place.x = mx0 ∙ ap (int_max c.args.span.x0) c.x.ensures.value in
    let mn : c.min-x1.result ≡ int_min c.args.span.x1 (right c.args.place) = mn0 ∙ ap (int_min c.args.span.x1) c.right.ensures.value in
    let lt : c.max-x0.result <ℤ c.min-x1.result = lt_from c.max-x0.result c.min-x1.result (simp to_z-of_z at c.if-x1-x0.false) in
    let o = c.requires.on in
    let k = c.requires.canvas in
    let h = c.requires.fits.height in
    let few : c.args.row ≤ 1000000000 = omega (arith, ints, h) in
    let a0 : c.args.place.x ≤ℤ c.max-x0.result = omega (arith, ints, clamps, mx) in
    let a1 : c.min-x1.result ≤ℤ right c.args.place = omega (arith, ints, clamps, mn) in
    let exa : to_z w32 (of_z w32 (to_z w32 (of_z w32 c.max-x0.result) -ℤ to_z w32 (of_z w32 c.x-2.result))) ≡ (c.max-x0.result -ℤ c.x-2.result) = diff_is c.max-x0.result c.x-2.result g0 f2 (omega (arith, ints, a0)) (omega (arith, ints, a0, a1, lt)) in
    let exb : to_z w32 (of_z w32 (to_z w32 (of_z w32 c.min-x1.result) -ℤ to_z w32 (of_z w32 c.x-3.result))) ≡ (c.min-x1.result -ℤ c.x-3.result) = diff_is c.min-x1.result c.x-3.result g1 f3 (omega (arith, ints, a0, lt)) (omega (arith, ints, a0, a1, lt)) in
    let ey : to_z w32 (of_z w32 (to_z w32 (of_z w32 c.y.result) +ℤ to_z w32 c.args.row)) ≡ (c.y.result +ℤ pos c.args.row) = sum_is c.y.result c.args.row fy (omega (arith, ints)) few (omega (arith, ints, h)) in
    let len = c.paint_span.auto.out ∙ c.span_mut-out.ensures.len in
    span_painted (kept_leaves c.args.upper.list.list.now.entries) c.args.upper.from c.args.span c.args.place c.args.row
    (to_z w32 c.args.row)
    (to_z w32 (of_z w32 (to_z w32 (of_z w32 c.max-x0.result) -ℤ to_z w32 (of_z w32 c.x-2.result))))
    (to_z w32 (of_z w32 (to_z w32 (of_z w32 c.min-x1.result) -ℤ to_z w32 (of_z w32 c.x-3.result))))
    (to_z w32 (of_z w32 c.max-x0.result))
    (to_z w32 (of_z w32 (to_z w32 (of_z w32 c.y.result) +ℤ to_z w32 c.args.row)))
    c.paint_span.new.out c.args.canvas.now _
    (c.span_mut-out.ensures.exact c.paint_span.new.out len)
    (λ k l. c.paint_span.ensures.painted k (omega (arith, c.paint_span.auto.out)))
    len c.requires.shows c.requires.fits c.requires.row
    c.max-x0.result c.min-x1.result c.x-2.result c.x-3.result c.y.result
    (nat_is c.args.row few) exa exb (to_z-of_z w32 c.max-x0.result g0) ey c.x-2.ensures.value c.x-3.ensures.value c.y.ensures.value mx mn lt
