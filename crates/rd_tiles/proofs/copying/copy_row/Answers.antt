use Rattle.std.proofs.Common.{◌≡◌, ◌∙◌, ◌+ℤ◌, ◌-◌, ◌≤◌, pos, length, ap, arith, FitsSigned, to_z, of_z, w32, rules}
use Rattle.std.specs.Prelude.{unsigned_abs}
use Rattle.std.proofs.lemmas.Int.{ints, to_z-of_z}
use Rattle.rd_paint.proofs.Casting.{sum_is}
use Rattle.rd_tiles.proofs.Spans.{row_sliced}
use Rattle.rd_tiles.proofs.copying.copy_row.Goals as goal

pub returns : goal.returns
returns c =
    let fw : FitsSigned w32 c.w-width.result = search rules in
    let fx : FitsSigned w32 c.x.result = search rules in
    let fy : FitsSigned w32 c.y.result = search rules in
    let fr : FitsSigned w32 c.right.result = search rules in
    let w = c.requires.fits.width in
    let h = c.requires.fits.height in
    let o = c.requires.on in
    let p = c.y.ensures.placed in
    let vw = c.w-width.ensures.value in
    let vx = c.x.ensures.value in
    let vy = c.y.ensures.value in
    let vr = c.right.ensures.value in
    let len = c.copy_from_slice.ensures.len ∙ c.span_mut-out.ensures.len in
    let len1 : length c.copy_from_slice.new.self ≡ unsigned_abs (to_z w32 (of_z w32 c.right.result)) - unsigned_abs (to_z w32 (of_z w32 c.x.result)) = len in
    let len2 = rw (to_z-of_z w32 c.right.result fr, to_z-of_z w32 c.x.result fx) at len1 in
    let long : length c.copy_from_slice.new.self ≡ c.args.tile.now.canvas.width = omega (arith, ints, len2, vx, vr, w) in
    let v : unsigned_abs (to_z w32 (of_z w32 c.w-width.result)) ≡ c.args.tile.now.canvas.width = ap unsigned_abs (to_z-of_z w32 c.w-width.result fw) ∙ omega (arith, ints, vw, w) in
    let few : c.args.row ≤ 1000000000 = omega (arith, ints, h, p) in
    let ey = sum_is c.y.result c.args.row fy (omega (arith, ints, vy)) few (omega (arith, ints, vy, h, p)) ∙ ap (λ z. z +ℤ pos c.args.row) vy in
    let ex = to_z-of_z w32 c.x.result fx ∙ vx in
    row_sliced c.args.tile.now c.args.row (unsigned_abs (to_z w32 (of_z w32 c.w-width.result)))
    (to_z w32 (of_z w32 (to_z w32 (of_z w32 c.y.result) +ℤ to_z w32 c.args.row)))
    (to_z w32 (of_z w32 c.x.result))
    c.pixels.result.now c.copy_from_slice.new.self c.args.canvas.now _
    (c.span_mut-out.ensures.exact c.copy_from_slice.new.self len) c.copy_from_slice.ensures.after c.pixels.ensures.value
    long c.requires.fits c.requires.on.left c.requires.on.top v ey ex
