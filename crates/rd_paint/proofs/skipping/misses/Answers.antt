use Rattle.std.proofs.Common.{arith, FitsSigned, w32, rules}
use Rattle.std.proofs.lemmas.Int.{ints, to_z-of_z}
use Rattle.rd_paint.proofs.Shown.Showing.{right_of, left_of, below, above}
use Rattle.rd_paint.proofs.skipping.misses.Goals as goal

pub returns-then-columns-x : goal.returns-then-columns-x
returns-then-columns-x c h =
    let f : FitsSigned w32 c.args.columns.x1 = search rules in
    let g : FitsSigned w32 c.x.result = search rules in
    let t = simp to_z-of_z at c.if-columns-x.true in
    right_of c.args.r c.args.columns c.args.rows (omega (arith, ints, t, c.x.ensures.value))

pub returns-then-rows-y : goal.returns-then-rows-y
returns-then-rows-y c h =
    let f : FitsSigned w32 c.args.rows.x1 = search rules in
    let g : FitsSigned w32 c.y.result = search rules in
    let t = simp to_z-of_z at c.if-rows-y.true in
    below c.args.r c.args.columns c.args.rows (omega (arith, ints, t, c.y.ensures.value))

pub returns-then-right-columns : goal.returns-then-right-columns
returns-then-right-columns c h =
    let f : FitsSigned w32 c.args.columns.x0 = search rules in
    let g : FitsSigned w32 c.right.result = search rules in
    let t = simp to_z-of_z at c.if-right-columns.true in
    left_of c.args.r c.args.columns c.args.rows (omega (arith, ints, t, c.right.ensures.value))

pub returns : goal.returns
returns c h =
    let f : FitsSigned w32 c.args.rows.x0 = search rules in
    let g : FitsSigned w32 c.bottom.result = search rules in
    let t = simp to_z-of_z at h in
    above c.args.r c.args.columns c.args.rows (omega (arith, ints, t, c.bottom.ensures.value))
