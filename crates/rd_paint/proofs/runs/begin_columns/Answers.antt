use Rattle.std.proofs.Common.{FitsSigned, w32, rules, arith}
use Rattle.std.proofs.lemmas.Int.{to_z-of_z}
use Rattle.rd_paint.proofs.Pieces.{part_begun}
use Rattle.rd_paint.proofs.runs.begin_columns.Goals as goal

pub returns : goal.returns
returns c =
    let f : FitsSigned w32 c.args.x0 = search rules in
    let at = simp to_z-of_z at c.clipped-from.ensures.places in
    part_begun c.args.span c.args.px c.args.x0 _ _ _ _ _ _ c.fill.new.out c.fill-2.new.out c.fill-3.new.out c.clipped-from.ensures.order c.clipped-from.ensures.within at
    c.fill.ensures (omega (arith, c.split_at_mut-before.ensures.front_len))
    c.fill-2.ensures (omega (arith, c.split_at_mut-inside.ensures.front_len))
    c.fill-3.ensures (omega (arith, c.split_at_mut-inside.ensures.back_len, c.split_at_mut-before.ensures.back_len, c.clipped-from.ensures.order))
