use Rattle.std.proofs.Common.{◌+◌, sym, refl, length, drop, replicate, arith, FitsSigned, w32, rules}
use Rattle.std.proofs.lemmas.Int.{to_z-of_z}
use Rattle.rd_geom.specs.Colors.{clear}
use Rattle.rd_list.specs.Displayed.{shown}
use Rattle.rd_paint.specs.Internal.Picks.{chosen, picked}
use Rattle.rd_paint.proofs.Choosing.{laid_on}
use Rattle.rd_paint.proofs.Depths.{join_has, levels_by}
use Rattle.rd_paint.proofs.chosen.begin_row.Goals as goal

pub returns-then-begin_at-clause-levels : goal.returns-then-begin_at-clause-levels
returns-then-begin_at-clause-levels g c =
    let a = (join_has (chosen c.pick_at-place.result.1.now c.pick_at-place.result.0 (shown c.args.entries.now)) (picked (drop (1 + length c.pick_at-place.result.1.now) c.args.picks.now) (shown c.args.entries.now))).1 in
    let b = levels_by _ _ (sym (c.pick_at-place.ensures.parts (shown c.args.entries.now))) in
    omega (arith, a, b)

pub returns-then-begin_at-clause-laid : goal.returns-then-begin_at-clause-laid
returns-then-begin_at-clause-laid g c =
    let fx : FitsSigned w32 c.args.x0 = search rules in
    let fy : FitsSigned w32 c.args.y = search rules in
    let begun = simp to_z-of_z at c.begin_at.ensures in
    laid_on c.args.y c.args.x0 (picked c.args.picks.now (shown c.args.entries.now)) (chosen c.pick_at-place.result.1.now c.pick_at-place.result.0 (shown c.args.entries.now))
    (picked (drop (1 + length c.pick_at-place.result.1.now) c.args.picks.now) (shown c.args.entries.now)) (replicate (length c.args.row.now) clear) c.begin_at.new.row _ (c.pick_at-place.ensures.parts (shown c.args.entries.now))
    (begun c.if-begin_at.true c.pick_at-place.result.1.now) refl
