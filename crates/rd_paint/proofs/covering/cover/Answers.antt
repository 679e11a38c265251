use Rattle.std.proofs.Common.{◌+◌, length, drop, FitsSigned, w32, rules}
use Rattle.std.proofs.lemmas.Int.{to_z-of_z}
use Rattle.rd_list.specs.Displayed.{shown}
use Rattle.rd_paint.specs.Internal.Picks.{picked, chosen}
use Rattle.rd_paint.proofs.Shown.Hiding.{upper_more, upper_levels, hidden_below}
use Rattle.rd_paint.proofs.covering.cover.Goals as goal
use Rattle.rd_paint.proofs.covering.cover.Goals.{then-hides_at, else-hides_at}

pub loop-i-preserved : goal.loop-i-preserved
loop-i-preserved g c =
    let fx : FitsSigned w32 c.args.x0 = search rules in
    let f0 : FitsSigned w32 c.args.y0 = search rules in
    let f1 : FitsSigned w32 c.args.y1 = search rules in
    let hides = simp to_z-of_z at c.hides_at.ensures in
    let parts = c.pick_at-place.ensures.parts (shown c.args.entries.now) in
    let upper = upper_more (picked (drop c.loop-i.i c.args.picks.now) (shown c.args.entries.now)) (chosen c.pick_at-place.result.1.now c.pick_at-place.result.0 (shown c.args.entries.now))
    (picked (drop (c.loop-i.i + 1 + length c.pick_at-place.result.1.now) c.args.picks.now) (shown c.args.entries.now)) (picked c.args.picks.now (shown c.args.entries.now)) c.loop-i.invariant.upper parts in
    elim c.if-hides_at.branch [
      | then-hides_at w ↦
          let hidden = hidden_below (picked (drop c.loop-i.i c.args.picks.now) (shown c.args.entries.now)) (chosen c.pick_at-place.result.1.now c.pick_at-place.result.0 (shown c.args.entries.now))
          (picked (drop (c.loop-i.i + 1 + length c.pick_at-place.result.1.now) c.args.picks.now) (shown c.args.entries.now)) (picked c.args.picks.now (shown c.args.entries.now)) c.args.y0 c.args.y1 c.args.x0 c.args.count c.loop-i.invariant.upper parts
          (hides w.if-hides_at.true c.pick_at-place.result.1.now) in
          record { at = c.pick_at-place.ensures.within; upper = upper; within = rw w.found-is c.loop-i.invariant.at; levels = rw w.found-is (upper_levels _ _ c.loop-i.invariant.upper); hides = simp to_z-of_z (rw w.found-is hidden) }
      | else-hides_at w ↦ record { at = c.pick_at-place.ensures.within; upper = upper; within = rw w.found-is c.loop-i.invariant.within; levels = rw w.found-is c.loop-i.invariant.levels; hides = rw w.found-is c.loop-i.invariant.hides }
    ]
