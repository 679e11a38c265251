use Rattle.rd_low_tests.proofs.DrawnLevels.{can_merge, held_after}
use Rattle.rd_low_tests.proofs.merge.checked.merged.Goals as goal

pub merge-requires : goal.merge-requires
merge-requires g c = can_merge _ c.args.touched.now.keys.items c.args.area.now c.args.kept c.args.spots.now c.args.next.now c.requires.held c.requires.same c.args.new c.requires.apart c.requires.new

pub returns-in-Ok : goal.returns-in-Ok
returns-in-Ok g c = held_after _ c.args.touched.now.keys.items c.args.area.now c.args.kept c.args.spots.now c.args.next.now c.requires.held c.requires.same c.args.new c.requires.apart c.requires.new c.in-Ok.kept c.requires.covers
    c.in-Ok.ensures.merged
