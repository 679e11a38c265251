use Rattle.std.proofs.Common.{arith, FitsSigned, w32, rules}
use Rattle.std.proofs.lemmas.Int.{to_z-of_z}
use Rattle.rd_list.specs.Lists as lists
use Rattle.rd_wire.proofs.Naming.{size_at}
use Rattle.rd_wire.proofs.Showing.{hits_more}
use Rattle.rd_wire.proofs.shows.+hits.Goals as goal

pub hit_among-hit_at-found-requires : goal.hit_among-hit_at-found-requires
hit_among-hit_at-found-requires t c = (omega (arith, size_at c.args.entries.now c.loop-entry.entry-index c.entry-item.result c.loop-entry-test.true c.entry-item.is, c.decreases), tt)

pub hit_among-loop-entry-preserved : goal.hit_among-loop-entry-preserved
hit_among-loop-entry-preserved t c =
    let fx : FitsSigned w32 c.args.x = search rules in
    let fy : FitsSigned w32 c.args.y = search rules in
    let before = simp to_z-of_z at c.loop-entry.invariant in
    let after = simp to_z-of_z at c.hit_at-found.ensures in
    simp to_z-of_z (hits_more (lists.is_hit c.args.x c.args.y) c.args.entries.now c.loop-entry.entry-index c.entry-item.result _ _ _ c.loop-entry-test.true c.entry-item.is before after)
