use Rattle.std.proofs.Common.{arith, FitsSigned, w32, rules}
use Rattle.std.proofs.lemmas.Int.{to_z-of_z}
use Rattle.rd_wire.proofs.Naming.{size_at}
use Rattle.rd_wire.proofs.Showing.{composed_more}
use Rattle.rd_wire.proofs.shows.+composing.Goals as goal

pub compose_all-compose_one-px-requires : goal.compose_all-compose_one-px-requires
compose_all-compose_one-px-requires t c = (omega (arith, size_at c.args.entries.now c.loop-entry.entry-index c.entry-item.result c.loop-entry-test.true c.entry-item.is, c.decreases), tt)

pub compose_all-loop-entry-preserved : goal.compose_all-loop-entry-preserved
compose_all-loop-entry-preserved t c =
    let fx : FitsSigned w32 c.args.x = search rules in
    let fy : FitsSigned w32 c.args.y = search rules in
    let before = simp to_z-of_z at c.loop-entry.invariant in
    let after = simp to_z-of_z at c.compose_one-px.ensures in
    simp to_z-of_z (composed_more c.args.x c.args.y c.args.entries.now c.loop-entry.entry-index c.entry-item.result _ _ _ c.loop-entry-test.true c.entry-item.is before after)
