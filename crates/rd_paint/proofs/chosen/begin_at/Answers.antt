use Rattle.std.proofs.Common.{FitsSigned, w32, rules}
use Rattle.std.proofs.lemmas.Int.{to_z-of_z}
use Rattle.rd_paint.specs.Internal.Picks.{picked}
use Rattle.rd_paint.proofs.Picking.{entry_at-shown}
use Rattle.rd_paint.proofs.chosen.begin_at.Goals as goal

pub returns-then-index-entries : goal.returns-then-index-entries
returns-then-index-entries g c = λ t own.
    let fx : FitsSigned w32 c.args.x0 = search rules in
    let fy : FitsSigned w32 c.args.y = search rules in
    let begun = simp to_z-of_z at c.begin_entry.ensures in
    rw (entry_at-shown (picked own) c.args.entries.now c.args.place c.index-entries-index.result c.if-index-entries.true c.index-entries-index.is) (begun t own)
