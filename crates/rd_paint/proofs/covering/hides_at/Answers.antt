use Rattle.std.proofs.Common.{FitsSigned, w32, rules}
use Rattle.std.proofs.lemmas.Int.{to_z-of_z}
use Rattle.rd_paint.specs.Internal.Picks.{picked}
use Rattle.rd_paint.proofs.Picking.{entry_at-shown}
use Rattle.rd_paint.proofs.covering.hides_at.Goals as goal

pub returns-then-index-entries : goal.returns-then-index-entries
returns-then-index-entries g c = λ t own.
    let fx : FitsSigned w32 c.args.x0 = search rules in
    let f0 : FitsSigned w32 c.args.y0 = search rules in
    let f1 : FitsSigned w32 c.args.y1 = search rules in
    let hides = simp to_z-of_z at c.hides.ensures in
    rw (entry_at-shown (picked own) c.args.entries.now c.args.place c.index-entries-index.result c.if-index-entries.true c.index-entries-index.is) (hides t own)
