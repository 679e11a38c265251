use Rattle.std.proofs.Common.{◌≡◌, ◌∙◌, sym, refl, Bool, true, false, not, IsTrue}
use Rattle.rd_paint.proofs.Shown.OffChunks.{off_area}
use Rattle.rd_paint.proofs.skipping.is_off.Goals as goal

not_true : (b : Bool) → IsTrue (not b) → b ≡ false
not_true true h = absurd (let no : false ≡ true = h in cc)
not_true false h = refl

pub returns-then-misses-clause-off : goal.returns-then-misses-clause-off
returns-then-misses-clause-off c = λ t x y h. c.misses.ensures c.if-misses.true x y h.1

pub returns-clause-off : goal.returns-clause-off
returns-clause-off c = λ t x y h. off_area c.args.area.now c.args.chunk.now.told.hull (sym c.meets.ensures ∙ not_true c.meets.result t) x y h.0
