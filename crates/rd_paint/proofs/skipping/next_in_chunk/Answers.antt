use Rattle.std.proofs.Common.{◌≡◌, ◌+◌, ℕ, arith, drop, subst, sym, take}
use Rattle.rd_list.specs.Chunks.{Tells}
use Rattle.rd_list.specs.Displayed.{shown}
use Rattle.rd_paint.specs.Internal.Picks.{InAreaWithin, ServesWhere}
use Rattle.rd_paint.proofs.Shown.Told.{told_past}
use Rattle.rd_paint.proofs.skipping.next_in_chunk.Goals as goal

pub returns-then-is_passed-clause-same : goal.returns-then-is_passed-clause-same
returns-then-is_passed-clause-same g c =
    let es = c.args.entries.now in
    let b = c.args.chunk.now in
    let same : c.args.from ≡ c.args.start = omega (arith, c.if-from-start.true) in
    let told = c.requires.told (c.is_passed.ensures.open c.if-is_passed.true) in
    subst (λ (s : ℕ). ServesWhere (InAreaWithin c.args.sight.area.now c.args.sight.columns c.args.sight.rows) (shown (drop (s + b.count) es)) (shown (drop c.args.from es))) same
    (told_past (InAreaWithin c.args.sight.area.now c.args.sight.columns c.args.sight.rows) c.args.sight.area.now (λ x y h. h.0) es b c.args.from c.args.sight.since
    c.requires.since (subst (λ (s : ℕ). Tells b (take b.count (drop s es))) (sym same) told) (c.is_passed.ensures.unseen c.if-is_passed.true))
