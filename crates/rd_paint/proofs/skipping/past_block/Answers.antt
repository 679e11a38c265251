use Rattle.std.proofs.Common.{refl}
use Rattle.rd_paint.specs.Internal.Picks.{InAreaWithin}
use Rattle.rd_paint.proofs.Shown.Passing.{past_none}
use Rattle.rd_paint.proofs.Shown.Told.{told_past}
use Rattle.rd_paint.proofs.skipping.past_block.Goals as goal

pub returns-then-not-is_passed-clause-same : goal.returns-then-not-is_passed-clause-same
returns-then-not-is_passed-clause-same g c = past_none (InAreaWithin c.args.sight.area.now c.args.sight.columns c.args.sight.rows) c.args.level.entries.now c.args.next.start c.args.next.start refl

pub returns-clause-same : goal.returns-clause-same
returns-clause-same g c =
    told_past (InAreaWithin c.args.sight.area.now c.args.sight.columns c.args.sight.rows) c.args.sight.area.now (λ x y h. h.0) c.args.level.entries.now c.in-Some.block.now c.args.next.start c.args.sight.since
    c.requires.since (c.in-Some.ensures.told (c.is_passed.ensures.open c.if-not-is_passed.false)) (c.is_passed.ensures.unseen c.if-not-is_passed.false)
