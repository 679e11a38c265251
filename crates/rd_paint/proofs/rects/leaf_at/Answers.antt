use Rattle.std.proofs.Common.{◌∙◌, ap}
use Rattle.rd_paint.specs.Internal.Picks.{entry_at, picked}
use Rattle.rd_paint.proofs.Picking.{entry_at-shown, entry_at-leaf, some_by}
use Rattle.rd_paint.proofs.rects.leaf_at.Goals as goal

pub returns-then-index-entries : goal.returns-then-index-entries
returns-then-index-entries g c =
    some_by _ _ c.leaf_of.result
    (λ i h own. entry_at-shown (picked own) c.args.entries.now c.args.place c.index-entries-index.result c.if-index-entries.true c.index-entries-index.is ∙ ap (λ es. entry_at (picked own) 0 es) h ∙ entry_at-leaf (picked own) i.now.leaf) c.leaf_of.ensures
