use Rattle.std.proofs.lemmas.Bool.{eqb-true}
use Rattle.rd_paint.specs.Internal.Picks.{InSpans}
use Rattle.rd_paint.proofs.Shown.Showing.{leaf_beside}
use Rattle.rd_paint.proofs.Shown.Transparent.{leaf_clear}
use Rattle.rd_paint.proofs.skipping.is_item_unseen.Goals as goal

pub returns-then-misses : goal.returns-then-misses
returns-then-misses g c = λ t. leaf_beside c.args.item.now.leaf c.visible.result c.args.columns c.args.rows c.visible.ensures.value (c.misses.ensures c.if-misses.true)

pub returns : goal.returns
returns g c = λ t. leaf_clear (InSpans c.args.columns c.args.rows) c.args.item.now.leaf c.color-color.result c.color-color.ensures (eqb-true c.color-color.result.a 0 t)
