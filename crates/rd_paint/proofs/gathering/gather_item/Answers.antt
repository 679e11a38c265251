use Rattle.std.proofs.Common.{refl, sym, ◌∙◌, []}
use Rattle.rd_list.specs.Entries.{leaf, nil}
use Rattle.rd_paint.specs.Internal.Picks.{InAreaWithin}
use Rattle.rd_paint.proofs.Picking.{closed_none, closed_one}
use Rattle.rd_paint.proofs.Shown.Showing.{leaf_named, none_named, leaf_outside}
use Rattle.rd_paint.proofs.gathering.gather_item.Goals as goal

pub returns-then-not-meets-clause-closed : goal.returns-then-not-meets-clause-closed
returns-then-not-meets-clause-closed g c = closed_none

pub returns-then-not-meets-clause-same : goal.returns-then-not-meets-clause-same
returns-then-not-meets-clause-same g c =
    none_named (InAreaWithin c.args.sight.area.now c.args.sight.columns c.args.sight.rows) c.args.place (leaf c.args.item.now.leaf nil) (leaf c.args.item.now.leaf nil)
    (λ x y d h. leaf_outside c.args.item.now.leaf c.visible.result c.args.sight.area.now c.visible.ensures.value (sym c.meets.ensures ∙ c.if-not-meets.true) x y d h.0)

pub returns-clause-closed : goal.returns-clause-closed
returns-clause-closed g c = rw c.put.ensures.written (closed_one (record { place = c.args.place; inside = 0 }) [] refl)

pub returns-clause-same : goal.returns-clause-same
returns-clause-same g c = leaf_named (InAreaWithin c.args.sight.area.now c.args.sight.columns c.args.sight.rows) c.args.place c.args.item.now.leaf _ c.put.ensures.written
