use Rattle.std.proofs.Common.{refl, [], FitsSigned, w32, rules}
use Rattle.std.proofs.lemmas.Int.{to_z-of_z}
use Rattle.rd_list.specs.Entries.{leaf, nil}
use Rattle.rd_paint.specs.Internal.Picks.{InRows}
use Rattle.rd_paint.proofs.Picking.{closed_none, closed_one}
use Rattle.rd_paint.proofs.Shown.Showing.{leaf_named, none_named, leaf_unseen}
use Rattle.rd_paint.proofs.narrowing.narrow_item.Goals as goal

pub returns-then-has_rows-clause-closed : goal.returns-then-has_rows-clause-closed
returns-then-has_rows-clause-closed g c = rw c.put.ensures.written (closed_one (record { place = c.args.place; inside = 0 }) [] refl)

pub returns-then-has_rows-clause-same : goal.returns-then-has_rows-clause-same
returns-then-has_rows-clause-same g c = leaf_named (InRows c.args.y0 c.args.y1) c.args.place c.args.item.now.leaf _ c.put.ensures.written

pub returns-clause-closed : goal.returns-clause-closed
returns-clause-closed g c = closed_none

pub returns-clause-same : goal.returns-clause-same
returns-clause-same g c =
    let f0 : FitsSigned w32 c.args.y0 = search rules in
    let f1 : FitsSigned w32 c.args.y1 = search rules in
    let rows = rw c.visible.ensures.value at (simp to_z-of_z at c.has_rows.ensures) in
    none_named (InRows c.args.y0 c.args.y1) c.args.place (leaf c.args.item.now.leaf nil) (leaf c.args.item.now.leaf nil) (leaf_unseen c.args.item.now.leaf c.args.y0 c.args.y1 (rows c.if-has_rows.false))
