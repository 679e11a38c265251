use Rattle.std.proofs.Common.{◌%◌, arith}
use Rattle.std.proofs.lemmas.Nat.Bits.{bit_at_and}
use Rattle.rd_geom.specs.Plane.{right, bottom}
use Rattle.rd_tree.proofs.Tables.Cells.{crossed, crosses}
use Rattle.rd_tree.proofs.table.cells.Cells.near.Goals as goal

pub returns : goal.returns
returns c = λ s h r told is e.
    let x = crosses r h e in
    let cs = c.args.self.now in
    let ask = c.args.reach.now in
    let has = told.reach in
    let o = c.requires.order in
    let across = crossed cs.columns c.any.result s ask.left ask.right has.left has.right h.x (right h) r.x (right r) x.left x.right told.is.left told.is.right told.order.across is.left is.right o.across told.columns c.any.ensures in
    let down = crossed cs.lines c.any-2.result s ask.top ask.bottom has.top has.bottom h.y (bottom h) r.y (bottom r) x.top x.bottom told.is.top told.is.bottom told.order.down is.top is.bottom o.down told.lines c.any-2.ensures in
    let both = bit_at_and c.any.result c.any-2.result (s % 64) in
    omega (arith, both, across, down)
