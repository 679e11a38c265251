use Rattle.std.proofs.Common.{◌≡◌, ◌≢◌, ◌/◌, length, subst, sym, arith}
use Rattle.rd_tree.specs.Internal.Cells.{AreReached, IsReached, cells_at}
use Rattle.rd_tree.proofs.Tables.Cells.{reached_more}
use Rattle.rd_tree.proofs.table.rows.Table.push.Goals as goal

pub invariant_of-self : goal.invariant_of-self
invariant_of-self c =
    let rows = c.self.inside.rows.items in
    let new = c.put_hull.new.cells.items in
    let len = c.len-slot.ensures in
    let ok = c.self.inside.rows.ok.0 in
    let is : c.len-slot.result ≡ length rows = omega (arith, len, ok) in
    let longer = c.extend.ensures.longer in
    let page = c.extend.ensures.page in
    let same = c.put_hull.ensures.len in
    subst (λ rs. AreReached rs new) (sym c.push_reserved.ensures.items)
    (reached_more rows c.self.inside.cells.items new c.args.row c.self.invariant (omega (arith, longer, same)) (omega (arith, page, same, is))
    (subst (λ n. IsReached (cells_at new (n / 64)) n c.args.row.hull) is c.put_hull.ensures.here)
    (λ s h u r. c.put_hull.ensures.others s h (let d : s ≢ c.len-slot.result = omega (arith, u, is) in d) (c.extend.ensures.others s h (c.self.invariant s u).0 r)))
