use Rattle.std.proofs.Common.{◌∙◌, ap, sym, arith}
use Rattle.std.proofs.lemmas.Nat.{mul-le}
use Rattle.std.proofs.lemmas.Result.{on_ok_weaker}
use Rattle.rd_list.specs.Views.{levels}
use Rattle.rd_run.proofs.Following.{repainted_by}
use Rattle.rd_run.proofs.tiling.retile.Goals as goal

pub overflow_mul-all : goal.overflow_mul-all
overflow_mul-all g c =
    let m = mul-le c.columns.result c.rows.result 64 64 c.columns.ensures.few c.rows.ensures.few in
    omega (arith, m)

pub repaint_tiles-met-requires-clause-area : goal.repaint_tiles-met-requires-clause-area
repaint_tiles-met-requires-clause-area g c = c.requires.area ∙ sym c.requires.of.size

pub repaint_tiles-met-requires-clause-size : goal.repaint_tiles-met-requires-clause-size
repaint_tiles-met-requires-clause-size g c = ap (λ b. b.size) (c.make_room.ensures ∙ c.requires.of.rows) ∙ sym c.requires.of.size

pub repaint_tiles-met-requires-clause-deep : goal.repaint_tiles-met-requires-clause-deep
repaint_tiles-met-requires-clause-deep g c =
    let s = c.view-list.ensures.state.shallow in
    let v = ap (λ k. levels k.entries) c.view-list.ensures.list in
    let b = ap (λ b. b.rows) (c.make_room.ensures ∙ c.requires.of.rows) in
    omega (arith, s, v, b)

pub returns : goal.returns
returns g c =
    on_ok_weaker c.push_tiles.result
    (λ w. repainted_by c.args.engine.now c.args.area.now c.args.tiles.now _ _ _ _ _ _ c.view-list.ensures.list c.paints-number.ensures c.repaint_tiles-met.ensures.count
    c.columns.ensures.value c.rows.ensures.value c.requires.of c.repaint_tiles-met.ensures.painted (c.repaint_tiles-met.ensures.same ∙ c.make_room.ensures) w)
    c.push_tiles.ensures
