use Rattle.std.proofs.Common.{◌≡◌, ◌<◌, ◌∙◌, ap, subst}
use Rattle.std.specs.Prelude.{unsigned_abs}
use Rattle.rd_c.specs.Tiles.{tiles_along}
use Rattle.rd_c.proofs.Tiling.{begins, rows_more}
use Rattle.rd_c.proofs.tiles.tiles_of.Goals as goal

pub push_row-requires-clause-row : goal.push_row-requires-clause-row
push_row-requires-clause-row c =
    let n = unsigned_abs c.args.size.h in
    let few : c.tiles_along-row-end.result ≡ tiles_along c.args.side n = c.tiles_along-row-end.ensures ∙ ap (tiles_along c.args.side) c.down.ensures.value in
    begins c.args.side n c.loop-row.row c.requires.some (subst (λ k. c.loop-row.row < k) few c.loop-row-test.true)

pub loop-row-preserved : goal.loop-row-preserved
loop-row-preserved c = record { told = rows_more c.args.area.now c.args.side c.args.size c.loop-row.row c.loop-row.out.items _ c.loop-row.invariant.told c.in_ok-push_row.ensures }
