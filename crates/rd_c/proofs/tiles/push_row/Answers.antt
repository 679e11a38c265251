use Rattle.std.proofs.Common.{◌≡◌, ◌<◌, ◌∙◌, ◌++◌, ◌∷◌, [], ap, subst}
use Rattle.std.specs.Prelude.{unsigned_abs}
use Rattle.rd_c.specs.Tiles.{tiles_along, told_tiles}
use Rattle.rd_c.proofs.Tiling.{begins, row_more}
use Rattle.rd_c.proofs.tiles.push_row.Goals as goal

pub tile-requires-clause-column : goal.tile-requires-clause-column
tile-requires-clause-column c =
    let n = unsigned_abs c.args.size.w in
    let few : c.tiles_along-column-end.result ≡ tiles_along c.args.side n = c.tiles_along-column-end.ensures ∙ ap (tiles_along c.args.side) c.across.ensures.value in
    begins c.args.side n c.loop-column.column c.requires.some (subst (λ k. c.loop-column.column < k) few c.loop-column-test.true)

pub loop-column-preserved : goal.loop-column-preserved
loop-column-preserved c = record {
  told = row_more c.args.area.now c.args.side c.args.size c.args.row c.loop-column.column c.args.out.now.items c.loop-column.out.items _ c.loop-column.invariant.told
      (c.in_ok-push_met.ensures ∙ ap (λ t. c.loop-column.out.items ++ told_tiles c.args.area.now (t ∷ [])) c.tile.ensures);
}
