use Rattle.std.proofs.Common.{◌≡◌, get_or, refl, sym, ap, ◌∙◌}
use Rattle.std.proofs.lemmas.List.{get_or_default}
use Rattle.rd_paint.specs.Pictures.{size_of}
use Rattle.rd_tiles.specs.declared.tile.Tile.{Tile}
use Rattle.rd_tiles.specs.Internal.Changing.{place_at}
use Rattle.rd_tiles.proofs.Lines.{tile_more}
use Rattle.rd_tiles.proofs.Tilings.{no_tile}
use Rattle.rd_tiles.proofs.copying.copy_all.Goals as goal

pub loop-tile-preserved : goal.loop-tile-preserved
loop-tile-preserved c =
    let i = c.loop-tile.tile-index in
    let u : Tile = c.tile-item.result in
    let l = c.loop-tile-test.true in
    let same : get_or c.args.tiles.now i no_tile ≡ u = get_or_default c.args.tiles.now i no_tile u l ∙ sym c.tile-item.is in
    let place : u.place ≡ place_at (size_of c.args.canvas.now) i = ap (λ (t : Tile). t.place) (sym same) ∙ (c.requires.tiles i l no_tile).place in
    tile_more (size_of c.args.canvas.now) c.args.tiles.now i u c.args.canvas.now c.loop-tile.canvas c.copy_tile.new.canvas c.requires l place refl refl same c.loop-tile.invariant c.copy_tile.ensures
