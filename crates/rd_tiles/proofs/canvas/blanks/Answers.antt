use Rattle.std.proofs.Common.{◌≡◌, ◌<◌, ◌*◌, ◌/◌, ◌%◌, ◌∙◌, [], ◌∷◌, length, length-append, sym, ap, subst, arith, FitsSigned, w32}
use Rattle.std.proofs.lemmas.Int.{ints, to_z-of_z}
use Rattle.rd_geom.specs.Plane.{Rectangle}
use Rattle.rd_paint.specs.Changed.{IsOn}
use Rattle.rd_tiles.specs.Internal.Blank.{AreFirstBlank, IsBlank}
use Rattle.rd_tiles.specs.Internal.Changing.{place_at}
use Rattle.rd_tiles.specs.Tiling.{columns_of, rows_of, tile_of}
use Rattle.rd_tiles.specs.declared.tile.Tile.{Tile}
use Rattle.rd_tiles.proofs.Placing.{number_place, on_most, place_on}
use Rattle.rd_tiles.proofs.Whitening.{blank_more}
use Rattle.rd_tiles.proofs.canvas.blanks.Goals as goal

pub blank-requires : goal.blank-requires
blank-requires c =
    let i = c.loop-i.i in
    let fw : FitsSigned w32 c.args.size.w = omega (arith, ints) in
    let fh : FitsSigned w32 c.args.size.h = omega (arith, ints) in
    let ew : c.tiles_along-columns.result ≡ columns_of c.args.size = simp to_z-of_z at c.tiles_along-columns.ensures.value in
    let eh : c.tiles_along.result ≡ rows_of c.args.size = simp to_z-of_z at c.tiles_along.ensures.value in
    let pe : c.place_of-place.result ≡ place_at c.args.size i = c.place_of-place.ensures ∙ ap (λ n. tile_of c.args.size (i % n) (i / n)) ew in
    let k : i < columns_of c.args.size * rows_of c.args.size = rw (ew, eh) at c.loop-i-test.true in
    on_most c.args.size c.place_of-place.result c.requires
    (subst (λ (r : Rectangle). IsOn c.args.size r) (sym pe) (place_on c.args.size (i % columns_of c.args.size) (i / columns_of c.args.size) c.requires (number_place c.args.size i k)))

pub loop-i-preserved : goal.loop-i-preserved
loop-i-preserved c =
    let i = c.loop-i.i in
    let t : Tile = c.in_ok-tile.tile in
    let fw : FitsSigned w32 c.args.size.w = omega (arith, ints) in
    let ew : c.tiles_along-columns.result ≡ columns_of c.args.size = simp to_z-of_z at c.tiles_along-columns.ensures.value in
    let pe : c.place_of-place.result ≡ place_at c.args.size i = c.place_of-place.ensures ∙ ap (λ n. tile_of c.args.size (i % n) (i / n)) ew in
    let b : IsBlank (place_at c.args.size i) t = subst (λ (r : Rectangle). IsBlank r t) pe c.in_ok-tile.ensures in
    let a = length-append c.loop-i.tiles.items (t ∷ []) in
    let n = c.loop-i.invariant.count in
    record {
      count = ap length c.in_ok-push.ensures.items ∙ omega (arith, a, n);
      tiles = subst (AreFirstBlank c.args.size) (sym c.in_ok-push.ensures.items) (blank_more c.args.size c.loop-i.tiles.items t i n c.loop-i.invariant.tiles b);
    }
