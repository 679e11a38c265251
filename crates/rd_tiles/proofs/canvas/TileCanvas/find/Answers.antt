use Rattle.std.proofs.Common.{◌≡◌, ◌+◌, ◌*◌, ◌<◌, IsTrue, Some, get_or, length, sym, ap, subst, ◌∙◌, arith}
use Rattle.std.proofs.lemmas.List.{get_or_default}
use Rattle.std.proofs.lemmas.Nat.{mul-le}
use Rattle.rd_tiles.specs.Tiling.{Tiling, columns_of, is_tile}
use Rattle.rd_tiles.proofs.Placing.{number_below, tile_is}
use Rattle.rd_tiles.proofs.Tilings.{no_tile, tile_there}
use Rattle.rd_tiles.proofs.canvas.TileCanvas.find.Goals as goal

pub overflow_mul-index : goal.overflow_mul-index
overflow_mul-index c =
    let r : c.args.row < 64 = c.has.ensures.few c.if-not-has.false in
    let m = mul-le c.args.row c.columns.result 64 64 (omega (arith, r)) c.columns.ensures.few in
    omega (arith, m)

pub overflow_add-index : goal.overflow_add-index
overflow_add-index c =
    let r : c.args.row < 64 = c.has.ensures.few c.if-not-has.false in
    let m = mul-le c.args.row c.columns.result 64 64 (omega (arith, r)) c.columns.ensures.few in
    let p = tile_is c.args.self.now.size c.args.column c.args.row (sym c.has.ensures.value ∙ c.if-not-has.false) in
    let a = p.column in
    let v = c.columns.ensures.value in
    let f = c.columns.ensures.few in
    omega (arith, m, a, v, f)

pub index-requires : goal.index-requires
index-requires c =
    let e : c.columns.result ≡ columns_of c.self.inside.size = c.columns.ensures.value ∙ ap (λ (t : Tiling). columns_of t.size) (sym c.self.view_is) in
    let t : IsTrue (is_tile c.self.inside.size c.args.column c.args.row) =
    subst (λ (t : Tiling). IsTrue (is_tile t.size c.args.column c.args.row)) (sym c.self.view_is) (sym c.has.ensures.value ∙ c.if-not-has.false) in
    let b = number_below c.self.inside.size c.args.column c.args.row (tile_is c.self.inside.size c.args.column c.args.row t) in
    let ok = c.self.inside.tiles.ok.0 in
    let n = c.self.invariant.count in
    rw e (omega (arith, b, n, ok))

pub returns-clause-value : goal.returns-clause-value
returns-clause-value c =
    let q : Tiling = record { size = c.self.inside.size; tiles = c.self.inside.tiles.items } in
    let e : c.columns.result ≡ columns_of c.self.inside.size = c.columns.ensures.value ∙ ap (λ (t : Tiling). columns_of t.size) (sym c.self.view_is) in
    let t : IsTrue (is_tile c.self.inside.size c.args.column c.args.row) =
    subst (λ (t : Tiling). IsTrue (is_tile t.size c.args.column c.args.row)) (sym c.self.view_is) (sym c.has.ensures.value ∙ c.if-not-has.false) in
    let p = tile_is c.self.inside.size c.args.column c.args.row t in
    let b = number_below c.self.inside.size c.args.column c.args.row p in
    let n = c.self.invariant.count in
    let k : c.args.row * columns_of c.self.inside.size + c.args.column < length c.self.inside.tiles.items = omega (arith, b, n) in
    rw (← c.self.view_is)
    (ap Some
    (c.index.ensures ∙ ap (λ m. get_or c.self.inside.tiles.items (c.args.row * m + c.args.column) c.index.result.now) e
    ∙ get_or_default c.self.inside.tiles.items (c.args.row * columns_of c.self.inside.size + c.args.column) c.index.result.now no_tile k)
    ∙ sym (tile_there q c.args.column c.args.row n p))
