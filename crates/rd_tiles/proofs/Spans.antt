-- Rows of a tile that are copied.
use Rattle.std.proofs.Common.{◌≡◌, ℕ, ℤ, pos, ◌+◌, ◌-◌, ◌*◌, ◌<◌, ◌+ℤ◌, ◌≤ℤ◌, ◌&&◌, nat_eq, nat_le, nat_lt, List, length, get_or, take, drop, sym, ap, ◌∙◌, arith}
use Rattle.std.specs.Prelude.{unsigned_abs}
use Rattle.std.proofs.lemmas.Int.{ints}
use Rattle.std.proofs.lemmas.List.{get_or-drop, get_or-take}
use Rattle.rd_geom.specs.Colors.{Premultiplied, clear}
use Rattle.rd_paint.specs.Changed.{Fits, IsChanged}
use Rattle.rd_paint.specs.Lending.{HasSpan}
use Rattle.rd_paint.specs.Pictures.{Picture}
use Rattle.rd_paint.proofs.Changes.{span_changed}
use Rattle.rd_tiles.specs.Internal.Copying.{in_line, tile_color}
use Rattle.rd_tiles.specs.declared.tile.Tile.{Tile}
use Rattle.rd_tiles.proofs.Lines.{line_test}

-- a row of a tile that is copied
pub row_copied : (u : Tile) (row : ℕ) (ya xa : ℤ) (ps : List Premultiplied) (old new : Picture)
    → HasSpan old (unsigned_abs ya) (unsigned_abs xa) ps new
    → ((k : ℕ) → k < length ps → get_or ps k clear ≡ get_or u.canvas.pixels (row * u.canvas.width + k) clear)
    → length ps ≡ u.canvas.width → Fits u.place u.canvas → pos 0 ≤ℤ u.place.x → pos 0 ≤ℤ u.place.y
    → ya ≡ (u.place.y +ℤ pos row) → xa ≡ u.place.x
    → IsChanged (tile_color u) (in_line u.place row) old new
row_copied u row ya xa ps old new h px len fits left top ey ex =
    span_changed (tile_color u) (in_line u.place row) old new (unsigned_abs ya) (unsigned_abs xa) ps h value tests
  where
    down : unsigned_abs ya - unsigned_abs u.place.y ≡ row
    down = omega (arith, ints, ey, top)

    across : (k : ℕ) → unsigned_abs xa + k - unsigned_abs u.place.x ≡ k
    across k = omega (arith, ints, ex, left)

    value : (k : ℕ) → k < length ps → get_or ps k clear ≡ tile_color u (unsigned_abs xa + k) (unsigned_abs ya)
    value k l =
        px k l
        ∙ ap (λ n. get_or u.canvas.pixels (n * u.canvas.width + k) clear) (sym down)
        ∙ ap (λ n. get_or u.canvas.pixels ((unsigned_abs ya - unsigned_abs u.place.y) * u.canvas.width + n) clear) (sym (across k))

    tests : (x z : ℕ) → x < old.width → z < old.height → (nat_eq z (unsigned_abs ya) && nat_le (unsigned_abs xa) x && nat_lt x (unsigned_abs xa + length ps)) ≡ in_line u.place row x z
    tests x z p q =
        line_test u.place row x z (unsigned_abs ya) (unsigned_abs xa) (length ps) (omega (arith, ints, ey, top)) (omega (arith, ints, ex, left)) (ap pos len ∙ fits.width)

-- a row of a tile that is copied, as a part of its pixels
pub row_sliced : (u : Tile) (row v : ℕ) (ya xa : ℤ) (us ps : List Premultiplied) (old new : Picture)
    → HasSpan old (unsigned_abs ya) (unsigned_abs xa) ps new
    → ps ≡ take (row * v + v - row * v) (drop (row * v) us) → us ≡ u.canvas.pixels
    → length ps ≡ u.canvas.width → Fits u.place u.canvas → pos 0 ≤ℤ u.place.x → pos 0 ≤ℤ u.place.y
    → v ≡ u.canvas.width → ya ≡ (u.place.y +ℤ pos row) → xa ≡ u.place.x
    → IsChanged (tile_color u) (in_line u.place row) old new
row_sliced u row v ya xa us ps old new h cut same len fits left top e ey ex = row_copied u row ya xa ps old new h at len fits left top ey ex
  where
    at : (k : ℕ) → k < length ps → get_or ps k clear ≡ get_or u.canvas.pixels (row * u.canvas.width + k) clear
    at k l =
        ap (λ qs. get_or qs k clear) cut
        ∙ get_or-take (row * v + v - row * v) (drop (row * v) us) k clear (omega (arith, l, len, e))
        ∙ get_or-drop (row * v) us k clear
        ∙ ap (λ qs. get_or qs (row * v + k) clear) same
        ∙ ap (λ n. get_or u.canvas.pixels (row * n + k) clear) e
