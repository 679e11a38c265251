-- Pixels of a run, and areas that share none with a rectangle.
use Rattle.std.proofs.Common.{◌≡◌, refl, ℤ, pos, ℕ, ◌+◌, ◌+ℤ◌, ◌<◌, ◌≤◌, Bool, true, false, IsTrue, List, length, get_or, arith}
use Rattle.std.proofs.lemmas.Int.{ints}
use Rattle.rd_geom.specs.Colors.{Premultiplied, clear}
use Rattle.rd_geom.specs.Areas.{Region, in_area, meets_area}
use Rattle.rd_geom.specs.Plane.{Rectangle, holds_pixel}
use Rattle.rd_item.specs.declared.leaf.Leaf as item
use Rattle.rd_list.specs.Wrappers.{Wrapper}
use Rattle.rd_list.specs.Entries.{Entries}
use Rattle.rd_list.specs.Lists.{composed}
use Rattle.rd_geom.proofs.Areas.{AreaShares, shares-meets_area}
use Rattle.rd_paint.specs.Internal.Runs.{laid_along}
use Rattle.rd_paint.proofs.Places.{get_or-each_at}

-- a pixel of a run
pub laid_at : (y x : ℤ) (es : Entries Wrapper item.Leaf) (ps : List Premultiplied) (k : ℕ) → k < length ps → get_or (laid_along y x es ps) k clear ≡ composed (x +ℤ pos k) y (get_or ps k clear) es
laid_at y x es ps k h = get_or-each_at (λ j q. composed (x +ℤ pos j) y q es) ps k clear h

-- an area that shares no pixel with a rectangle
pub no_share : (area : Region) (r : Rectangle) (b : Bool) (x y : ℤ) → b ≡ meets_area area r → b ≡ false → IsTrue (holds_pixel r x y) → in_area area x y ≡ false
no_share area r b x y h f p = go (in_area area x y) refl
  where
    go : (t : Bool) → in_area area x y ≡ t → in_area area x y ≡ false
    go false e = e
    go true e = let s : AreaShares area r = record { x = x; y = y; first = e; second = p } in let q = shares-meets_area area r s in cc

pub holds_part : (r : Rectangle) (l w a n x y : ℕ) → r ≡ record { x = pos l; y = pos a; w = pos w; h = pos n } → l ≤ x → x < l + w → a ≤ y → y < a + n → IsTrue (holds_pixel r (pos x) (pos y))
holds_part r l w a n x y e p q s t = rw e (grind (arith, ints))
