-- Canvases that show a rectangle of a list.
use Rattle.std.proofs.Common.{◌≡◌, ℕ, pos, ◌+◌, ◌+ℤ◌, ap, ◌∙◌, arith}
use Rattle.std.proofs.lemmas.Int.{ints}
use Rattle.rd_geom.specs.Areas.{Region, in_area}
use Rattle.rd_geom.specs.Plane.{Rectangle}
use Rattle.rd_item.specs.declared.leaf.Leaf.{Leaf}
use Rattle.rd_list.specs.Wrappers.{Wrapper}
use Rattle.rd_list.specs.Entries.{Entries}
use Rattle.rd_list.specs.Lists.{pixel}
use Rattle.rd_paint.specs.Changed.{Fits, IsChanged, ShowsFrom, in_part, list_at}
use Rattle.rd_paint.specs.Internal.Bands.{IsPainted}
use Rattle.rd_paint.specs.Parts.{entries_from}
use Rattle.rd_paint.specs.Pictures.{Picture}
use Rattle.rd_paint.proofs.Changes.{changed_as}
use Rattle.rd_paint.proofs.Cutting.{in_place}

-- what was painted from the corner of a rectangle on
pub part_painted : (l t : ℕ) (r : Rectangle) (es fs : Entries Wrapper Leaf) (from : ℕ) (area : Region) (old new : Picture) → IsPainted (record { left = l; top = t }) (entries_from from fs) area old new → fs ≡ es
    → r.x ≡ pos l → r.y ≡ pos t → ShowsFrom es from r → Fits r old → IsChanged (list_at es r) (in_part r area) old new
part_painted l t r es fs from area old new h same ex ey shows fits =
    changed_as (λ x y. pixel (entries_from from fs) (pos (l + x)) (pos (t + y))) (list_at es r) (λ x y. in_area area (pos (l + x)) (pos (t + y))) (in_part r area) old new
    (λ x y a b. ap (λ z. in_area area z (pos (t + y))) (across x) ∙ ap (in_area area (r.x +ℤ pos x)) (down y))
    (λ x y a b k.
    ap (λ gs. pixel (entries_from from gs) (pos (l + x)) (pos (t + y))) same
    ∙ ap (λ z. pixel (entries_from from es) z (pos (t + y))) (across x) ∙ ap (pixel (entries_from from es) (r.x +ℤ pos x)) (down y)
    ∙ shows (r.x +ℤ pos x) (r.y +ℤ pos y) (in_place r old x y fits a b)) h
  where
    across : (x : ℕ) → pos (l + x) ≡ (r.x +ℤ pos x)
    across x = omega (arith, ints, ex)

    down : (y : ℕ) → pos (t + y) ≡ (r.y +ℤ pos y)
    down y = omega (arith, ints, ey)
