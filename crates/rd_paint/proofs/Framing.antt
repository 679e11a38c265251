-- A canvas that is painted in the rows and columns that its area lies in.
use Rattle.std.proofs.Common.{◌≡◌, refl, ◌∙◌, ap, ℕ, pos, ◌+◌, ◌<◌, ◌≤◌, Bool, true, false, ◌&&◌, nat_lt, nat_le, arith, inl, inr}
use Rattle.std.specs.Prelude.{if◌then◌else◌, IsTrue, Option, Some}
use Rattle.std.proofs.lemmas.Int.{ints}
use Rattle.std.proofs.lemmas.Bool.{cases_lt, le-leb, lt-ltb}
use Rattle.rd_geom.specs.Colors.{Premultiplied, white}
use Rattle.rd_geom.specs.Areas.{Region, in_area, in_span}
use Rattle.rd_geom.specs.declared.span.Span.{Span}
use Rattle.rd_item.specs.declared.leaf.Leaf as item
use Rattle.rd_list.specs.Entries.{Entries}
use Rattle.rd_list.specs.Lists.{pixel}
use Rattle.rd_list.specs.Wrappers.{Wrapper}
use Rattle.rd_paint.specs.Internal.Bands.{IsBandPainted, IsPainted}
use Rattle.rd_paint.specs.Internal.Frames.{IsFramed}
use Rattle.rd_paint.specs.Internal.Picks.{InAreaWithin, SameWhere}
use Rattle.rd_paint.specs.Pictures.{Picture, pixel_at}
use Rattle.rd_paint.specs.declared.corner.Corner.{Corner}
use Rattle.rd_paint.specs.declared.frame.Frame.{Frame}

last_false : (a b : Bool) → (a && b && false) ≡ false
last_false true true = refl
last_false true false = refl
last_false false b = refl

within : (s : Span) (a b v : ℕ) → s ≡ record { x0 = pos a; x1 = pos b } → a ≤ v → v < b → IsTrue (in_span s (pos v))
within s a b v e h k = rw e (grind (arith, ints))

module _ (o : Corner) (list own : Entries Wrapper item.Leaf) (area : Region) (whole f : Frame) (columns rows : Span) (old new : Picture) where
  pub frame_painted : whole.left ≡ o.left → whole.right ≡ o.left + old.width → whole.top ≡ o.top → whole.bottom ≡ o.top + old.height → IsFramed area whole f
      → columns ≡ record { x0 = pos f.left; x1 = pos f.right } → rows ≡ record { x0 = pos f.top; x1 = pos f.bottom }
      → SameWhere (InAreaWithin area columns rows) own list → IsBandPainted o own area f.top f.bottom old new → IsPainted o list area old new
  frame_painted el er et eb framed ec ew same band = record {
    width = band.width;
    height = band.height;
    pixels = λ x y h k.
        band.pixels x y h k
        ∙ go (o.left + x) (o.top + y) (pixel_at old (pos x) (pos y)) (omega (arith, el)) (omega (arith, er, h)) (omega (arith, et)) (omega (arith, eb, k)) (in_area area (pos (o.left + x)) (pos (o.top + y))) refl;
  }
    where
      top : (x y : ℕ) → whole.left ≤ x → x < whole.right → whole.top ≤ y → in_area area (pos x) (pos y) ≡ true → f.top ≤ y
      top x y l h t e = elim (cases_lt y f.top) [ inl i ↦ let q = framed.above x y l h t i in absurd cc | inr i ↦ i ]

      bottom : (x y : ℕ) → whole.left ≤ x → x < whole.right → y < whole.bottom → in_area area (pos x) (pos y) ≡ true → y < f.bottom
      bottom x y l h k e = elim (cases_lt y f.bottom) [ inl i ↦ i | inr i ↦ let q = framed.below x y l h i k in absurd cc ]

      left : (x y : ℕ) → whole.left ≤ x → f.top ≤ y → y < f.bottom → in_area area (pos x) (pos y) ≡ true → f.left ≤ x
      left x y l t b e = elim (cases_lt x f.left) [ inl i ↦ let q = framed.before x y l i t b in absurd cc | inr i ↦ i ]

      right : (x y : ℕ) → x < whole.right → f.top ≤ y → y < f.bottom → in_area area (pos x) (pos y) ≡ true → x < f.right
      right x y h t b e = elim (cases_lt x f.right) [ inl i ↦ i | inr i ↦ let q = framed.after x y i h t b in absurd cc ]

      shows : (x y : ℕ) → whole.left ≤ x → x < whole.right → f.top ≤ y → y < f.bottom → in_area area (pos x) (pos y) ≡ true → pixel own (pos x) (pos y) ≡ pixel list (pos x) (pos y)
      shows x y l h t b e = same (pos x) (pos y) white (e, (within columns f.left f.right x ec (left x y l t b e) (right x y h t b e), within rows f.top f.bottom y ew t b))

      go : (x y : ℕ) (v : Option Premultiplied) → whole.left ≤ x → x < whole.right → whole.top ≤ y → y < whole.bottom → (t : Bool) → in_area area (pos x) (pos y) ≡ t
          → (if nat_le f.top y && nat_lt y f.bottom && in_area area (pos x) (pos y) then Some (pixel own (pos x) (pos y)) else v)
          ≡ (if in_area area (pos x) (pos y) then Some (pixel list (pos x) (pos y)) else v)
      go x y v l h u k false e = rw (e, last_false (nat_le f.top y) (nat_lt y f.bottom)) refl
      go x y v l h u k true e =
          let t = top x y l h u e in
          let b = bottom x y l h k e in
          rw (e, le-leb f.top y t, lt-ltb y f.bottom b) (ap Some (shows x y l h t b e))
