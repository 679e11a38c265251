-- What a span of a canvas that is lent does to it.
use Rattle.std.specs.Prelude.{◌≡◌, ℕ, pos, ◌+◌, ◌-◌, ◌<◌, ◌&&◌, nat_le, nat_lt, nat_eq, if◌then◌else◌, List, length, get_or, Some}
use Rattle.std.specs.Borrow.{Lends, MutBor, Fml, Array}
use Rattle.rd_geom.specs.Colors.{Premultiplied, clear}
use Rattle.rd_geom.specs.contracts.color.Px as px
use Rattle.rd_paint.specs.contracts.canvas.Canvas as canvas
use Rattle.rd_paint.specs.Pictures.{Picture, pixel_at, with_span}

-- this project's own choice: the canvas ends with the last pixels behind r in row y from column x0 on
abbrev pub LendsSpan : MutBor Picture → ℕ → ℕ → MutBor (List Premultiplied) → Fml
LendsSpan c y x0 r = Lends canvas.the_row (Array px.the_row 0) c r (with_span c.now y x0)

-- this project's own choice: one canvas is another with the pixels ps in row y from column x0 on, and no other change
pub record HasSpan (old : Picture) (y x0 : ℕ) (ps : List Premultiplied) (new : Picture) : Type 0 where
  pub width : new.width ≡ old.width
  pub height : new.height ≡ old.height
  pub pixels : (x row : ℕ) → x < old.width → row < old.height
      → pixel_at new (pos x) (pos row) ≡ (if nat_eq row y && nat_le x0 x && nat_lt x (x0 + length ps) then
      Some (get_or ps (x - x0) clear) else pixel_at old (pos x) (pos row))
