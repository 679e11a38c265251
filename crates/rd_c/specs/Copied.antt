-- A rectangle of a canvas in the caller's memory. The form is this project's own choice.
use Rattle.std.specs.Prelude.{◌≡◌, ℕ, zero, suc, pos, ◌+◌, ◌*◌, ◌+ℤ◌, ◌==◌, ◌&&◌, nat_le, nat_lt, int_le, unsigned_abs, Bool, if◌then◌else◌, List, [], ◌∷◌, ◌++◌, take, drop, length, flat_map}
use Rattle.rd_geom.specs.Colors.{Premultiplied}
use Rattle.rd_paint.specs.Pictures.{Picture, span_of}
use Rattle.rd_c.specs.Numbers.{number_of}
use Rattle.rd_c.specs.Reading.{room_answer}
use Rattle.rd_c.specs.declared.painter.Painter.{Painter}
use Rattle.rd_c.specs.declared.refusal.Refusal.TheVariants.{Value}
use Rattle.rd_c.specs.declared.values.RdRect.{RdRect}

-- the four bytes of a pixel: red, green, blue and 255, or, where the format is 1, blue, green, red and 255
abbrev pub quad : ℕ → Premultiplied → List ℕ
quad format p = if format == 1 then p.b ∷ p.g ∷ p.r ∷ 255 ∷ [] else p.r ∷ p.g ∷ p.b ∷ 255 ∷ []

-- memory with these bytes at a place
abbrev pub put_at : ℕ → List ℕ → List ℕ → List ℕ
put_at from bytes memory = take from memory ++ (bytes ++ drop (from + length bytes) memory)

-- memory with the first rows of a rectangle of a canvas, each `stride` bytes behind the one above it
abbrev pub copied : ℕ → ℕ → Picture → ℕ → ℕ → ℕ → ℕ → List ℕ → List ℕ
copied format stride c x y w zero memory = memory
copied format stride c x y w (suc i) memory =
    put_at (i * stride) (flat_map (quad format) (span_of c (y + i) x (x + w))) (copied format stride c x y w i memory)

-- Does the rectangle lie on the canvas?
abbrev pub lies_on : RdRect → Picture → Bool
lies_on r c =
    int_le (pos 0) r.x && int_le (pos 0) r.y && int_le (pos 0) r.w && int_le (pos 0) r.h
    && int_le (r.x +ℤ r.w) (pos c.width) && int_le (r.y +ℤ r.h) (pos c.height)

-- May it be copied so? There are two formats, and no row reaches into the next.
abbrev pub may_copy : RdRect → ℕ → ℕ → Picture → Bool
may_copy r format stride c = lies_on r c && nat_le format 1 && nat_lt 0 stride && nat_le (4 * unsigned_abs r.w) stride

-- the bytes from the first of so many rows to the end of the last
abbrev pub bytes_wanted : ℕ → ℕ → ℕ → ℕ
bytes_wanted zero stride width = 0
bytes_wanted (suc above) stride width = above * stride + width

-- what a copy answers where there is this room
abbrev pub copy_answer : RdRect → ℕ → ℕ → Picture → ℕ → ℕ
copy_answer r format stride c room =
    if may_copy r format stride c then room_answer (bytes_wanted (unsigned_abs r.h) stride (4 * unsigned_abs r.w)) room else number_of Value

-- The rectangle of the canvas was copied into memory.
pub record IsCopied (place : RdRect) (format stride : ℕ) (p : Painter) (old new : List ℕ) : Type 0 where
  pub x : ℕ
  pub y : ℕ
  pub w : ℕ
  pub h : ℕ
  pub place_is : place ≡ record { x = pos x; y = pos y; w = pos w; h = pos h }
  pub bytes : new ≡ copied format stride p.engine.canvas x y w h old
