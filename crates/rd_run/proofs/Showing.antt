-- What a canvas shows is the picture of the tree.
use Rattle.std.proofs.Common.{◌≡◌, ℕ, ◌+◌, ◌*◌, ◌<◌, pos, Bool, true, false, ◌&&◌, cond, length, get_or, ◌∙◌, ap, ap₂, arith, Option, Some, None, unsigned_abs}
use Rattle.std.specs.Prelude.{nat_lt}
use Rattle.std.specs.Option.{option_map_or}
use Rattle.rd_geom.specs.Colors.{Premultiplied, clear}
use Rattle.rd_geom.specs.declared.rect.Size.{Size}
use Rattle.rd_keys.specs.Keys.{same_key}
use Rattle.rd_list.specs.Lists.{pixel}
use Rattle.rd_tree.specs.Forest.{IsApart}
use Rattle.rd_stack.specs.Fresh.{fresh_list}
use Rattle.rd_paint.specs.Pictures.{Picture, pixel_at, size_of}
use Rattle.rd_engine.specs.State.{EngineState, IsEngine}
use Rattle.rd_engine.proofs.Keeping.{same_pixel}
use Rattle.rd_report.specs.Pictures.{p6_text}
use Rattle.rd_run.specs.Pictures.{picture, rows_of}
use Rattle.rd_run.proofs.Rows.{all_rows}

-- the pixel of a place on a picture
got : (c : Picture) (x y : ℕ) (p : Premultiplied) → x < c.width → y < c.height → pixel_at c (pos x) (pos y) ≡ Some p → get_or c.pixels (y * c.width + x) clear ≡ p
got c x y p h k e = by (nat_lt x c.width && nat_lt y c.height) (grind arith) e
  where
    by : (b : Bool) → b ≡ true → cond b (Some (get_or c.pixels (y * c.width + x) clear)) None ≡ Some p → get_or c.pixels (y * c.width + x) clear ≡ p
    by true t i = ap (λ (o : Option Premultiplied). option_map_or (λ z. z) o p) i
    by false t i = absurd (let no : false ≡ true = t in cc)

-- of a picture with the size and the pixels of the canvas
module _ (e : EngineState) (is : IsEngine e) (apart : IsApart same_key e.tree.boxes) (now : e.pending ≡ false) (c : Picture) (count : length c.pixels ≡ c.height * c.width)
    (size : size_of c ≡ e.tree.canvas) (same : (x y : ℕ) → x < c.width → y < c.height → pixel_at c (pos x) (pos y) ≡ Some (pixel (fresh_list e.tree) (pos x) (pos y))) where
  wide : c.width ≡ unsigned_abs e.tree.canvas.w
  wide = ap (λ (s : Size). unsigned_abs s.w) size

  high : c.height ≡ unsigned_abs e.tree.canvas.h
  high = ap (λ (s : Size). unsigned_abs s.h) size

  rows_are : c.pixels ≡ rows_of (pixel (fresh_list e.tree)) c.width c.height
  rows_are =
      all_rows (pixel (fresh_list e.tree)) clear c.pixels c.width c.height count
      (λ x y h k. got c x y (pixel (fresh_list e.tree) (pos x) (pos y)) h k (same x y h k))

  pub copy_is : p6_text c.width c.height c.pixels ≡ picture e.tree
  copy_is =
      ap (p6_text c.width c.height) rows_are
      ∙ ap₂ (λ w h. p6_text w h (rows_of (pixel (fresh_list e.tree)) w h)) wide high

-- of the canvas itself
module _ (e : EngineState) (is : IsEngine e) (apart : IsApart same_key e.tree.boxes) (now : e.pending ≡ false) (count : length e.canvas.pixels ≡ e.canvas.height * e.canvas.width) where
  pub picture_is : p6_text e.canvas.width e.canvas.height e.canvas.pixels ≡ picture e.tree
  picture_is = copy_is e is apart now e.canvas count is.size (λ x y h k. same_pixel e is apart now x y h k)
