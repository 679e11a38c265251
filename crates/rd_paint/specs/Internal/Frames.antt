-- Rows and columns that hold an area.
use Rattle.std.specs.Prelude.{◌≡◌, ℕ, pos, ◌≤◌, ◌<◌, false}
use Rattle.rd_geom.specs.Areas.{Region, in_area}
use Rattle.rd_paint.specs.declared.frame.Frame.{Frame}

-- they are among those of a whole, and outside them the area has no pixel of it
pub record IsFramed (area : Region) (whole f : Frame) : Type 0 where
  pub from : whole.left ≤ f.left
  pub across : f.left ≤ f.right
  pub wide : f.right ≤ whole.right
  pub top : whole.top ≤ f.top
  pub down : f.top ≤ f.bottom
  pub high : f.bottom ≤ whole.bottom
  pub above : (x y : ℕ) → whole.left ≤ x → x < whole.right → whole.top ≤ y → y < f.top
      → in_area area (pos x) (pos y) ≡ false
  pub below : (x y : ℕ) → whole.left ≤ x → x < whole.right → f.bottom ≤ y → y < whole.bottom
      → in_area area (pos x) (pos y) ≡ false
  pub before : (x y : ℕ) → whole.left ≤ x → x < f.left → f.top ≤ y → y < f.bottom → in_area area (pos x) (pos y) ≡ false
  pub after : (x y : ℕ) → f.right ≤ x → x < whole.right → f.top ≤ y → y < f.bottom → in_area area (pos x) (pos y) ≡ false
