-- Canvases before and after painting, and the rows that groups are painted into.
use Rattle.std.specs.Prelude.{◌≡◌, ℕ, pos, ◌<◌, if◌then◌else◌, Some}
use Rattle.rd_geom.specs.Areas.{Region, in_area}
use Rattle.rd_geom.specs.declared.rect.Size.{Size}
use Rattle.rd_item.specs.declared.leaf.Leaf.{Leaf}
use Rattle.rd_list.specs.Wrappers.{Wrapper}
use Rattle.rd_list.specs.Entries.{Entries}
use Rattle.rd_list.specs.Lists.{pixel}
use Rattle.rd_paint.specs.Pictures.{Picture, pixel_at}

-- this project's own choice: the size of the canvas that rows are for, and how many there are
pub record Scratch : Type 0 where
  pub size : Size
  pub rows : ℕ

-- this project's own choice: the pixels of an area became those of a list, and no other pixel changed
pub record IsRepainted (list : Entries Wrapper Leaf) (area : Region) (old new : Picture) : Type 0 where
  pub width : new.width ≡ old.width
  pub height : new.height ≡ old.height
  pub pixels : (x y : ℕ) → x < old.width → y < old.height
      → pixel_at new (pos x) (pos y) ≡ (if in_area area (pos x) (pos y) then
      Some (pixel list (pos x) (pos y)) else pixel_at old (pos x) (pos y))
