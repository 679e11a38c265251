-- Which pixels a leaf covers. The form of a leaf is this project's own choice.
use Rattle.std.specs.Prelude.{ℤ, Bool, not, ◌&&◌}
use Rattle.rd_geom.specs.Plane.{holds_pixel}
use Rattle.rd_item.specs.declared.leaf.Leaf.{Leaf}

-- the pixels of its outer rectangle that are not in the inner one and may be seen
abbrev pub covers : Leaf → ℤ → ℤ → Bool
covers l x y = holds_pixel l.shape.outer x y && not (holds_pixel l.shape.inner x y)
    && holds_pixel l.visible x y
