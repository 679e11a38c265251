-- What an `Item` keeps of its leaf.
use Rattle.std.specs.Prelude.{◌≡◌, false}
use Rattle.rd_geom.specs.Plane.{has_none, IsWithin}
use Rattle.rd_item.specs.declared.leaf.Leaf.{Leaf}

-- A leaf that may be seen somewhere, inside its outer rectangle.
pub record IsShown (l : Leaf) : Type 0 where
  pub some : has_none l.visible ≡ false
  pub within : IsWithin l.visible l.shape.outer
