-- Leaves that paints made.
use Rattle.std.specs.Prelude.{ℕ}
use Rattle.rd_item.specs.declared.leaf.Leaf.{Leaf}

-- a leaf with the number of the paint that made it
pub record Made : Type 0 where
  pub leaf : Leaf
  pub made_at : ℕ
