-- Leaves that meet an area, and the paints that made them. It is this project's own choice.
use Rattle.std.specs.Prelude.{◌≡◌, ℕ, ◌≤◌, true, List, [], ◌∷◌}
use Rattle.rd_geom.specs.Areas.{Region, meets_area}
use Rattle.rd_item.specs.Items.{Made}

-- each leaf that meets the area was made by this paint or after
abbrev pub AreMadeSince : Region → ℕ → List Made → Type 0
AreMadeSince a n [] = Unit {0}
AreMadeSince a n (m ∷ ms) = (meets_area a m.leaf.visible ≡ true → n ≤ m.made_at) × AreMadeSince a n ms
