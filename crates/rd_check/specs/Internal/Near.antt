-- Leaves in clusters of leaves that lie near each other.
use Rattle.std.specs.Prelude.{ℕ, ◌≤◌, ◌⊎◌, Bool, not, ◌&&◌, ◌||◌, nat_le, nat_lt, List, [], ◌∷◌, Contains}
use Rattle.std.specs.List.{AllByRecursion}
use Rattle.rd_geom.specs.Plane.{Rectangle, IsWithin, meets}
use Rattle.rd_check.specs.declared.near.Spot.{Spot}
use Rattle.rd_check.specs.declared.near.Cluster.{Cluster}

-- It lies within a rectangle, and its place is not greater.
pub record IsIn (hull : Rectangle) (greatest : ℕ) (s : Spot) : Type 0 where
  pub within : IsWithin s.seen hull
  pub most : s.place ≤ greatest

abbrev pub IsCluster : Cluster → Type 0
IsCluster b = AllByRecursion (IsIn b.hull b.greatest) b.spots.items

-- It is in one of the clusters.
abbrev pub IsNoted : Spot → List Cluster → Type 0
IsNoted s [] = ⊥
IsNoted s (b ∷ bs) = Contains b.spots.items s ⊎ IsNoted s bs

-- is it above a leaf that meets it, but with a lesser place?
abbrev pub crosses : Rectangle → ℕ → Spot → Bool
crosses seen place s = nat_lt place s.place && meets s.seen seen

-- has it no greater place, or does it lie off?
abbrev pub is_far : Rectangle → ℕ → Cluster → Bool
is_far seen place b = nat_le b.greatest place || not (meets b.hull seen)
