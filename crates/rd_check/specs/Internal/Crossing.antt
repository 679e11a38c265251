-- What is seen of entries, in clusters.
use Rattle.std.specs.Prelude.{◌≡◌, ℕ, ◌<◌, List, Option, Some, None, slice_get}
use Rattle.std.specs.List.{AllByRecursion}
use Rattle.rd_item.specs.declared.leaf.Leaf.{Leaf}
use Rattle.rd_check.specs.Internal.Finding.{Sight, row_leaf}
use Rattle.rd_check.specs.Internal.Near.{IsCluster, IsNoted}
use Rattle.rd_check.specs.declared.near.Spot.{Spot}
use Rattle.rd_check.specs.declared.near.Cluster.{Cluster}

abbrev pub spot_by : Option Leaf → Option ℕ → Option Spot
spot_by None o = None
spot_by (Some l) None = None
spot_by (Some l) (Some p) = Some (record { seen = l.visible; place = p })

-- where a leaf may be seen, and its place
abbrev pub spot_in : Sight → Option Spot
spot_in s = spot_by (row_leaf s.0) s.1

-- It is in one of the clusters, if it is a leaf with a place.
abbrev pub IsEntered : List Cluster → Sight → Type 0
IsEntered bs s = (spot : Spot) → spot_in s ≡ Some spot → IsNoted spot bs

-- the clusters are sound, and those before place j are in them
pub record AreEntered (bs : List Cluster) (sights : List Sight) (j : ℕ) : Type 0 where
  pub clusters : AllByRecursion IsCluster bs
  pub entered : (i : ℕ) (s : Sight) → i < j → slice_get sights i ≡ Some s → IsEntered bs s
