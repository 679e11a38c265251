-- Regions of places in which the places of a chain are out of order, and the cuts that bound them.
use Rattle.std.specs.Prelude.{◌≡◌, ℕ, ◌+◌, ◌<◌, ◌≤◌, List, length, slice_index_or}
use Rattle.rd_graph.specs.declared.regions.Cut.{Cut}
use Rattle.rd_graph.specs.declared.regions.Region.{Region}

-- of some places below an end, from each one on the least, and the end after the last one
pub record AreLeast (ps : List ℕ) (end : ℕ) (least : List ℕ) : Type 0 where
  pub count : length least ≡ length ps + 1
  pub within : (i : ℕ) → i ≤ length ps → slice_index_or least i 0 ≤ end
  pub low : (i k : ℕ) → i ≤ k → k < length ps → slice_index_or least i 0 ≤ slice_index_or ps k 0
  pub high : (i x : ℕ) → i ≤ length ps → x ≤ end → ((k : ℕ) → i ≤ k → k < length ps → x ≤ slice_index_or ps k 0) → x ≤ slice_index_or least i 0

-- so many of some places lie before a place, and the others do not
pub record IsCut (ps : List ℕ) (end : ℕ) (c : Cut) : Type 0 where
  pub few : c.met ≤ length ps
  pub low : c.place ≤ end
  pub before : (k : ℕ) → k < c.met → slice_index_or ps k 0 < c.place
  pub after : (k : ℕ) → c.met ≤ k → k < length ps → c.place ≤ slice_index_or ps k 0

-- places rise, from one of them up to another
pub record RiseFrom (ps : List ℕ) (from to : ℕ) : Type 0 where
  pub next : from ≤ to
  pub rises : (j k : ℕ) → from ≤ j → j < k → k < to → slice_index_or ps j 0 < slice_index_or ps k 0

-- what lies between two cuts
pub record IsRegion (ps : List ℕ) (end : ℕ) (r : Region) : Type 0 where
  pub from : IsCut ps end r.from
  pub to : IsCut ps end r.to
  pub forward : r.from.place ≤ r.to.place
  pub next : r.from.met ≤ r.to.met
