-- Nodes that are taken out of their places.
use Rattle.std.specs.Prelude.{◌≡◌, ℕ, ◌+◌, ◌<◌, ◌≤◌, ◌⊎◌, ◌≢◌, List, length, slice_index_or, Contains}

-- a list with one place changed
pub record KeepsOthers {T : Type 0} (i : ℕ) (old new : List T) : Type 0 where
  pub size : length new ≡ length old
  pub others : (k : ℕ) (d : T) → k ≢ i → slice_index_or new k d ≡ slice_index_or old k d

-- a list as it was but for so many places from one on
pub record KeepsOutside {T : Type 0} (from count : ℕ) (old new : List T) : Type 0 where
  pub size : length new ≡ length old
  pub others : (k : ℕ) (d : T) → (k < from) ⊎ (from + count ≤ k) → slice_index_or new k d ≡ slice_index_or old k d

-- a list as it was but for these places
pub record KeepsBut {T : Type 0} (ps : List ℕ) (old new : List T) : Type 0 where
  pub size : length new ≡ length old
  pub others : (k : ℕ) (d : T) → (Contains ps k → ⊥) → slice_index_or new k d ≡ slice_index_or old k d
