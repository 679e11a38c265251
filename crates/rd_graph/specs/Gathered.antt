-- Elements of a list by their places.
use Rattle.std.specs.Prelude.{ℕ, ◌<◌, ◌≢◌, List, [], ◌∷◌, ◌++◌, take, drop, length, slice_index_or, Option, Some, None}

-- the elements at these places, one after another
abbrev pub gathered : {T : Type 0} → List ℕ → List T → List T
gathered [] xs = []
gathered (p ∷ ps) xs = take 1 (drop p xs) ++ gathered ps xs

-- a list as it stands, or the elements at these places
abbrev pub arranged : {T : Type 0} → Option (List ℕ) → List T → List T
arranged None xs = xs
arranged (Some line) xs = gathered line xs

-- each place is one of the list's, and no place comes twice
pub record ArePlaces (ps : List ℕ) (n : ℕ) : Type 0 where
  pub within : (k : ℕ) → k < length ps → slice_index_or ps k 0 < n
  pub apart : (j k : ℕ) → j < k → k < length ps → slice_index_or ps j 0 ≢ slice_index_or ps k 0

-- the same of the places of a line, where there is one
abbrev pub IsLine : Option (List ℕ) → ℕ → Type 0
IsLine None n = Unit {0}
IsLine (Some line) n = ArePlaces line n
