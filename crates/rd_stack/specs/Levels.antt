-- What it is to be by level (CSS 2.2 Appendix E.2).
use Rattle.std.specs.Prelude.{◌≡◌, Bool, false, not, ◌&&◌, List, filter, AllPairs, IsPermutation}
use Rattle.rd_stack.specs.Painting.{Painted, is_lower, by_level}

-- is neither of two layers lower than the other?
abbrev pub same_level : Painted → Painted → Bool
same_level x y = not (is_lower x y) && not (is_lower y x)

-- the same layers, none above one of a higher level, and those of each level as they stood
pub record IsByLevel (sorted layers : List Painted) : Type 0 where
  pub same : IsPermutation sorted layers
  pub rising : AllPairs (λ x y. is_lower y x ≡ false) sorted
  pub stable : (x : Painted) → filter (same_level x) sorted ≡ filter (same_level x) layers

-- so `by_level` puts them
abbrev pub LevelsLaw : Type 0
LevelsLaw = (layers : List Painted) → IsByLevel (by_level layers) layers
