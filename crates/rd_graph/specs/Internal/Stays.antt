-- Which places of a level stay, by a bit for each, which is set where its node goes.
use Rattle.std.specs.Prelude.{ℕ, zero, suc, ◌+◌, ◌/◌, ◌%◌, ◌==◌, Bool, List, [], ◌∷◌, slice_index_or}
use Rattle.std.specs.Int.{bit_at}

-- Is the bit of a place not set?
abbrev pub is_clear : List ℕ → ℕ → Bool
is_clear words p = bit_at (slice_index_or words (p / 64) 0) (p % 64) == 0

-- of so many places, from one on, whether each stays
abbrev pub stay_from : List ℕ → ℕ → ℕ → List Bool
stay_from words p zero = []
stay_from words p (suc n) = is_clear words p ∷ stay_from words (p + 1) n
