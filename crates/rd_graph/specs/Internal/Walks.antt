-- Places of names that are counted through: first those of a graph, then those of a chain that the graph does not have.
use Rattle.std.specs.Prelude.{◌≡◌, ◌≢◌, ◌⊎◌, ℕ, zero, suc, ◌+◌, ◌-◌, ◌<◌, ◌≤◌, Bool, false, IsTrue, if◌then◌else◌, List, [], ◌∷◌, ◌++◌, length, slice_index_or, Option, Some, None}

-- the place of a name, or else the next one that is free
abbrev pub place_or : ℕ → Option ℕ → ℕ
place_or next None = next
place_or next (Some i) = i

abbrev pub free_after : ℕ → Option ℕ → ℕ
free_after next None = next + 1
free_after next (Some i) = next

-- the places of the names of a chain; those that are not found have the free ones, in their order
abbrev pub counted : ℕ → List (Option ℕ) → List ℕ
counted next [] = []
counted next (o ∷ os) = place_or next o ∷ counted (free_after next o) os

-- places that rise, from one on, below an end
abbrev pub RisesTo : ℕ → ℕ → List ℕ → Type 0
RisesTo end least [] = Unit {0}
RisesTo end least (p ∷ ps) = (least ≤ p) × (p < end) × RisesTo end (p + 1) ps

-- ---- a walk along the old places, where the ones that stay are marked

-- does the node at a place stay?
abbrev pub stays_at : List Bool → ℕ → Bool
stays_at stays p = slice_index_or stays p false

-- of some places one after another, those that stay
abbrev pub staying : List Bool → ℕ → ℕ → List ℕ
staying stays from zero = []
staying stays from (suc count) = (if stays_at stays from then from ∷ [] else []) ++ staying stays (from + 1) count

-- where the walk goes on after a place of the chain
abbrev pub from_after : List Bool → ℕ → ℕ → ℕ
from_after stays from p = if stays_at stays p then p + 1 else from

-- a place of the chain, and before it, if it stays, those that stay since the walk stopped
abbrev pub led_to : List Bool → ℕ → ℕ → List ℕ
led_to stays from p = (if stays_at stays p then staying stays from (p - from) else []) ++ p ∷ []

-- the whole walk
abbrev pub walk : List Bool → ℕ → List ℕ → List ℕ
walk stays from [] = staying stays from (length stays - from)
walk stays from (p ∷ ps) = led_to stays from p ++ walk stays (from_after stays from p) ps

-- those places of a chain that stay rise, from one on
abbrev pub RisesWhere : List Bool → ℕ → List ℕ → Type 0
RisesWhere stays from [] = Unit {0}
RisesWhere stays from (p ∷ ps) = (IsTrue (stays_at stays p) → from ≤ p) × RisesWhere stays (from_after stays from p) ps

-- a place of the chain that stays and is behind the walk
abbrev pub IsBehind : List Bool → ℕ → ℕ → Type 0
IsBehind stays from p = IsTrue (stays_at stays p) × (p < from)

-- a place of the chain that is not, and where the walk goes on after it
abbrev pub IsAhead : List Bool → ℕ → ℕ → ℕ → Type 0
IsAhead stays from p next = (IsTrue (stays_at stays p) → from ≤ p) × (next ≡ from_after stays from p)

-- of some that are looked for one after another, how many are met before a place and with it
abbrev pub IsMet : List ℕ → ℕ → ℕ → ℕ → Type 0
IsMet gone met place next =
    ((next ≡ met) × (met < length gone → slice_index_or gone met 0 ≢ place)) ⊎ ((next ≡ met + 1) × (met < length gone) × (slice_index_or gone met 0 ≡ place))
