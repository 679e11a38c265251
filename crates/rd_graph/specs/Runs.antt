-- Places of a line as runs of places that follow each other.
-- All of it is this project's own choice.
use Rattle.std.specs.Prelude.{◌≡◌, ℕ, zero, suc, ◌+◌, ◌-◌, ◌<◌, ◌≤◌, ◌⊎◌, true, false, if◌then◌else◌, List, [], ◌∷◌, ◌++◌, length, take, drop, Option, Some, None, vec_len, vec_capacity}
use Rattle.std.specs.declared.vec.Vec.{Vec}
use Rattle.rd_graph.specs.Gathered.{gathered}
use Rattle.rd_graph.specs.declared.runs.Run.{Run}

-- so many places from one on, which follow each other
abbrev pub up_from : ℕ → ℕ → List ℕ
up_from p zero = []
up_from p (suc count) = p ∷ up_from (p + 1) count

-- the places of runs, one run after another
abbrev pub places_of : List Run → List ℕ
places_of [] = []
places_of (r ∷ rs) = up_from r.from r.count ++ places_of rs

-- the places of a run that is set aside
abbrev pub set_aside : Run → List ℕ
set_aside r = if r.aside then up_from r.from r.count else []

-- those of all such runs
abbrev pub places_aside : List Run → List ℕ
places_aside [] = []
places_aside (r ∷ rs) = set_aside r ++ places_aside rs

-- the elements of a run: out of another list, where they come first, if the run is set aside
abbrev pub taken : {T : Type 0} → Run → List T → List T → List T
taken r xs ys = if r.aside then take r.count ys else gathered (up_from r.from r.count) xs

-- the elements of runs, one run after another
abbrev pub woven : {T : Type 0} → List Run → List T → List T → List T
woven [] xs ys = []
woven (r ∷ rs) xs ys = taken r xs ys ++ woven rs xs (drop (length (set_aside r)) ys)

-- In runs over n old elements and m made ones, counted on from them, each run that is not set aside is of old ones or of made
-- ones. Those of old ones rise, none before `old`, and so do those of made ones, none before `made`.
abbrev pub RunsRise : ℕ → ℕ → ℕ → ℕ → List Run → Type 0
RunsRise n m old made [] = Unit {0}
RunsRise n m old made (r ∷ rs) =
    ((r.aside ≡ true) × RunsRise n m old made rs)
    ⊎ ((r.aside ≡ false) × (r.from < n) × (old ≤ r.from) × (r.from + r.count ≤ n) × RunsRise n m (r.from + r.count) made rs)
    ⊎ ((r.aside ≡ false) × (n + made ≤ r.from) × (r.from + r.count ≤ n + m) × RunsRise n m old (r.from - n + r.count) rs)

-- where there is a line, there is empty room for as many elements
abbrev pub HasLineRoom : {E B : Type 0} → Option (List ℕ) → Vec E B → Type 0
HasLineRoom None room = Unit {0}
HasLineRoom (Some line) room = (vec_len room ≡ 0) × (length line ≤ vec_capacity room)
