-- Groups round leaves, and the leaves of a fresh list, in memory.
use Rattle.std.specs.Prelude.{◌≡◌, ℕ, ◌<◌, ◌≤◌, List, [], ◌++◌, length, map, Option, Some, None, slice_get, Vec}
use Rattle.std.specs.List.{AllByRecursion}
use Rattle.rd_item.specs.Items.{Made}
use Rattle.rd_list.specs.Wrappers.{Wrapper}
use Rattle.rd_list.specs.Entries.{Entries, routes}
use Rattle.rd_list.specs.EntryNames.{new_leaves}
use Rattle.rd_check.specs.Internal.Lines.{Way}
use Rattle.rd_check.specs.declared.around.Around.{Around}
use Rattle.rd_check.specs.declared.around.Found.{Found}
use Rattle.rd_check.specs.declared.painted.Painted.{Painted}

-- a group in memory
abbrev pub group_of : Around → Wrapper
group_of g = record { key = g.key; opacity = g.opacity; blend = g.blend }

-- the groups of a row; none where there is no such row
abbrev pub groups_in : {A : Type 0} → Option (Vec Around A) → List Wrapper
groups_in None = []
groups_in (Some v) = map group_of v.items

abbrev pub round_at : {A : Type 0} → List (Vec Around A) → ℕ → List Wrapper
round_at rows i = groups_in (slice_get rows i)

-- The rows stay, and there may be more.
pub record IsGrown {A : Type 0} (old new : List (Vec Around A)) : Type 0 where
  pub more : length old ≤ length new
  pub same : (i : ℕ) → i < length old → round_at new i ≡ round_at old i

-- a leaf with the groups of its row
abbrev pub way_in : {A : Type 0} → List (Vec Around A) → Found → Way
way_in rows f = (round_at rows f.round, f.leaf)

-- the leaves of a fresh list in its order
abbrev pub ways_in : Painted → List Way
ways_in p = map (way_in p.rounds.rows.items) p.leaves.items

-- Each leaf has its row, and there is a row for more.
pub record CanAdd (round : ℕ) (p : Painted) : Type 0 where
  pub rows : AllByRecursion (λ f. f.round < length p.rounds.rows.items) p.leaves.items
  pub there : round < length p.rounds.rows.items

-- The leaves of a list below the groups of a row were put on top.
pub record IsAdded (round : ℕ) (list : Entries Wrapper Made) (old new : Painted) : Type 0 where
  pub grown : IsGrown old.rounds.rows.items new.rounds.rows.items
  pub rows : AllByRecursion (λ f. f.round < length new.rounds.rows.items) new.leaves.items
  pub ways : ways_in new ≡ ways_in old ++ routes (round_at old.rounds.rows.items round) (new_leaves list)
