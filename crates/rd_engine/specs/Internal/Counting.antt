-- Counts of new lists.
use Rattle.std.specs.Prelude.{◌≡◌, ℕ, ◌+◌, ◌-◌, ◌≤◌, ◌^◌, List, length, take, min}
use Rattle.rd_item.specs.Items.{Made}
use Rattle.rd_list.specs.Wrappers.{Wrapper}
use Rattle.rd_list.specs.Entries.{Entries, flat, list_size}
use Rattle.rd_list.specs.NewView.{new_entries}
use Rattle.rd_list.specs.declared.fresh.NewEntry.{NewEntry}
use Rattle.rd_engine.specs.declared.counting.Counts.{Counts}

-- so many leaves, and so many entries, or else the greatest number
pub record IsCountOf (c : Counts) (some all : ℕ) : Type 0 where
  pub leaves : c.leaves ≡ some
  pub entries : c.entries ≡ min all (2 ^ 64 - 1)

-- those of a list
abbrev pub IsCount : Counts → Entries Wrapper Made → Type 0
IsCount c xs = IsCountOf c (length (flat xs)) (list_size xs)

-- the entries from one place up to another are leaves
pub record AreLeaves {A : Type 0} (es : List (NewEntry A)) (from to : ℕ) : Type 0 where
  pub order : from ≤ to
  pub leaves : length (flat (new_entries (take to es))) ≡ length (flat (new_entries (take from es))) + (to - from)
  pub entries : list_size (new_entries (take to es)) ≡ list_size (new_entries (take from es)) + (to - from)
