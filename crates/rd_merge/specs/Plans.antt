-- Plans of a merge: what it puts where in a kept level, and the patch of the level's graph.
-- All of it is this project's own choice.
use Rattle.std.specs.Prelude.{◌≡◌, ℕ, zero, suc, ◌+◌, ◌<◌, Bool, true, false, List, [], ◌∷◌, Option, Some, None, is_some, unwrap_or}
use Rattle.rd_keys.specs.declared.entry.EntryKey.{EntryKey}
use Rattle.rd_item.specs.Items.{Made}
use Rattle.rd_graph.specs.Gathered.{IsLine}
use Rattle.rd_graph.specs.Patches.{PatchOf, line_of, patched, FitsPatch}
use Rattle.rd_list.specs.Wrappers.{Wrapper}
use Rattle.rd_list.specs.Entries.{Entries, nil, leaf, group, ◌▷◌}
use Rattle.rd_list.specs.Kept.{Ordered, KeptList}
use Rattle.rd_list.specs.Views.{group_at}

-- ---- entries by their places

module _ {G L : Type 0} where
  -- how many entries a level has
  abbrev pub size_of : Entries G L → ℕ
  size_of nil = 0
  size_of (leaf l rest) = suc (size_of rest)
  size_of (group g inner rest) = suc (size_of rest)

  -- the entry at a place, alone
  abbrev pub entry_at : ℕ → Entries G L → Entries G L
  entry_at i nil = nil
  entry_at zero (leaf l rest) = leaf l nil
  entry_at zero (group g inner rest) = group g inner nil
  entry_at (suc i) (leaf l rest) = entry_at i rest
  entry_at (suc i) (group g inner rest) = entry_at i rest

  -- the entries at these places, one after another
  abbrev pub gathered_entries : List ℕ → Entries G L → Entries G L
  gathered_entries [] xs = nil
  gathered_entries (p ∷ ps) xs = entry_at p xs ▷ gathered_entries ps xs

  -- a level as it stands, or the entries at these places
  abbrev pub arranged_entries : Option (List ℕ) → Entries G L → Entries G L
  arranged_entries None xs = xs
  arranged_entries (Some line) xs = gathered_entries line xs

  -- a level with another entry at a place
  abbrev pub with_entry : ℕ → Entries G L → Entries G L → Entries G L
  with_entry i e nil = nil
  with_entry zero e (leaf l rest) = e ▷ rest
  with_entry zero e (group g inner rest) = e ▷ rest
  with_entry (suc i) e (leaf l rest) = leaf l (with_entry i e rest)
  with_entry (suc i) e (group g inner rest) = group g inner (with_entry i e rest)

  -- an entry put at its place, or on top where it has none
  abbrev pub put_entry : Option ℕ → Entries G L → Entries G L → Entries G L
  put_entry None e xs = xs ▷ e
  put_entry (Some i) e xs = with_entry i e xs

  -- what stands after the first entry
  abbrev pub later : Entries G L → Entries G L
  later nil = nil
  later (leaf l rest) = rest
  later (group g inner rest) = rest

-- ---- steps

-- what a plan says of a group: its place in the kept level, none where it is made; whether the next new entry goes into it; and the patch of its graph
pub record GroupStep : Type 0 where
  pub old : Option ℕ
  pub is_new : Bool
  pub patch : PatchOf EntryKey

-- one step for each entry that is put: for a new leaf its place, none where it is made; for a group the steps within it
abbrev pub Steps : Type 0
Steps = Entries GroupStep (Option ℕ)

-- how many entries are made
abbrev pub one_made : Option ℕ → ℕ
one_made None = 1
one_made (Some i) = 0

abbrev pub made_count : Steps → ℕ
made_count nil = 0
made_count (leaf place rest) = one_made place + made_count rest
made_count (group s inner rest) = one_made s.old + made_count rest

pub record PlanList : Type 0 where
  pub patch : PatchOf EntryKey
  pub steps : Steps

-- ---- what a plan makes

-- the list of the group at a place of a kept level, if a place is given; else the empty list
abbrev pub old_list : Option ℕ → Entries (Ordered EntryKey Wrapper) Made → KeptList EntryKey Wrapper Made
old_list None xs = record { graph = []; entries = nil }
old_list (Some i) xs = unwrap_or (group_at i xs) (record { graph = []; entries = nil })

-- what is said of the group at a place
abbrev pub wrapper_at : ℕ → Entries (Ordered EntryKey Wrapper) Made → Option Wrapper
wrapper_at i nil = None
wrapper_at zero (leaf m rest) = None
wrapper_at zero (group g inner rest) = Some g.of
wrapper_at (suc i) (leaf m rest) = wrapper_at i rest
wrapper_at (suc i) (group g inner rest) = wrapper_at i rest

-- what is said of the first entry, if it is a group
abbrev pub first_wrapper : Entries Wrapper Made → Option Wrapper
first_wrapper nil = None
first_wrapper (leaf m rest) = None
first_wrapper (group g inner rest) = Some g

-- the list of the first entry, if it is a group
abbrev pub first_list : Entries Wrapper Made → Entries Wrapper Made
first_list nil = nil
first_list (leaf m rest) = nil
first_list (group g inner rest) = inner

-- the first leaf, as a kept one
abbrev pub first_leaf : Entries Wrapper Made → Entries (Ordered EntryKey Wrapper) Made
first_leaf nil = nil
first_leaf (leaf m rest) = leaf m nil
first_leaf (group g inner rest) = nil

-- what a step says of its group: what the new list does, if the next new entry goes into it; else what the kept one does
abbrev pub wrapper_for : Bool → Option ℕ → Entries (Ordered EntryKey Wrapper) Made → Entries Wrapper Made → Option Wrapper
wrapper_for true old kept fresh = first_wrapper fresh
wrapper_for false None kept fresh = None
wrapper_for false (Some i) kept fresh = wrapper_at i kept

-- the new list that goes into a group, and the new entries that are left after it
abbrev pub list_for : Bool → Entries Wrapper Made → Entries Wrapper Made
list_for true fresh = first_list fresh
list_for false fresh = nil

abbrev pub left_for : Bool → Entries Wrapper Made → Entries Wrapper Made
left_for true fresh = later fresh
left_for false fresh = fresh

-- a group of a list, if it is known what is said of it
abbrev pub grouped_as : Option Wrapper → KeptList EntryKey Wrapper Made → Entries (Ordered EntryKey Wrapper) Made
grouped_as None list = nil
grouped_as (Some w) list = group (record { of = w; graph = list.graph }) list.entries nil

-- A kept level after the steps with the new entries: those that are made stand on top.
abbrev pub stepped : Steps → Entries (Ordered EntryKey Wrapper) Made → Entries Wrapper Made → Entries (Ordered EntryKey Wrapper) Made
stepped nil kept fresh = kept
stepped (leaf place rest) kept fresh = stepped rest (put_entry place (first_leaf fresh) kept) (later fresh)
stepped (group s inner rest) kept fresh =
    stepped rest
    (put_entry s.old
    (grouped_as (wrapper_for s.is_new s.old kept fresh) (record {
      graph = patched s.patch ((old_list s.old kept).graph);
      entries = arranged_entries (line_of s.patch) (stepped inner ((old_list s.old kept).entries) (list_for s.is_new fresh));
    }))
    kept)
    (left_for s.is_new fresh)

-- A plan filled from a kept list and a new one.
abbrev pub filled : PlanList → KeptList EntryKey Wrapper Made → Entries Wrapper Made → KeptList EntryKey Wrapper Made
filled plan kept fresh = record { graph = patched plan.patch kept.graph; entries = arranged_entries (line_of plan.patch) (stepped plan.steps kept.entries fresh) }

-- ---- when a plan fits two lists

-- where there is no line, no entry is made
abbrev pub MakesNone : Option (List ℕ) → Steps → Type 0
MakesNone None steps = made_count steps ≡ 0
MakesNone (Some line) steps = Unit {0}

-- the place of a leaf is one of the level's
abbrev pub IsPlace : Option ℕ → ℕ → Type 0
IsPlace None n = Unit {0}
IsPlace (Some i) n = i < n

-- a group stands at the place, if one is given
abbrev pub IsGroupPlace : Option ℕ → Entries (Ordered EntryKey Wrapper) Made → Type 0
IsGroupPlace None xs = Unit {0}
IsGroupPlace (Some i) xs = is_some (group_at i xs) ≡ true

-- it is known what is said of the group
abbrev pub IsNamed : Bool → Option ℕ → Entries Wrapper Made → Type 0
IsNamed true old fresh = is_some (first_wrapper fresh) ≡ true
IsNamed false old fresh = is_some old ≡ true

-- Each step of a level of n kept entries finds the new entry and the place that it names.
abbrev pub StepsFit : ℕ → Steps → Entries (Ordered EntryKey Wrapper) Made → Entries Wrapper Made → Type 0
StepsFit n nil kept fresh = Unit {0}
StepsFit n (leaf place rest) kept fresh =
    IsPlace place n × (size_of (first_leaf fresh) ≡ 1) × StepsFit n rest (put_entry place (first_leaf fresh) kept) (later fresh)
StepsFit n (group s inner rest) kept fresh =
    (IsPlace s.old n × IsGroupPlace s.old kept × IsNamed s.is_new s.old fresh
    × FitsPatch s.patch ((old_list s.old kept).graph)
    × IsLine (line_of s.patch) (size_of ((old_list s.old kept).entries) + made_count inner)
    × MakesNone (line_of s.patch) inner
    × StepsFit (size_of ((old_list s.old kept).entries)) inner ((old_list s.old kept).entries) (list_for s.is_new fresh))
    × StepsFit n rest
    (put_entry s.old
    (grouped_as (wrapper_for s.is_new s.old kept fresh) (record {
      graph = patched s.patch ((old_list s.old kept).graph);
      entries = arranged_entries (line_of s.patch) (stepped inner ((old_list s.old kept).entries) (list_for s.is_new fresh));
    }))
    kept)
    (left_for s.is_new fresh)

-- A plan fits a kept list and a new one: its patch is one of the kept graph, and each step finds what it names.
pub record PlacesFit (plan : PlanList) (kept : KeptList EntryKey Wrapper Made) (fresh : Entries Wrapper Made) : Type 0 where
  pub patch : FitsPatch plan.patch kept.graph
  pub line : IsLine (line_of plan.patch) (size_of kept.entries + made_count plan.steps)
  pub still : MakesNone (line_of plan.patch) plan.steps
  pub steps : StepsFit (size_of kept.entries) plan.steps kept.entries fresh
