-- What the merge of display lists owes, and what it rests on.
-- All of it is this project's own choice.
use Rattle.std.specs.Prelude.{◌≡◌, ℕ, ℤ, filter, length, Bool, true, false, not, ◌||◌, IsTrue, [], Contains}
use Rattle.rd_geom.specs.Plane.{has_none, holds_pixel}
use Rattle.rd_keys.specs.Keys.{BoxKey}
use Rattle.rd_keys.specs.declared.entry.EntryKey.{EntryKey}
use Rattle.rd_item.specs.declared.leaf.Leaf.{Leaf}
use Rattle.rd_item.specs.Items.{Made}
use Rattle.rd_list.specs.Wrappers.{Wrapper}
use Rattle.rd_list.specs.Entries.{Entries, nil, flat, only}
use Rattle.rd_list.specs.EntryNames.{entry_names, made_leaf, kept_leaves, new_leaves, new_lined}
use Rattle.rd_list.specs.Lists as lists
use Rattle.rd_list.specs.Lists.{leaves_meet, without_touched}
use Rattle.rd_list.specs.Joining.{IsSound}
use Rattle.rd_list.specs.Laws.{IsCovered}
use Rattle.rd_list.specs.Kept.{KeptList, KeptReady, IsMerged, reach_of}

-- what it gives stands for the fresh list, its graphs are sound, and it is ready for the next edits.
abbrev pub DisplayMerging : Type 0
DisplayMerging = (fresh : Entries Wrapper Leaf) (kept joined : KeptList EntryKey Wrapper Made) (new : Entries Wrapper Made) (stays in_area : Leaf → Bool)
    → lists.StandsFor fresh fresh
    → IsCovered entry_names leaves_meet stays in_area fresh
    → KeptReady entry_names made_leaf leaves_meet stays kept fresh
    → new_leaves new ≡ only in_area fresh
    → IsMerged entry_names made_leaf stays kept new joined
    → lists.StandsFor (kept_leaves joined.entries) fresh
    × IsSound entry_names leaves_meet (reach_of entry_names made_leaf joined) fresh
    × KeptReady entry_names made_leaf leaves_meet (λ l. true) joined fresh

-- an edit touches more boxes, and leaves the list as it was but for their leaves; then a list stays ready.
abbrev pub DisplayEditing : Type 0
DisplayEditing = (fresh next : Entries Wrapper Leaf) (kept : KeptList EntryKey Wrapper Made) (touched more : BoxKey → Bool)
    → lists.StandsFor fresh fresh
    → without_touched (λ k. touched k || more k) fresh ≡ without_touched (λ k. touched k || more k) next
    → KeptReady entry_names made_leaf leaves_meet (λ l. not (touched l.owner)) kept fresh
    → KeptReady entry_names made_leaf leaves_meet (λ l. not (touched l.owner || more l.owner)) kept next

-- an area that holds each visible pixel of the leaves that go covers them, where every leaf has a visible pixel.
abbrev pub Covering : Type 0
Covering = (fresh : Entries Wrapper Leaf) (stays in_area : Leaf → Bool) (holds : ℤ → ℤ → Bool)
    → ((l : Leaf) (x y : ℤ) → IsTrue (holds x y) → IsTrue (holds_pixel l.visible x y) → in_area l ≡ true)
    → ((l : Leaf) → Contains (flat fresh) l → has_none l.visible ≡ false)
    → ((l : Leaf) → Contains (flat fresh) l → stays l ≡ false → (x y : ℤ) → IsTrue (holds_pixel l.visible x y) → IsTrue (holds x y))
    → IsCovered entry_names leaves_meet stays in_area fresh

-- where nothing is kept and each leaf goes, the list is ready for its first paint.
abbrev pub DisplayStarting : Type 0
DisplayStarting = (fresh : Entries Wrapper Leaf) (stays : Leaf → Bool)
    → ((l : Leaf) → Contains (flat fresh) l → stays l ≡ false)
    → KeptReady entry_names made_leaf leaves_meet stays (record { graph = []; entries = nil }) fresh

-- where nothing was kept, a new list with a chain at each level is what a merge gives.
abbrev pub DisplayBeginning : Type 0
DisplayBeginning = (new : Entries Wrapper Made) (stays : Leaf → Bool)
    → lists.StandsFor (new_leaves new) (new_leaves new)
    → IsMerged entry_names made_leaf stays (record { graph = []; entries = nil }) new (new_lined new)

-- the numbers after a merge, where the new list was made by one paint.
pub record Numbers (number : ℕ) (fresh : Entries Wrapper Leaf) (kept joined : KeptList EntryKey Wrapper Made) (new : Entries Wrapper Made) (in_area : Leaf → Bool) : Type 0 where
  -- an item in the area has the paint's number
  pub made : (i : Made) → Contains (flat joined.entries) i → in_area i.leaf ≡ true → i.made_at ≡ number
  -- any other is an item of the old list, with the number that it had
  pub kept_one : (i : Made) → Contains (flat joined.entries) i → in_area i.leaf ≡ false → Contains (flat kept.entries) i
  -- as many are new as leaves lie in the area, and all together are the leaves
  pub built : length (flat new) ≡ length (filter in_area (flat fresh))
  pub whole : length (flat joined.entries) ≡ length (flat fresh)

-- what a merge owes of the numbers of its items.
abbrev pub Numbering : Type 0
Numbering = (number : ℕ) (fresh : Entries Wrapper Leaf) (kept joined : KeptList EntryKey Wrapper Made) (new : Entries Wrapper Made) (stays in_area : Leaf → Bool)
    → lists.StandsFor (kept_leaves joined.entries) fresh
    → new_leaves new ≡ only in_area fresh
    → IsMerged entry_names made_leaf stays kept new joined
    → ((i : Made) → Contains (flat new) i → i.made_at ≡ number)
    → Numbers number fresh kept joined new in_area
