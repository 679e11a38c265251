-- Entries that are taken out of their places and put there.
use Rattle.std.specs.Prelude.{◌≡◌, ℕ, ◌-◌, ◌≤◌, ◌++◌, List, length, take, drop, slice_set, Option, Some, None}
use Rattle.rd_item.specs.Items.{Made}
use Rattle.rd_graph.specs.Internal.Taking.{KeepsOthers}
use Rattle.rd_list.specs.Chunks.{Covers, CoversAll}
use Rattle.rd_list.specs.declared.chunks.Chunk.{Chunk}
use Rattle.rd_list.specs.declared.kept.Entry.{Entry}
use Rattle.rd_list.specs.Wrappers.{Wrapper}
use Rattle.rd_list.specs.Entries.{Entries, nil, leaf, group}
use Rattle.rd_merge.specs.Plans.{Steps, later, left_for, with_entry}

-- a level as it was but for the entry at a place, if one is given
abbrev pub IsSameBut : {G L : Type 0} → Option ℕ → Entries G L → Entries G L → Type 0
IsSameBut None old new = new ≡ old
IsSameBut {G} {L} (Some i) old new = (e : Entries G L) → with_entry i e new ≡ with_entry i e old

-- where there is no line, no entry is made
abbrev pub NoneMade : Option (List ℕ) → ℕ → Type 0
NoneMade None n = n ≡ 0
NoneMade (Some line) n = Unit {0}

-- the new entries that are left after the first of these steps
abbrev pub left_after : Steps → Entries Wrapper Made → Entries Wrapper Made
left_after nil fresh = fresh
left_after (leaf place rest) fresh = later fresh
left_after (group s inner rest) fresh = left_for s.is_new fresh

-- a list as it was but for the element at a place, if one is given
abbrev pub ChangesAt : {T : Type 0} → Option ℕ → List T → List T → Type 0
ChangesAt None old new = new ≡ old
ChangesAt (Some i) old new = KeepsOthers i old new

-- a list with this element at a place, if one is given
abbrev pub PutsAt : {T : Type 0} → Option ℕ → T → List T → List T → Type 0
PutsAt None x old new = new ≡ old
PutsAt (Some i) x old new = new ≡ slice_set old i x

module _ {A : Type 0} where
  -- chunks of entries, and then parts of those of the entries from one place up to another, as many as there is room for
  abbrev pub PartsTo : List Chunk → List Chunk → List (Entry A) → ℕ → ℕ → Type 0
  PartsTo old new es from end = (before made : List (Entry A)) → CoversAll old before → end ≤ length (es ++ made) → Covers new (before ++ take (end - from) (drop from (es ++ made)))

  -- all of them
  abbrev pub PartsAll : List Chunk → List Chunk → List (Entry A) → ℕ → ℕ → Type 0
  PartsAll old new es from end = (before made : List (Entry A)) → CoversAll old before → end ≤ length (es ++ made) → CoversAll new (before ++ take (end - from) (drop from (es ++ made)))
