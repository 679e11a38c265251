-- What the calls on tables and lists of nodes do, in a word each.
use Rattle.std.specs.Prelude.{◌≡◌, ℕ, Bool, if◌then◌else◌, Option, Some, None, List, [], ◌∷◌, ◌++◌, length, map, slice_index_or}
use Rattle.indexmap.specs.IndexMap.{IndexMap}
use Rattle.smallvec.specs.SmallVec.{SmallVec}
use Rattle.rd_keys.specs.declared.entry.EntryKey.{EntryKey}
use Rattle.rd_graph.specs.Graphs.{Graph}
use Rattle.rd_graph.specs.Names.{same_entry}
use Rattle.rd_graph.specs.Internal.Passes.{resolved, all_pushed, stitch_pass}
use Rattle.rd_graph.specs.Internal.Chains.{Lowers, just_before, old_part, new_among, new_part}
use Rattle.rd_graph.specs.Internal.Seen.{seen, labelled}
use Rattle.rd_graph.specs.Internal.Tables.{at, label_in, noted_in, has_it}
use Rattle.rd_graph.specs.declared.graph.Node.{Node}

-- from now on a table has this at the key
abbrev pub IsPut : {V S : Type 0} → EntryKey → V → IndexMap EntryKey V S → IndexMap EntryKey V S → Type 0
IsPut key value old new = (k : EntryKey) → at new k ≡ (if same_entry key k then Some value else at old k)

-- labels by a table; what it has not has the last label of all
abbrev pub labels_in : {S : Type 0} → IndexMap EntryKey ℕ S → List EntryKey → EntryKey → ℕ
labels_in m chain k = label_in m (length chain) k

-- labels of some nodes fall to one
abbrev pub LowersIn : {S : Type 0} → List EntryKey → ℕ → ℕ → IndexMap EntryKey ℕ S → IndexMap EntryKey ℕ S → Type 0
LowersIn before least last old new = Lowers before least (label_in old last) (label_in new last)

-- a node with the edge of a chain to it
abbrev pub with_edge : List EntryKey → Node → EntryKey × List EntryKey
with_edge chain n = (n.key, n.before.items ++ just_before same_entry chain n.key)

module _ {S : Type 0} (labels : IndexMap EntryKey ℕ S) (chain : List EntryKey) where
  -- old nodes with the edges of a chain, and their labels
  abbrev pub labelled_old : List Node → List (ℕ × (EntryKey × List EntryKey))
  labelled_old nodes = labelled (label_in labels (length chain)) (old_part same_entry chain (seen nodes))

  -- a node of a chain, if it is new
  abbrev pub labelled_if_new : {V T : Type 0} → IndexMap EntryKey V T → EntryKey → List (ℕ × (EntryKey × List EntryKey))
  labelled_if_new standing k = labelled (label_in labels (length chain)) (if has_it standing k then [] else (k, just_before same_entry chain k) ∷ [])

  -- the new nodes of a chain
  abbrev pub labelled_new : {V T : Type 0} → IndexMap EntryKey V T → List (ℕ × (EntryKey × List EntryKey))
  labelled_new standing = labelled (label_in labels (length chain)) (new_among same_entry (has_it standing) chain chain)

  -- old and new ones
  abbrev pub labelled_all : List Node → List (ℕ × (EntryKey × List EntryKey))
  labelled_all nodes = labelled (label_in labels (length chain)) (old_part same_entry chain (seen nodes) ++ new_part same_entry chain (seen nodes))

-- a predecessor, or what was noted in its place where it goes
abbrev pub in_place_of : {V S T : Type 0} → IndexMap EntryKey V S → IndexMap EntryKey (SmallVec EntryKey) T → EntryKey → List EntryKey
in_place_of gone notes k = if has_it gone k then noted_in notes k else k ∷ []

-- predecessors so, each once
abbrev pub resolved_once : {V S T : Type 0} → IndexMap EntryKey V S → IndexMap EntryKey (SmallVec EntryKey) T → List EntryKey → List EntryKey
resolved_once gone notes before = all_pushed same_entry [] (resolved same_entry (has_it gone) (noted_in notes) before)

-- a node is noted, if it goes
abbrev pub NotesIf : {T : Type 0} → Bool → EntryKey → List EntryKey → IndexMap EntryKey (SmallVec EntryKey) T → IndexMap EntryKey (SmallVec EntryKey) T → Type 0
NotesIf gone key before old new =
    (k : EntryKey) → noted_in new k ≡ (if gone then (if same_entry key k then before else noted_in old k) else noted_in old k)

-- a node is left, if it stays
abbrev pub left_if : Bool → EntryKey → List EntryKey → Graph EntryKey
left_if gone key before = if gone then [] else (key, before) ∷ []

-- the nodes that stay, after one pass
abbrev pub stitched : {V S : Type 0} → IndexMap EntryKey V S → List Node → Graph EntryKey
stitched gone nodes = stitch_pass same_entry (has_it gone) [] (seen nodes)

-- what lists of names note at a number
abbrev pub note_at : List (SmallVec EntryKey) → Option ℕ → List EntryKey
note_at notes None = []
note_at notes (Some i) = slice_index_or (map (λ (v : SmallVec EntryKey). v.items) notes) i []

-- what is noted of a name, by its number
abbrev pub noted_by : {S : Type 0} → IndexMap EntryKey ℕ S → List (SmallVec EntryKey) → EntryKey → List EntryKey
noted_by names notes k = note_at notes (at names k)

-- a predecessor, or what is noted in its place where it goes
abbrev pub in_place_by : {S : Type 0} → IndexMap EntryKey ℕ S → List (SmallVec EntryKey) → EntryKey → List EntryKey
in_place_by names notes k = if has_it names k then noted_by names notes k else k ∷ []

-- predecessors so, each once
abbrev pub resolved_by : {S : Type 0} → IndexMap EntryKey ℕ S → List (SmallVec EntryKey) → List EntryKey → List EntryKey
resolved_by names notes before = all_pushed same_entry [] (resolved same_entry (has_it names) (noted_by names notes) before)

-- a node is noted at its number, if it goes
abbrev pub NotesBy : {S : Type 0} → IndexMap EntryKey ℕ S → Bool → EntryKey → List EntryKey → List (SmallVec EntryKey) → List (SmallVec EntryKey) → Type 0
NotesBy names gone key before old new =
    (k : EntryKey) → noted_by names new k ≡ (if gone then (if same_entry key k then before else noted_by names old k) else noted_by names old k)
