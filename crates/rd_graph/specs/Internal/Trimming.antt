-- Lists of predecessors without what a chain implies.
use Rattle.std.specs.Prelude.{◌≡◌, ℕ, ◌<◌, max, ◌==◌, Bool, true, false, if◌then◌else◌, List, [], ◌∷◌, ◌++◌, length, map, slice_index_or, Contains, Option, Some, None}
use Rattle.rd_keys.specs.declared.entry.EntryKey.{EntryKey}
use Rattle.rd_graph.specs.Internal.Relisting.{mark_of}

-- the higher of a place and another one, if there is one
abbrev pub higher : ℕ → Option ℕ → ℕ
higher top None = top
higher top (Some i) = max top i

-- is a name left, whose place in the chain this is?
abbrev pub is_left : ℕ → Option ℕ → Bool
is_left top None = true
is_left top (Some i) = i == top

module _ {E : Type 0} (place : E → Option ℕ) where
  -- the highest place of names, or else the one given
  abbrev pub highest : ℕ → List E → ℕ
  highest top [] = top
  highest top (k ∷ ks) = highest (higher top (place k)) ks

  -- the names that are left
  abbrev pub left_in : ℕ → List E → List E
  left_in top [] = []
  left_in top (k ∷ ks) = (if is_left top (place k) then k ∷ [] else []) ++ left_in top ks

  -- a list, of the names of the chain only the last
  abbrev pub trimmed : List E → List E
  trimmed ks = left_in (highest 0 ks) ks

  -- the same of each list
  abbrev pub all_trimmed : List (ℕ × List E) → List (ℕ × List E)
  all_trimmed ls = map (λ l. (l.0, trimmed l.1)) ls

-- a name has its mark
abbrev pub HasMark : List Bool → EntryKey → Type 0
HasMark marks k = slice_index_or marks (mark_of k) false ≡ true

-- marks that were set stay set
abbrev pub KeepsMarks : List Bool → List Bool → Type 0
KeepsMarks old new = (i : ℕ) → slice_index_or old i false ≡ true → slice_index_or new i false ≡ true

-- each name of a list of two or more has its mark
abbrev pub AreAsked : List (ℕ × List EntryKey) → List Bool → Type 0
AreAsked ls marks = (l : ℕ × List EntryKey) → Contains ls l → 1 < length l.1 → (k : EntryKey) → Contains l.1 k → HasMark marks k
