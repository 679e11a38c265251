-- Chunks of 64 nodes that follow each other, and of which kinds the names before them are.
use Rattle.std.specs.Prelude.{◌≡◌, ℕ, ◌+◌, ◌/◌, ◌%◌, ◌<◌, ◌≤◌, true, List, [], ◌∷◌, length, slice_index_or}
use Rattle.std.specs.Int.{bit_at}
use Rattle.std.specs.Int.Bits.{bit_and}
use Rattle.indexmap.specs.IndexMap.{IndexMap}
use Rattle.rd_keys.specs.declared.entry.EntryKey.{EntryKey}
use Rattle.rd_keys.specs.declared.entry.EntryKey.TheVariants as key
use Rattle.rd_graph.specs.Graphs.{Graph}
use Rattle.rd_graph.specs.Internal.Relisting.{IsAt}
use Rattle.rd_graph.specs.Internal.Tables.{has_it}

-- of which of 64 kinds a name is
abbrev pub kind_of : EntryKey → ℕ
kind_of (key.Leaf k p) = k.slot / 256 % 64
kind_of (key.Group k) = k.slot / 256 % 64

-- the kind of a name is one of these, each of which is a bit
abbrev pub HasKind : ℕ → EntryKey → Type 0
HasKind kinds k = bit_at kinds (kind_of k) ≡ 1

-- so are those of all names of a list
abbrev pub HasKinds : ℕ → List EntryKey → Type 0
HasKinds kinds [] = Unit {0}
HasKinds kinds (k ∷ ks) = HasKind kinds k × HasKinds kinds ks

-- and those of all names that go
abbrev pub HasKindsOf : {S : Type 0} → ℕ → IndexMap EntryKey ℕ S → Type 0
HasKindsOf kinds names = (k : EntryKey) → has_it names k ≡ true → HasKind kinds k

-- the kinds of these are among those
abbrev pub KeepsKinds : ℕ → ℕ → Type 0
KeepsKinds old new = (k : EntryKey) → HasKind old k → HasKind new k

-- the kinds of the names before the nodes on a stretch of places are among these
abbrev pub HasAlong : ℕ → Graph EntryKey → ℕ → ℕ → Type 0
HasAlong kinds g from to = (k : ℕ) (x : EntryKey × List EntryKey) → IsAt g k x → from ≤ k → k < to → HasKinds kinds x.1

-- the kinds of a place's chunk
abbrev pub kinds_at : List ℕ → ℕ → ℕ
kinds_at chunks k = slice_index_or chunks (k / 64) 0

-- Chunks tell the kinds of the names before each node of a graph that stands in one of them, up to a place.
abbrev pub TellsTo : List ℕ → Graph EntryKey → ℕ → Type 0
TellsTo chunks g end = (k : ℕ) (x : EntryKey × List EntryKey) → IsAt g k x → k < end → k / 64 < length chunks → HasKinds (kinds_at chunks k) x.1

-- the same of all its nodes
abbrev pub Tells : List ℕ → Graph EntryKey → Type 0
Tells chunks g = (k : ℕ) (x : EntryKey × List EntryKey) → IsAt g k x → k / 64 < length chunks → HasKinds (kinds_at chunks k) x.1

-- the places of a stretch lie in the chunk of the first
abbrev pub IsInOne : ℕ → ℕ → Type 0
IsInOne from to = (k : ℕ) → from ≤ k → k < to → k / 64 ≡ from / 64

-- no name of these kinds stands before a node of a place's chunk
abbrev pub IsApart : List ℕ → ℕ → ℕ → Type 0
IsApart chunks place kinds = (place / 64 < length chunks) × (bit_and (kinds_at chunks place) kinds ≡ 0)

-- so many nodes of one graph are those of another from a place on
abbrev pub IsMoved : Graph EntryKey → Graph EntryKey → ℕ → ℕ → ℕ → Type 0
IsMoved old new from to count = (k : ℕ) (x : EntryKey × List EntryKey) → k < count → IsAt new (to + k) x → IsAt old (from + k) x
