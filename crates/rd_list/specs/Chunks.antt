-- Chunks of the entries of a level, and what each tells of its entries.
-- All of it is this project's own choice.
use Rattle.std.specs.Prelude.{◌≡◌, ℕ, ◌+◌, ◌≤◌, false, ◌<◌, ◌≢◌, IfSome, MatchOption, Option, None, Some, Box, List, [], ◌∷◌, length, map, take, drop, slice_index_or}
use Rattle.std.specs.declared.alloc.Global.{Global}
use Rattle.rd_geom.specs.Plane.{Rectangle, IsWithin}
use Rattle.rd_item.specs.Items.{Made}
use Rattle.rd_keys.specs.Keys.{BoxKey}
use Rattle.rd_keys.specs.Ranges.{IsAmong}
use Rattle.rd_keys.specs.declared.entry.EntryKey.{EntryKey}
use Rattle.rd_keys.specs.declared.range.KeyRange.{KeyRange}
use Rattle.rd_list.specs.Entries.{Entries, nil, leaf, group, flat, is_empty}
use Rattle.rd_list.specs.Kept.{Ordered}
use Rattle.rd_list.specs.Wrappers.{Wrapper}
use Rattle.rd_list.specs.KeptView.{kept_entries}
use Rattle.rd_list.specs.declared.chunks.Chunk.{Chunk}
use Rattle.rd_list.specs.declared.blocks.Chunks.{Chunks}
use Rattle.rd_list.specs.declared.told.ChunkBounds.{ChunkBounds}
use Rattle.rd_list.specs.declared.kept.Entry.{Entry}
use Rattle.rd_list.specs.declared.kept.Entry.TheVariants.{Leaf, Group}
use Rattle.rd_list.specs.declared.kept.Level.{Level}

-- how many entries chunks have
abbrev pub total : List Chunk → ℕ
total [] = 0
total (b ∷ bs) = b.count + total bs

-- the sum of numbers
abbrev pub added : List ℕ → ℕ
added [] = 0
added (n ∷ ns) = n + added ns

-- of numbers of entries, each that of a block is the sum of the next eight, those of chunks, as far as there are blocks
abbrev pub AreEights : List ℕ → List ℕ → Type 0
AreEights [] ns = Unit {0}
AreEights (m ∷ ms) ns = (8 ≤ length ns) × (m ≡ added (take 8 ns)) × AreEights ms (drop 8 ns)

-- how many entries each chunk has
abbrev pub counts : List Chunk → List ℕ
counts bs = map (λ (b : Chunk). b.count) bs

-- so many chunks come before one, and so many entries before its own
abbrev pub IsAt : List Chunk → ℕ → ℕ → Type 0
IsAt bs at start = (at ≤ length bs) × (start ≡ total (take at bs))

-- the place is one of the chunk's, where there is one
abbrev pub IsFound : List Chunk → ℕ → ℕ → ℕ → Type 0
IsFound bs at start place = (start ≤ place) × ((b : Chunk) → at < length bs → b ≡ slice_index_or bs at b → place < start + b.count)

-- what may be seen of each of some leaves is in the rectangle
abbrev pub AreWithin : Rectangle → List Made → Type 0
AreWithin hull [] = Unit {0}
AreWithin hull (m ∷ ms) = IsWithin m.leaf.visible hull × AreWithin hull ms

-- the boxes of some leaves and of the groups round them are among these, and no group is empty
abbrev pub AreNamed : KeyRange → Entries (Ordered EntryKey Wrapper) Made → Type 0
AreNamed keys nil = Unit {0}
AreNamed keys (leaf m rest) = IsAmong keys m.leaf.owner × AreNamed keys rest
AreNamed keys (group g inner rest) = IsAmong keys g.of.key × (is_empty inner ≡ false) × AreNamed keys inner × AreNamed keys rest

-- each of some leaves was made by this paint or before
abbrev pub AreMadeBy : ℕ → List Made → Type 0
AreMadeBy n [] = Unit {0}
AreMadeBy n (m ∷ ms) = (m.made_at ≤ n) × AreMadeBy n ms

-- what is told of a list
abbrev pub IsListTold : ChunkBounds → Entries (Ordered EntryKey Wrapper) Made → Type 0
IsListTold t list = AreWithin t.hull (flat list) × (length (flat list) ≡ t.leaves) × AreNamed t.keys list × AreMadeBy t.newest (flat list)

-- what is told of the group of a box with a list
abbrev pub IsGroupTold : ChunkBounds → BoxKey → Entries (Ordered EntryKey Wrapper) Made → Type 0
IsGroupTold t key list = IsListTold t list × IsAmong t.keys key × (is_empty list ≡ false)

-- the second says of other entries all that the first does
pub record IsWider (told wider : ChunkBounds) : Type 0 where
  pub hull : IsWithin told.hull wider.hull
  pub keys : (k : BoxKey) → IsAmong told.keys k → IsAmong wider.keys k
  pub newest : told.newest ≤ wider.newest

-- A chunk where another entry comes: it is open, or it says what it said, and of a leaf, of which this is told, that too.
pub record IsReplaced (told : Option ChunkBounds) (old new : Chunk) : Type 0 where
  pub count : new.count ≡ old.count
  pub closed : new.is_open ≡ false → (old.is_open ≡ false) × IsWider old.told new.told × (new.told.leaves ≡ old.told.leaves) × MatchOption told ⊥ (λ t. IsWider t new.told)

module _ {A : Type 0} where
  -- all that may be seen of an entry is in the rectangle
  abbrev pub IsHeld : Rectangle → Entry A → Type 0
  IsHeld hull (Leaf i) = IsWithin i.leaf.visible hull
  IsHeld hull (Group g) = AreWithin hull (flat g.inner.entries)

  -- so is that of each of some entries
  abbrev pub AreHeld : Rectangle → List (Entry A) → Type 0
  AreHeld hull [] = Unit {0}
  AreHeld hull (e ∷ es) = IsHeld hull e × AreHeld hull es

  -- how many leaves entries are or hold
  abbrev pub leaf_count : List (Entry A) → ℕ
  leaf_count es = length (flat (kept_entries es))

  -- what is told of entries
  abbrev pub IsTold : ChunkBounds → List (Entry A) → Type 0
  IsTold t es = AreHeld t.hull es × (leaf_count es ≡ t.leaves) × AreNamed t.keys (kept_entries es) × AreMadeBy t.newest (flat (kept_entries es))

  -- What a chunk that is not open says of its entries.
  abbrev pub Tells : Chunk → List (Entry A) → Type 0
  Tells b es = IsTold b.told es

  -- Chunks one after another are those of the first entries of a level.
  abbrev pub Covers : List Chunk → List (Entry A) → Type 0
  Covers [] es = Unit {0}
  Covers (b ∷ bs) es = (b.count ≤ length es) × (b.is_open ≡ false → Tells b (take b.count es)) × Covers bs (drop b.count es)

  -- The chunks of a level are those of its first entries, and so are the blocks, each of eight of the chunks.
  pub record AreCovered (c : Chunks) (es : List (Entry A)) : Type 0 where
    pub chunks : Covers c.chunks.items es
    pub blocks : Covers c.blocks.items es
    pub eights : AreEights (counts c.blocks.items) (counts c.chunks.items)

  -- So are those of a level that may have no room.
  abbrev pub CoversLevel : Option (Box (Level A) Global) → Type 0
  CoversLevel None = Unit {0}
  CoversLevel (Some l) = AreCovered l.value.chunks l.value.entries.items

  -- They are those of all entries.
  abbrev pub CoversAll : List Chunk → List (Entry A) → Type 0
  CoversAll bs es = Covers bs es × (total bs ≡ length es)

  abbrev pub IsLeaf : Entry A → Type 0
  IsLeaf (Leaf i) = Unit {0}
  IsLeaf (Group g) = ⊥

  -- A level with another entry at a place: if something is told, one leaf for another, of which it is told.
  pub record ChangesTo (place : ℕ) (told : Option ChunkBounds) (old new : List (Entry A)) : Type 0 where
    pub size : length new ≡ length old
    pub others : (k : ℕ) (d : Entry A) → k ≢ place → slice_index_or new k d ≡ slice_index_or old k d
    pub there : (x y : Entry A) → place < length new → x ≡ slice_index_or new place x → y ≡ slice_index_or old place y → IfSome told (λ t. IsTold t (x ∷ []) × IsLeaf x × IsLeaf y)
