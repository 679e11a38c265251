-- What a walk reads of a box, without opening its node.
use Rattle.std.specs.Prelude.{◌≡◌, ◌≢◌, ℕ, ◌+◌, ◌-◌, ◌*◌, ◌/◌, ◌%◌, ◌<◌, ◌==◌, ◌||◌, Bool, true, false, not, if◌then◌else◌, List, [], ◌∷◌, ◌++◌, length, map, nat_le, nat_lt, slice_index, slice_index_or, slice_set, Option, Some, None}
use Rattle.std.specs.Int.{bit_at}
use Rattle.std.specs.Int.Bits.{bit_and}
use Rattle.rd_keys.specs.Arena.{Arena, slot_at}
use Rattle.rd_keys.specs.Keys.{BoxKey}
use Rattle.rd_tree.specs.declared.node.Node as inner
use Rattle.rd_tree.specs.declared.glance.Glance.{Glance}
use Rattle.rd_tree.specs.declared.shared.PageWord.{PageWord}
use Rattle.rd_tree.specs.declared.shared.TheConstants.{NOT_QUIET, PAGE}

-- of a slot without a live key: whatever key is asked for counts as touched
abbrev pub unseen : Glance
unseen = record { generation = 0; live = false; touched = true; first = None; next = None }

-- of the node under the key of this generation
abbrev pub glance_of : ℕ → inner.Node → Glance
glance_of g n = record {
  generation = g;
  live = true;
  touched = n.item.touched;
  first = n.links.first;
  next = n.links.next;
}

-- the same under the key of another generation
abbrev pub at_generation : ℕ → Glance → Glance
at_generation g y = record y { generation = g }

-- the same of a box that is not touched
abbrev pub untouched : Glance → Glance
untouched y = record y { touched = false }

-- of a slot at this generation that holds this
abbrev pub glance_in : ℕ → Option inner.Node → Glance
glance_in g None = unseen
glance_in g (Some n) = glance_of g n

-- what is read of the slot of this number
abbrev pub seen_at : List Glance → ℕ → Glance
seen_at gs s = slice_index_or gs s unseen

-- with another one in place of it, or after the last
abbrev pub with_glance : List Glance → ℕ → Glance → List Glance
with_glance gs s y = if nat_lt s (length gs) then slice_set gs s y else gs ++ y ∷ []

-- how many pages so many rows are: the last may be shorter
abbrev pub pages : ℕ → ℕ
pages n = (n + PAGE - 1) / PAGE

-- the rows of slots, and for how many rows, words and pages there is room
pub record Rows : Type 0 where
  pub rows : List Glance
  pub room : ℕ
  pub word_room : ℕ
  pub page_room : ℕ
  pub calm_room : ℕ

-- there is room for a row more
pub record HasRoom (r : Rows) : Type 0 where
  pub row : length r.rows < r.room
  pub word : length r.rows < r.word_room
  pub page : pages (length r.rows) < r.page_room
  pub calm : pages (length r.rows) < r.calm_room

-- the word of a row: the generation where its box is untouched, and otherwise a number that no generation is
abbrev pub quiet_word : Glance → ℕ
quiet_word y = if y.touched then NOT_QUIET else y.generation

-- Is a key not the one of its row, or its box touched?
abbrev pub told_touched : List Glance → BoxKey → Bool
told_touched gs k =
    nat_le (length gs) k.slot || (seen_at gs k.slot).touched
    || not ((seen_at gs k.slot).generation == k.generation)

-- what is known of the page of this number
abbrev pub known_of : List PageWord → ℕ → PageWord
known_of shared b = slice_index_or shared b (record { word = 0; odd = 0; stirred = 0 })

-- the bit of a page beside the first of its 64
abbrev pub is_stirred : List PageWord → ℕ → ℕ
is_stirred shared b = bit_at (known_of shared (b / 64 * 64)).stirred (b % 64)

-- each page that is not stirred has the word 0 and no odd row
abbrev pub ArePlain : List PageWord → Type 0
ArePlain shared = (b : ℕ) → is_stirred shared b ≡ 0 → ((known_of shared b).word ≡ 0) × ((known_of shared b).odd ≡ 0)

-- Each page of rows has a word, which is a generation, and each of its rows that is not odd has it.
pub record AreShared (words : List ℕ) (shared : List PageWord) : Type 0 where
  pub all : length shared ≡ pages (length words)
  pub quiet : (b : ℕ) → (known_of shared b).word < NOT_QUIET
  pub right : (s : ℕ) → s < length words → bit_at (known_of shared (s / PAGE)).odd (s % PAGE) ≡ 0
      → slice_index words s ≡ (known_of shared (s / PAGE)).word
  pub plain : ArePlain shared

-- The word of a page is this one, and none of these rows is odd.
pub record HasWord (known : PageWord) (slots word : ℕ) : Type 0 where
  pub same : known.word ≡ word
  pub none : bit_and known.odd slots ≡ 0

-- A page is stirred, and no other one is calmed.
pub record IsStirred (old new : List PageWord) (page : ℕ) : Type 0 where
  pub len : length new ≡ length old
  pub word : (b : ℕ) → (known_of new b).word ≡ (known_of old b).word
  pub odd : (b : ℕ) → (known_of new b).odd ≡ (known_of old b).odd
  pub here : is_stirred new page ≡ 1
  pub others : (b : ℕ) → is_stirred new b ≡ 0 → is_stirred old b ≡ 0

-- No page but this one is calmed.
pub record IsCalmed (old new : List PageWord) (page : ℕ) : Type 0 where
  pub len : length new ≡ length old
  pub word : (b : ℕ) → (known_of new b).word ≡ (known_of old b).word
  pub odd : (b : ℕ) → (known_of new b).odd ≡ (known_of old b).odd
  pub others : (b : ℕ) → b ≢ page → is_stirred new b ≡ 0 → is_stirred old b ≡ 0

-- A page has these odd rows, and nothing else changes.
pub record HasOdd (old new : List PageWord) (page odd : ℕ) : Type 0 where
  pub len : length new ≡ length old
  pub word : (b : ℕ) → (known_of new b).word ≡ (known_of old b).word
  pub stirred : (b : ℕ) → (known_of new b).stirred ≡ (known_of old b).stirred
  pub here : (known_of new page).odd ≡ odd
  pub others : (b : ℕ) → b ≢ page → (known_of new b).odd ≡ (known_of old b).odd

-- What stands beside rows: the word of each, and what those of a page share.
pub record AreWords (gs : List Glance) (ws : List ℕ) (sh : List PageWord) : Type 0 where
  pub words : ws ≡ map quiet_word gs
  pub shared : AreShared ws sh

-- Of each slot that is read which it holds.
pub record AreGlances (a : Arena inner.Node) (gs : List Glance) : Type 0 where
  pub all : length gs ≡ length a.slots
  pub right : (s : ℕ) → seen_at gs s ≡ glance_in (slot_at a s).generation (slot_at a s).holds
