-- Pages of rows that a walk among siblings passes at once.
use Rattle.std.specs.Prelude.{◌≡◌, ℕ, zero, suc, ◌+◌, ◌-◌, ◌*◌, ◌<◌, ◌≤◌, Bool, true, false, List, length, slice_index_or, Option, Some, None}
use Rattle.rd_keys.specs.Arena.{Arena, slot_at, value}
use Rattle.rd_keys.specs.Keys.{BoxKey}
use Rattle.rd_tree.specs.declared.node.Node as inner
use Rattle.rd_tree.specs.declared.glance.Glance.{Glance}
use Rattle.rd_tree.specs.declared.shared.PageWord.{PageWord}
use Rattle.rd_tree.specs.declared.shared.TheConstants.{PAGE}
use Rattle.rd_tree.specs.Internal.Glances.{glance_in, pages, seen_at, AreWords}

-- the row of an untouched box without children
pub record IsCalmRow (y : Glance) : Type 0 where
  pub untouched : y.touched ≡ false
  pub alone : y.first ≡ None

-- The box of a slot is followed by that of the next one.
pub record IsFollowed (gs : List Glance) (s : ℕ) : Type 0 where
  pub key : BoxKey
  pub after : (seen_at gs s).next ≡ Some key
  pub slot : key.slot ≡ s + 1
  pub generation : key.generation ≡ (seen_at gs (s + 1)).generation

-- Each row of a page is of an untouched box without children, and each box but the last is followed by that of the next slot.
pub record IsCalmPage (gs : List Glance) (p : ℕ) : Type 0 where
  pub full : PAGE * p + PAGE ≤ length gs
  pub calm : (s : ℕ) → PAGE * p ≤ s → s < PAGE * p + PAGE → IsCalmRow (seen_at gs s)
  pub followed : (s : ℕ) → PAGE * p ≤ s → s + 1 < PAGE * p + PAGE → IsFollowed gs s

-- Of each page of rows it is told whether it is known to be calm.
pub record AreCalm (gs : List Glance) (calm : List Bool) : Type 0 where
  pub all : length calm ≡ pages (length gs)
  pub right : (p : ℕ) → slice_index_or calm p false ≡ true → IsCalmPage gs p

-- What stands beside rows: their words, those of pages, and which pages are calm.
pub record AreKnown (gs : List Glance) (ws : List ℕ) (sh : List PageWord) (cs : List Bool) : Type 0 where
  pub words : AreWords gs ws sh
  pub calm : AreCalm gs cs

-- From a slot on the rows of a page's boxes are calm, each but the last is followed by the next one, and the last by this box.
pub record IsPassed (gs : List Glance) (s : ℕ) (to : Option BoxKey) : Type 0 where
  pub full : s + PAGE ≤ length gs
  pub calm : (i : ℕ) → i < PAGE → IsCalmRow (seen_at gs (s + i))
  pub followed : (i : ℕ) → i + 1 < PAGE → IsFollowed gs (s + i)
  pub last : to ≡ (seen_at gs (s + PAGE - 1)).next

-- From a slot on the rows of so many boxes are calm, and each but the last is followed by the next one.
pub record IsRun (gs : List Glance) (s n : ℕ) : Type 0 where
  pub full : s + n ≤ length gs
  pub calm : (i : ℕ) → i < n → IsCalmRow (seen_at gs (s + i))
  pub followed : (i : ℕ) → i + 1 < n → IsFollowed gs (s + i)

-- the sibling after the box of a slot
abbrev pub next_at : Arena inner.Node → ℕ → Option BoxKey
next_at a s = (glance_in (slot_at a s).generation (slot_at a s).holds).next

-- The box of a slot is live, untouched and without children, and this one is after it.
pub record IsCalmBox (a : Arena inner.Node) (s : ℕ) (at to : Option BoxKey) : Type 0 where
  pub key : BoxKey
  pub is : at ≡ Some key
  pub slot : key.slot ≡ s
  pub node : inner.Node
  pub found : value a key.slot key.generation ≡ Some node
  pub untouched : node.item.touched ≡ false
  pub alone : node.links.first ≡ None
  pub after : node.links.next ≡ to

-- a box, and so many slots on the sibling after the box before that slot
abbrev pub place_on : Arena inner.Node → BoxKey → ℕ → Option BoxKey
place_on a k zero = Some k
place_on a k (suc i) = next_at a (k.slot + i)

-- So many siblings, from one on, are untouched, have no children, and stand in the order of their slots.
pub record Runs (a : Arena inner.Node) (k : BoxKey) (n : ℕ) : Type 0 where
  pub full : k.slot + n ≤ length a.slots
  pub each : (i : ℕ) → i < n → IsCalmBox a (k.slot + i) (place_on a k i) (place_on a k (suc i))

-- As many as a page has boxes do so, and this one is after them.
pub record Passes (a : Arena inner.Node) (k : BoxKey) (to : Option BoxKey) : Type 0 where
  pub runs : Runs a k PAGE
  pub ends : place_on a k PAGE ≡ to
