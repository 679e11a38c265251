-- What is left of lists of which one stands for the other, and pixels that no touched box covers.
-- All of it is this project's own choice.
use Rattle.std.specs.Prelude.{◌≡◌, ℤ, Bool, true, false, List, [], All, Contains}
use Rattle.rd_keys.specs.Keys.{BoxKey}
use Rattle.rd_item.specs.declared.leaf.Leaf.{Leaf}
use Rattle.rd_item.specs.Leaves.{covers}
use Rattle.rd_list.specs.Wrappers.{Wrapper}
use Rattle.rd_list.specs.Entries.{Entries, flat, routes, only}
use Rattle.rd_list.specs.Lists.{StandsFor, without_touched, pixel, hit}

-- what passes a test of a list that stands for another stands for what passes it of the other.
abbrev pub LeavingLaw : Type 0
LeavingLaw = (p : Leaf → Bool) (kept fresh : Entries Wrapper Leaf) → StandsFor kept fresh → StandsFor (only p kept) (only p fresh)

-- where two lists are the same without the touched boxes, each leaf of another box stands in both, under the same groups.
abbrev pub StayingLaw : Type 0
StayingLaw =
    (touched : BoxKey → Bool) (before now : Entries Wrapper Leaf) → without_touched touched before ≡ without_touched touched now
    → (path : List Wrapper) (l : Leaf) → Contains (routes [] now) (path, l) → touched l.owner ≡ false → Contains (routes [] before) (path, l)

-- no leaf of a touched box covers the pixel.
abbrev pub IsClear : (BoxKey → Bool) → Entries Wrapper Leaf → ℤ → ℤ → Type 0
IsClear touched list x y = All (λ l. touched l.owner ≡ true → covers l x y ≡ false) (flat list)

-- a pixel that no touched box covers, before or now, stays, and so does its hit.
pub record StaysAt (before now : Entries Wrapper Leaf) (x y : ℤ) : Type 0 where
  pub pixels : pixel before x y ≡ pixel now x y
  pub hits : hit before x y ≡ hit now x y

-- so it is where the lists are the same without the touched boxes.
abbrev pub OutsideLaw : Type 0
OutsideLaw =
    (touched : BoxKey → Bool) (before now : Entries Wrapper Leaf) → without_touched touched before ≡ without_touched touched now
    → (x y : ℤ) → IsClear touched before x y → IsClear touched now x y → StaysAt before now x y
