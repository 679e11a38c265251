-- Drawn levels for the tests: the backs of boxes, each in its rectangle.
use Rattle.std.specs.Prelude.{◌≡◌, true, false, not, Bool, List, [], ◌∷◌, Contains, AllPairs, IsTrue}
use Rattle.rd_geom.specs.Plane.{Rectangle, meets}
use Rattle.rd_geom.specs.declared.color.Color.{Color}
use Rattle.rd_graph.specs.Names.{is_in}
use Rattle.rd_keys.specs.Keys.{BoxKey, same_key}
use Rattle.rd_keys.specs.declared.entry.EntryKey.{EntryKey}
use Rattle.rd_keys.specs.declared.entry.Part.TheVariants.{Back}
use Rattle.rd_item.specs.declared.leaf.Leaf.{Leaf}
use Rattle.rd_item.specs.Items.{Made}
use Rattle.rd_list.specs.Wrappers.{Wrapper}
use Rattle.rd_list.specs.Entries.{Entries, nil, leaf}
use Rattle.rd_list.specs.EntryNames.{entry_names, made_leaf}
use Rattle.rd_list.specs.Kept.{KeptList, KeptReady}
use Rattle.rd_list.specs.Lists.{leaves_meet}
use Rattle.rd_low_tests.specs.SampleLists.{one_item}

-- a box with its rectangle
abbrev pub Spot : Type 0
Spot = BoxKey × Rectangle

abbrev pub spot_leaf : Color → Spot → Leaf
spot_leaf ink s = (one_item s.0 Back s.1 ink 0).leaf

-- the leaves of spots
abbrev pub line : Color → List Spot → Entries Wrapper Leaf
line ink [] = nil
line ink (s ∷ ss) = leaf (spot_leaf ink s) (line ink ss)

-- is it the spot of one of these boxes?
abbrev pub is_of : List BoxKey → Spot → Bool
is_of ks s = is_in same_key ks s.0

abbrev pub is_not_of : List BoxKey → Spot → Bool
is_not_of ks s = not (is_in same_key ks s.0)

-- each box at one place
abbrev pub AreApart : List Spot → Type 0
AreApart ss = AllPairs (λ a b. same_key a.0 b.0 ≡ false) ss

-- Spots of touched boxes, and those that they meet, are of the boxes of the area.
pub record IsCovering (touched area : List BoxKey) (ss : List Spot) : Type 0 where
  pub itself : (a : Spot) → Contains ss a → is_of touched a ≡ true → is_of area a ≡ true
  pub others : (a b : Spot) → Contains ss a → Contains ss b → is_of touched a ≡ true → IsTrue (meets a.1 b.1) → is_of area b ≡ true

-- The spot of a touched box, and those that it meets, are of the boxes of the area.
pub record IsSpotCovered (touched area : List BoxKey) (ss : List Spot) (a : Spot) : Type 0 where
  pub itself : is_of touched a ≡ true → is_of area a ≡ true
  pub others : is_of touched a ≡ true → (b : Spot) → Contains ss b → IsTrue (meets a.1 b.1) → is_of area b ≡ true

-- a kept list that is ready for these spots, where nothing is touched
pub record IsHeld (ink : Color) (kept : KeptList EntryKey Wrapper Made) (ss : List Spot) : Type 0 where
  pub apart : AreApart ss
  pub ready : KeptReady entry_names made_leaf leaves_meet (λ l. true) kept (line ink ss)
