-- What a check says of a dumped list beside a fresh one, both by the keys of boxes: the first that holds. All of it is this
-- project's own choice.
use Rattle.std.specs.Prelude.{◌≡◌, ℕ, ◌<◌, true, false, IsTrue, List, [], map, take, Some, Contains, slice_get}
use Rattle.rd_keys.specs.Keys.{BoxKey}
use Rattle.rd_keys.specs.declared.entry.Part.{Part}
use Rattle.rd_keys.specs.declared.entry.EntryKey.{EntryKey}
use Rattle.rd_keys.specs.declared.entry.EntryKey.TheVariants as key
use Rattle.rd_graph.specs.Names.{is_in, same_entry}
use Rattle.rd_graph.specs.Orders.{Before}
use Rattle.rd_item.specs.declared.leaf.Leaf.{Leaf}
use Rattle.rd_list.specs.Wrappers.{Wrapper}
use Rattle.rd_list.specs.Entries.{Entries, flat, routes}
use Rattle.rd_list.specs.Lists.{StandsFor, same_leaf, leaves_meet}
use Rattle.rd_check.specs.Listed.{Listed, item, head, entries_of}
use Rattle.rd_check.specs.declared.verdict.Verdict.{Verdict}
use Rattle.rd_check.specs.declared.verdict.Verdict.TheVariants.{Unknown, Twice, Extra, Differs, Wrapped, Missing, Order, Yes}

-- the least number of which it holds
pub record IsFirst (P : ℕ → Type 0) (i : ℕ) : Type 0 where
  pub holds : P i
  pub least : (j : ℕ) → j < i → P j → ⊥

-- it holds of no number
abbrev pub Never : (ℕ → Type 0) → Type 0
Never P = (i : ℕ) → P i → ⊥

-- the name of an entry: a part of a box, or the group of a box
abbrev pub name_of : Listed Wrapper Leaf → EntryKey
name_of (item round l) = key.Leaf l.owner l.part
name_of (head round g) = key.Group g.key

abbrev pub names_of : Entries Wrapper Leaf → List EntryKey
names_of list = map name_of (entries_of list)

module _ (list : Entries Wrapper Leaf) where
  -- An earlier entry has the entry's name.
  abbrev pub IsTwice : ℕ → Type 0
  IsTwice i = (e : EntryKey) × (slice_get (names_of list) i ≡ Some e) × (is_in same_entry (take i (names_of list)) e ≡ true)

  -- The entry is this leaf, below these groups.
  abbrev pub IsLeafAt : ℕ → List Wrapper → Leaf → Type 0
  IsLeafAt i round l = slice_get (entries_of list) i ≡ Some (item round l)

  module _ (fresh : Entries Wrapper Leaf) where
    -- The entry is a leaf whose name none of the fresh list has.
    abbrev pub IsExtra : ℕ → Type 0
    IsExtra i = (round : List Wrapper) × (l : Leaf) × IsLeafAt i round l × ((m : Leaf) → Contains (flat fresh) m → same_leaf m l ≡ false)

    -- It is a leaf that the fresh list has not with these values.
    abbrev pub IsDifferent : ℕ → Type 0
    IsDifferent i = (round : List Wrapper) × (l : Leaf) × IsLeafAt i round l × (Contains (flat fresh) l → ⊥)

    -- It is a leaf that the fresh list has not below these groups.
    abbrev pub IsWrapped : ℕ → Type 0
    IsWrapped i = (round : List Wrapper) × (l : Leaf) × IsLeafAt i round l × (Contains (routes [] fresh) (round, l) → ⊥)

    -- The name of that leaf of the fresh list is none of the dumped list.
    abbrev pub IsAbsent : ℕ → Type 0
    IsAbsent n = (l : Leaf) × (slice_get (flat fresh) n ≡ Some l) × ((m : Leaf) → Contains (flat list) m → same_leaf m l ≡ false)

    -- The first leaf of the fresh list that is absent is this part of this box.
    pub record IsMissing (k : BoxKey) (p : Part) : Type 0 where
      pub place : ℕ
      pub first : IsFirst IsAbsent place
      pub leaf_there : (l : Leaf) → slice_get (flat fresh) place ≡ Some l → (l.owner ≡ k) × (l.part ≡ p)

    -- Two leaves that share a pixel to be seen in stand the other way in the fresh list.
    pub record IsCrossed (i j : ℕ) : Type 0 where
      pub below : i < j
      pub round : List Wrapper
      pub lower : Leaf
      pub lower_at : IsLeafAt i round lower
      pub other_round : List Wrapper
      pub upper : Leaf
      pub upper_at : IsLeafAt j other_round upper
      pub met : IsTrue (leaves_meet lower upper)
      pub other_way : Before (flat fresh) upper lower

    -- Of these pairs none has a lesser second, and none with this second a lesser first.
    pub record IsFirstCrossed (i j : ℕ) : Type 0 where
      pub crossed : IsCrossed i j
      pub second : (a b : ℕ) → b < j → IsCrossed a b → ⊥
      pub first : (a : ℕ) → a < i → IsCrossed a j → ⊥

    -- the verdict of a list whose boxes are known
    abbrev pub Says : Verdict → Type 0
    Says (Unknown i) = ⊥
    Says (Twice i) = IsFirst IsTwice i
    Says (Extra i) = Never IsTwice × IsFirst IsExtra i
    Says (Differs i) = Never IsTwice × Never IsExtra × IsFirst IsDifferent i
    Says (Wrapped i) = Never IsTwice × Never IsExtra × Never IsDifferent × IsFirst IsWrapped i
    Says (Missing k p) = Never IsTwice × Never IsExtra × Never IsDifferent × Never IsWrapped × IsMissing k p
    Says (Order i j) = Never IsTwice × Never IsExtra × Never IsDifferent × Never IsWrapped × Never IsAbsent × IsFirstCrossed i j
    Says Yes = StandsFor list fresh
