-- What the parts of a verdict find, by the lines of a dumped list and the leaves of a fresh one.
use Rattle.std.specs.Prelude.{◌≡◌, ℕ, ◌<◌, Bool, true, false, not, ◌&&◌, ◌==◌, nat_lt, is_some, is_none, List, [], ◌∷◌, ◌++◌, map, take, Option, Some, None, slice_get, option_and_then}
use Rattle.std.specs.Bool.{beq}
use Rattle.std.specs.Ordering.{int_eq}
use Rattle.rd_geom.specs.Plane.{Rectangle}
use Rattle.rd_geom.specs.declared.color.Color.{Color}
use Rattle.rd_geom.specs.declared.blend.Blend.{Blend}
use Rattle.rd_geom.specs.declared.blend.Blend.TheVariants.{Normal, Multiply, Screen, Darken, Lighten}
use Rattle.rd_keys.specs.Keys.{BoxKey, same_key}
use Rattle.rd_keys.specs.declared.entry.Part.{Part}
use Rattle.rd_keys.specs.declared.entry.EntryKey.{EntryKey}
use Rattle.rd_keys.specs.declared.entry.EntryKey.TheVariants as key
use Rattle.rd_graph.specs.Names.{is_in, place_of, same_entry}
use Rattle.rd_item.specs.declared.leaf.Leaf.{Leaf}
use Rattle.rd_item.specs.declared.leaf.Shape.{Shape}
use Rattle.rd_list.specs.Wrappers.{Wrapper}
use Rattle.rd_list.specs.Lists.{leaves_meet}
use Rattle.rd_check.specs.Verdicts.{IsFirst, Never}
use Rattle.rd_check.specs.Rows.{item, head}
use Rattle.rd_check.specs.Internal.Lines.{KeyedRow, row_name, Way}
use Rattle.rd_check.specs.declared.verdict.Verdict.{Verdict}
use Rattle.rd_check.specs.declared.verdict.Verdict.TheVariants.{Unknown, Twice, Extra, Differs, Wrapped, Missing, Order, Yes}

-- ---- equal values

abbrev pub same_corner : Rectangle → Rectangle → Bool
same_corner a b = int_eq a.x b.x && int_eq a.y b.y

abbrev pub same_extent : Rectangle → Rectangle → Bool
same_extent a b = int_eq a.w b.w && int_eq a.h b.h

abbrev pub same_rect : Rectangle → Rectangle → Bool
same_rect a b = same_corner a b && same_extent a b

abbrev pub same_shape : Shape → Shape → Bool
same_shape a b = same_rect a.outer b.outer && same_rect a.inner b.inner

abbrev pub same_color : Color → Color → Bool
same_color a b = (a.r == b.r) && (a.g == b.g) && (a.b == b.b) && (a.a == b.a)

abbrev pub same_mode : Blend → Blend → Bool
same_mode Normal Normal = true
same_mode Multiply Multiply = true
same_mode Screen Screen = true
same_mode Darken Darken = true
same_mode Lighten Lighten = true
same_mode _ _ = false

-- where it is
abbrev pub same_area : Leaf → Leaf → Bool
same_area a b = same_rect a.visible b.visible && same_shape a.shape b.shape

-- what it paints there, and whether it takes hits
abbrev pub same_look : Leaf → Leaf → Bool
same_look a b = same_color a.color b.color && beq a.hits b.hits

-- all but the name
abbrev pub same_values : Leaf → Leaf → Bool
same_values a b = same_area a b && same_look a b

abbrev pub same_group : Wrapper → Wrapper → Bool
same_group a b = same_key a.key b.key && (a.opacity == b.opacity) && same_mode a.blend b.blend

abbrev pub same_groups : List Wrapper → List Wrapper → Bool
same_groups [] [] = true
same_groups [] (b ∷ bs) = false
same_groups (a ∷ gs) [] = false
same_groups (a ∷ gs) (b ∷ bs) = same_group a b && same_groups gs bs

-- ---- what is seen of an entry: its line, and the place of its name in the painting order

abbrev pub leaf_name : Leaf → EntryKey
leaf_name l = key.Leaf l.owner l.part

abbrev pub way_name : Way → EntryKey
way_name w = leaf_name w.1

abbrev pub Sight : Type 0
Sight = KeyedRow × Option ℕ

abbrev pub sight_by : List EntryKey → KeyedRow → Sight
sight_by names r = (r, place_of same_entry names (row_name r))

abbrev pub row_leaf : KeyedRow → Option Leaf
row_leaf (item depth l) = Some l
row_leaf (head depth g entries) = None

abbrev pub row_depth : KeyedRow → ℕ
row_depth (item depth l) = depth
row_depth (head depth g entries) = depth

-- the leaf at the place, with the groups round it
abbrev pub there : List Way → Sight → Option Way
there ways s = option_and_then (slice_get ways) s.1

-- ---- tests of a sight

abbrev pub is_extra : Sight → Bool
is_extra s = is_some (row_leaf s.0) && is_none s.1

abbrev pub unlike : Option Leaf → Option Way → Bool
unlike None o = false
unlike (Some l) None = false
unlike (Some l) (Some w) = not (same_values l w.1)

abbrev pub is_different : List Way → Sight → Bool
is_different ways s = unlike (row_leaf s.0) (there ways s)

abbrev pub astray : List Wrapper → Option Way → Bool
astray round None = false
astray round (Some w) = not (same_groups round w.0)

abbrev pub is_wrapped : List Way → List Wrapper → Sight → Bool
is_wrapped ways round s = is_some (row_leaf s.0) && astray round (there ways s)

-- the groups round what comes after a line, but for those that end before it
abbrev pub after : List Wrapper → KeyedRow → List Wrapper
after round (item depth l) = round
after round (head depth g entries) = round ++ g ∷ []

-- that test of each sight, below the groups that its depth keeps
abbrev pub wrapped_from : List Way → List Wrapper → List Sight → List Bool
wrapped_from ways round [] = []
wrapped_from ways round (s ∷ ss) =
    is_wrapped ways (take (row_depth s.0) round) s ∷ wrapped_from ways (after (take (row_depth s.0) round) s.0) ss

-- is it none of these names?
abbrev pub is_none_of : List EntryKey → EntryKey → Bool
is_none_of names k = is_none (place_of same_entry names k)

abbrev pub is_absent : List EntryKey → Way → Bool
is_absent names w = is_none_of names (way_name w)

abbrev pub is_later : Option ℕ → Option ℕ → Bool
is_later None o = false
is_later (Some p) None = false
is_later (Some p) (Some q) = nat_lt q p

abbrev pub do_meet : Option Leaf → Option Leaf → Bool
do_meet None o = false
do_meet (Some a) None = false
do_meet (Some a) (Some b) = leaves_meet a b

-- two leaves meet and stand the other way
abbrev pub is_crossed : Sight → Sight → Bool
is_crossed s t = is_later s.1 t.1 && do_meet (row_leaf s.0) (row_leaf t.0)

-- ---- the first that passes

abbrev pub IsHit : List Bool → ℕ → Type 0
IsHit tests i = slice_get tests i ≡ Some true

-- the least number of which it holds, where there is one
abbrev pub IsFound : (ℕ → Type 0) → Option ℕ → Type 0
IsFound P None = Never P
IsFound P (Some i) = IsFirst P i

-- a name that an earlier one is
abbrev pub IsTwiceIn : List EntryKey → ℕ → Type 0
IsTwiceIn names i = (e : EntryKey) × (slice_get names i ≡ Some e) × (is_in same_entry (take i names) e ≡ true)

pub record IsCrossedIn (sights : List Sight) (i j : ℕ) : Type 0 where
  pub below : i < j
  pub lower : Sight
  pub upper : Sight
  pub lower_at : slice_get sights i ≡ Some lower
  pub upper_at : slice_get sights j ≡ Some upper
  pub crossed : is_crossed lower upper ≡ true

-- the least second, and with it the least first
pub record IsFirstPair (C : ℕ → ℕ → Type 0) (i j : ℕ) : Type 0 where
  pub crossed : C i j
  pub second : (a b : ℕ) → b < j → C a b → ⊥
  pub first : (a : ℕ) → a < i → C a j → ⊥

abbrev pub IsFoundPair : (ℕ → ℕ → Type 0) → Option (ℕ × ℕ) → Type 0
IsFoundPair C None = (i j : ℕ) → C i j → ⊥
IsFoundPair C (Some p) = IsFirstPair C p.0 p.1

-- ---- the verdict by these

abbrev pub names_in : List KeyedRow → List EntryKey
names_in rows = map row_name rows

abbrev pub sights_in : List KeyedRow → List Way → List Sight
sights_in rows ways = map (sight_by (map way_name ways)) rows

abbrev pub TwiceIn : List KeyedRow → ℕ → Type 0
TwiceIn rows = IsTwiceIn (names_in rows)

abbrev pub ExtraIn : List KeyedRow → List Way → ℕ → Type 0
ExtraIn rows ways = IsHit (map is_extra (sights_in rows ways))

abbrev pub DifferentIn : List KeyedRow → List Way → ℕ → Type 0
DifferentIn rows ways = IsHit (map (is_different ways) (sights_in rows ways))

abbrev pub WrappedIn : List KeyedRow → List Way → ℕ → Type 0
WrappedIn rows ways = IsHit (wrapped_from ways [] (sights_in rows ways))

abbrev pub AbsentIn : List KeyedRow → List Way → ℕ → Type 0
AbsentIn rows ways = IsHit (map (is_none_of (names_in rows)) (map way_name ways))

-- The first that is absent is this part of this box.
pub record IsMissingIn (rows : List KeyedRow) (ways : List Way) (k : BoxKey) (p : Part) : Type 0 where
  pub place : ℕ
  pub first : IsFirst (AbsentIn rows ways) place
  pub way : Way
  pub way_at : slice_get ways place ≡ Some way
  pub owner : way.1.owner ≡ k
  pub part : way.1.part ≡ p

abbrev pub Tells : List KeyedRow → List Way → Verdict → Type 0
Tells rows ways (Unknown i) = ⊥
Tells rows ways (Twice i) = IsFirst (TwiceIn rows) i
Tells rows ways (Extra i) = Never (TwiceIn rows) × IsFirst (ExtraIn rows ways) i
Tells rows ways (Differs i) = Never (TwiceIn rows) × Never (ExtraIn rows ways) × IsFirst (DifferentIn rows ways) i
Tells rows ways (Wrapped i) =
    Never (TwiceIn rows) × Never (ExtraIn rows ways) × Never (DifferentIn rows ways) × IsFirst (WrappedIn rows ways) i
Tells rows ways (Missing k p) =
    Never (TwiceIn rows) × Never (ExtraIn rows ways) × Never (DifferentIn rows ways) × Never (WrappedIn rows ways)
    × IsMissingIn rows ways k p
Tells rows ways (Order i j) =
    Never (TwiceIn rows) × Never (ExtraIn rows ways) × Never (DifferentIn rows ways) × Never (WrappedIn rows ways)
    × Never (AbsentIn rows ways) × IsFirstPair (IsCrossedIn (sights_in rows ways)) i j
Tells rows ways Yes =
    Never (TwiceIn rows) × Never (ExtraIn rows ways) × Never (DifferentIn rows ways) × Never (WrappedIn rows ways)
    × Never (AbsentIn rows ways) × ((i j : ℕ) → IsCrossedIn (sights_in rows ways) i j → ⊥)

-- ---- the verdict where the first tests found nothing

module _ (ways : List Way) (v : Verdict) where
  abbrev pub AfterTwice : List KeyedRow → Type 0
  AfterTwice rows = Never (TwiceIn rows) → Tells rows ways v

  abbrev pub AfterExtra : List KeyedRow → Type 0
  AfterExtra rows = Never (TwiceIn rows) → Never (ExtraIn rows ways) → Tells rows ways v

  abbrev pub AfterDifferent : List KeyedRow → Type 0
  AfterDifferent rows = Never (TwiceIn rows) → Never (ExtraIn rows ways) → Never (DifferentIn rows ways) → Tells rows ways v

  abbrev pub AfterWrapped : List KeyedRow → Type 0
  AfterWrapped rows =
      Never (TwiceIn rows) → Never (ExtraIn rows ways) → Never (DifferentIn rows ways) → Never (WrappedIn rows ways)
      → Tells rows ways v

  abbrev pub AfterAbsent : List KeyedRow → Type 0
  AfterAbsent rows =
      Never (TwiceIn rows) → Never (ExtraIn rows ways) → Never (DifferentIn rows ways) → Never (WrappedIn rows ways)
      → Never (AbsentIn rows ways) → Tells rows ways v

-- It holds of all lines that have these names, and of which this is seen.
abbrev pub OfLines : (List KeyedRow → Type 0) → List EntryKey → List Sight → List Way → Type 0
OfLines P names sights ways = (rows : List KeyedRow) → names ≡ names_in rows → sights ≡ sights_in rows ways → P rows
