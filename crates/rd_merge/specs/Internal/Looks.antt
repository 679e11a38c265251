-- What a look at one entry of a kept level finds.
use Rattle.std.specs.Prelude.{◌≡◌, ℕ, ◌<◌, ◌≤◌, ◌&&◌, not, Bool, true, false, List, [], ◌∷◌, map, take, slice_index_or, slice_set, Option, Some, None}
use Rattle.rd_keys.specs.Keys.{BoxKey}
use Rattle.rd_keys.specs.declared.entry.EntryKey.{EntryKey}
use Rattle.rd_keys.specs.declared.entry.EntryKey.TheVariants as key
use Rattle.rd_item.specs.Items.{Made}
use Rattle.rd_graph.specs.Names.{place_of, same_entry}
use Rattle.rd_list.specs.Wrappers.{Wrapper}
use Rattle.rd_list.specs.Entries.{Entries}
use Rattle.rd_list.specs.Kept.{Ordered}
use Rattle.rd_list.specs.EntryNames.{entry_names, kept_leaves}
use Rattle.rd_list.specs.KeptView.{kept_entries}
use Rattle.rd_list.specs.declared.kept.Entry.{Entry}
use Rattle.rd_list.specs.declared.kept.Entry.TheVariants.{Leaf, Group}
use Rattle.rd_merge.specs.Going.{is_untouched}
use Rattle.rd_merge.specs.Internal.Marks.{box_mark}
use Rattle.rd_merge.specs.Looking.{any_goes, gone_places, inner_places, kept_names}

-- a place noted where there is a number
abbrev pub noted : Option ℕ → ℕ → List (Option ℕ) → List (Option ℕ)
noted None place found = found
noted (Some j) place found = slice_set found j (Some place)

-- does a leaf of a touched box stand in kept entries, or a group without entries?
abbrev pub has_touched : (BoxKey → Bool) → Entries (Ordered EntryKey Wrapper) Made → Bool
has_touched touched xs = any_goes entry_names (is_untouched touched) (kept_leaves xs)

module _ {A : Type 0} where
  abbrev pub name_of : Entry A → EntryKey
  name_of (Leaf i) = key.Leaf i.leaf.owner i.leaf.part
  name_of (Group g) = key.Group g.key

  -- is it a leaf of an untouched box whose mark is not set?
  abbrev pub is_passed : (BoxKey → Bool) → Bool → List Bool → Entry A → Bool
  is_passed touched wide marks (Leaf i) = not (slice_index_or marks (box_mark wide i.leaf.owner) false) && is_untouched touched i.leaf
  is_passed touched wide marks (Group g) = false

  -- a leaf of an untouched box, or a group
  abbrev pub LeafStays : (BoxKey → Bool) → Entry A → Type 0
  LeafStays touched (Leaf i) = is_untouched touched i.leaf ≡ true
  LeafStays touched (Group g) = Unit {0}

  -- the boxes of the leaves from one place up to another are untouched
  abbrev pub LeavesStay : (BoxKey → Bool) → List (Entry A) → ℕ → ℕ → Type 0
  LeavesStay touched es from end = (p : ℕ) → from ≤ p → p < end → (x : Entry A) → x ≡ slice_index_or es p x → LeafStays touched x

  -- is it a group of which something goes?
  abbrev pub goes_inside : (BoxKey → Bool) → Entry A → Bool
  goes_inside touched (Leaf i) = false
  goes_inside touched (Group g) = has_touched touched g.inner.entries

  -- the place of an entry, if it goes
  abbrev pub gone_at : (BoxKey → Bool) → ℕ → Entry A → List ℕ
  gone_at touched place x = gone_places entry_names (is_untouched touched) place (kept_leaves (kept_entries (x ∷ [])))

  -- the place of an entry, if it is a group to go into
  abbrev pub inner_at : (BoxKey → Bool) → List EntryKey → ℕ → Entry A → List ℕ
  inner_at touched names place x = inner_places entry_names (is_untouched touched) names place (kept_leaves (kept_entries (x ∷ [])))

  -- what is found of the first so many entries of a level: places of entries that go, places of names, and places of groups to go into
  abbrev pub gone_before : (BoxKey → Bool) → List (Entry A) → ℕ → List ℕ
  gone_before touched es n = gone_places entry_names (is_untouched touched) 0 (kept_leaves (kept_entries (take n es)))

  abbrev pub found_before : List (Entry A) → List EntryKey → ℕ → List (Option ℕ)
  found_before es names n = map (λ k. place_of same_entry (take n (kept_names (kept_entries es))) k) names

  abbrev pub inner_before : (BoxKey → Bool) → List EntryKey → List (Entry A) → ℕ → List ℕ
  inner_before touched names es n = inner_places entry_names (is_untouched touched) names 0 (kept_leaves (kept_entries (take n es)))

  -- nothing is noted of the entries from one place up to another
  pub record NothingNoted (touched : BoxKey → Bool) (es : List (Entry A)) (names : List EntryKey) (from end : ℕ) : Type 0 where
    pub gone : gone_before touched es end ≡ gone_before touched es from
    pub found : found_before es names end ≡ found_before es names from
    pub inner : inner_before touched names es end ≡ inner_before touched names es from

  -- what is to be noted of the first so many entries of a level is
  pub record IsLookedTo (touched : BoxKey → Bool) (es : List (Entry A)) (names : List EntryKey) (n : ℕ) (gone : List ℕ) (found : List (Option ℕ)) (inner : List ℕ) : Type 0 where
    pub gone_are : gone ≡ gone_before touched es n
    pub found_are : found ≡ found_before es names n
    pub inner_are : inner ≡ inner_before touched names es n
