-- What a look at a kept level finds: places of entries that go, of names of the new level, and of groups in which something goes.
use Rattle.std.specs.Prelude.{◌≡◌, ℕ, suc, Bool, true, false, not, ◌&&◌, if◌then◌else◌, List, [], ◌∷◌, map, Option}
use Rattle.rd_keys.specs.Keys.{BoxKey}
use Rattle.rd_keys.specs.declared.entry.EntryKey.{EntryKey}
use Rattle.rd_item.specs.Items.{Made}
use Rattle.rd_graph.specs.Names.{is_in, place_of, same_entry}
use Rattle.rd_list.specs.Wrappers.{Wrapper}
use Rattle.rd_list.specs.Entries.{Entries, nil, leaf, group, is_empty}
use Rattle.rd_list.specs.Kept.{Ordered}
use Rattle.rd_list.specs.Levels.{Names, keys}
use Rattle.rd_list.specs.EntryNames.{entry_names, kept_leaves}
use Rattle.rd_merge.specs.Going.{any_stays, is_untouched}

module _ {E G L : Type 0} (n : Names E G L) (stays : L → Bool) where
  -- Does a leaf go, in a group or outside? A group without entries goes too.
  abbrev pub any_goes : Entries G L → Bool
  any_goes nil = false
  any_goes (leaf l rest) = if stays l then any_goes rest else true
  any_goes (group g inner rest) = if is_empty inner then true else if any_goes inner then true else any_goes rest

  -- the places of the entries that go, from this one on: of leaves that go, and of groups of which nothing stays
  abbrev pub gone_places : ℕ → Entries G L → List ℕ
  gone_places i nil = []
  gone_places i (leaf l rest) = if stays l then gone_places (suc i) rest else i ∷ gone_places (suc i) rest
  gone_places i (group g inner rest) = if any_stays n stays inner then gone_places (suc i) rest else i ∷ gone_places (suc i) rest

  -- the places of the groups that stay, are none of these names, and of which something goes
  abbrev pub inner_places : List E → ℕ → Entries G L → List ℕ
  inner_places names i nil = []
  inner_places names i (leaf l rest) = inner_places names (suc i) rest
  inner_places names i (group g inner rest) =
      if any_stays n stays inner && not (is_in n.same names (n.group g)) && any_goes inner then i ∷ inner_places names (suc i) rest else inner_places names (suc i) rest

-- the names of a level of a kept list
abbrev pub kept_names : Entries (Ordered EntryKey Wrapper) Made → List EntryKey
kept_names xs = keys entry_names (kept_leaves xs)

-- what is found in a kept level for the names of a new one
pub record IsLooked (touched : BoxKey → Bool) (kept : Entries (Ordered EntryKey Wrapper) Made) (names : List EntryKey) (gone : List ℕ) (found : List (Option ℕ)) (inner : List ℕ) : Type 0 where
  pub gone_are : gone ≡ gone_places entry_names (is_untouched touched) 0 (kept_leaves kept)
  pub found_are : found ≡ map (λ k. place_of same_entry (kept_names kept) k) names
  pub inner_are : inner ≡ inner_places entry_names (is_untouched touched) names 0 (kept_leaves kept)
