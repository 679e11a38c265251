-- The kept list from one edit to the next, and over a paint. All of it is this project's own choice.
use Rattle.std.specs.Prelude.{◌≡◌, Bool, true, not, None}
use Rattle.rd_keys.specs.Keys.{same_key}
use Rattle.rd_keys.specs.declared.entry.EntryKey.{EntryKey}
use Rattle.rd_item.specs.declared.leaf.Leaf.{Leaf}
use Rattle.rd_item.specs.Items.{Made}
use Rattle.rd_list.specs.Wrappers.{Wrapper}
use Rattle.rd_list.specs.Entries.{Entries, only}
use Rattle.rd_list.specs.Lists.{leaves_meet}
use Rattle.rd_list.specs.Laws.{IsCovered}
use Rattle.rd_list.specs.Kept.{KeptList, KeptReady, IsMerged, bare, bare_new}
use Rattle.rd_list.specs.EntryNames.{entry_names}
use Rattle.rd_tree.specs.Forest.{IsApart, map_where}
use Rattle.rd_tree.specs.Touching.{settled}
use Rattle.rd_tree.specs.Document.{Document, is_touched}
use Rattle.rd_edits.specs.Edited.{IsEdited}
use Rattle.rd_edits.specs.Refusals.{refusal_of}
use Rattle.rd_edits.specs.declared.edit.Edit.{Edit}
use Rattle.rd_stack.specs.Fresh.{fresh_list}
use Rattle.rd_stack.specs.Locality.{ShowsTheSame}
use Rattle.rd_engine.specs.Accepted.{IsWellMade}

-- a leaf stays where its box is not touched.
abbrev pub stays : Document → Leaf → Bool
stays t l = not (is_touched l.owner t.boxes)

-- the kept list is ready for what is touched of the tree.
abbrev pub IsKept : KeptList EntryKey Wrapper Made → Document → Type 0
IsKept kept t = KeptReady entry_names (λ m. m.leaf) leaves_meet (stays t) kept (fresh_list t)

-- so it is after each accepted edit, if it was before.
abbrev pub EditingLaw : Type 0
EditingLaw =
    (e : Edit) (old new : Document) (kept : KeptList EntryKey Wrapper Made)
    → IsWellMade old → refusal_of old e ≡ None → IsEdited e old new → IsKept kept old → IsKept kept new

-- what a merge gives shows what the fresh list shows, and is ready once the marks are away.
pub record IsPainted (joined : KeptList EntryKey Wrapper Made) (t : Document) : Type 0 where
  pub shows : ShowsTheSame (bare entry_names (λ m. m.leaf) joined.entries) (fresh_list t)
  pub kept : IsKept joined (record t { boxes = map_where (λ _. true) settled t.boxes })

-- so it is where the area covers what is touched, and the new list is what of the fresh list is in the area.
abbrev pub PaintingLaw : Type 0
PaintingLaw =
    (t : Document) (kept joined : KeptList EntryKey Wrapper Made) (new : Entries Wrapper Made) (in_area : Leaf → Bool)
    → IsApart same_key t.boxes
    → IsCovered entry_names leaves_meet (stays t) in_area (fresh_list t)
    → IsKept kept t
    → bare_new entry_names (λ m. m.leaf) new ≡ only in_area (fresh_list t)
    → IsMerged entry_names (λ m. m.leaf) (stays t) kept new joined
    → IsPainted joined t
