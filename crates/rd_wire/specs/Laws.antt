-- What a kept list with its canvas owes, to be spelled.
use Rattle.std.specs.Prelude.{◌≡◌, ◌≤◌, ◌<◌, ◌^◌, false, IsTrue, length, Contains, AllPairs}
use Rattle.rd_geom.specs.Canvas.{IsCanvas, canvas_of}
use Rattle.rd_geom.specs.declared.rect.Size.{Size}
use Rattle.rd_item.specs.Items.{Made}
use Rattle.rd_keys.specs.Keys.{same_key}
use Rattle.rd_keys.specs.declared.entry.EntryKey.{EntryKey}
use Rattle.rd_list.specs.Wrappers.{Wrapper}
use Rattle.rd_list.specs.Entries.{Entries, flat, no_group_is_empty}
use Rattle.rd_list.specs.EntryNames.{kept_leaves}
use Rattle.rd_list.specs.GroupDepth.{group_depth}
use Rattle.rd_list.specs.Kept.{Ordered}
use Rattle.rd_list.specs.Lists.{groups, same_leaf}
use Rattle.rd_list.specs.Unordered.{unordered}
use Rattle.rd_wire.specs.Leaves.{IsSeen}
use Rattle.rd_wire.specs.Wires.{KeepsRules}
use Rattle.rd_wire.specs.Figures.{max_groups}

-- A kept list that stands for a painting order keeps the rules, where its leaves may be seen so, are fewer than 32 bits tell,
-- and no entry has more groups round it than a wire may have.
pub record Stands (size : Size) (kept : Entries (Ordered EntryKey Wrapper) Made) : Type 0 where
  pub canvas : IsCanvas size
  pub leaves_seen : (m : Made) → Contains (flat kept) m → IsSeen (canvas_of size) m.leaf
  pub few : length (flat kept) < 2 ^ 32
  pub once : AllPairs (λ a b. same_leaf a b ≡ false) (flat (kept_leaves kept))
  pub grouped : AllPairs (λ a b. same_key a b ≡ false) (groups (kept_leaves kept))
  pub filled : IsTrue (no_group_is_empty (kept_leaves kept))
  pub depth : group_depth kept ≤ max_groups

abbrev pub Keeping : Type 0
Keeping = (size : Size) (kept : Entries (Ordered EntryKey Wrapper) Made) → Stands size kept → KeepsRules (record { size = size; list = unordered kept })
