-- A kept list after a paint stands for the fresh list.
use Rattle.std.proofs.Common.{◌≡◌, Bool, length, ◌+◌, ◌≤◌}
use Rattle.rd_keys.specs.Keys.{same_key}
use Rattle.rd_keys.specs.declared.entry.EntryKey.{EntryKey}
use Rattle.rd_item.specs.declared.leaf.Leaf.{Leaf}
use Rattle.rd_item.specs.Items.{Made}
use Rattle.rd_list.specs.Wrappers.{Wrapper}
use Rattle.rd_list.specs.Entries.{Entries, flat, only}
use Rattle.rd_list.specs.EntryNames.{entry_names, made_leaf, kept_leaves, new_leaves}
use Rattle.rd_list.specs.GroupDepth.{group_depth}
use Rattle.rd_list.specs.Kept.{KeptList, IsMerged}
use Rattle.rd_list.specs.Laws.{IsCovered}
use Rattle.rd_list.specs.Lists.{StandsFor, leaves_meet}
use Rattle.rd_list.specs.Views.{levels}
use Rattle.rd_list.proofs.Merges.Naming.{display_merging}
use Rattle.rd_tree.specs.Forest.{IsApart, height}
use Rattle.rd_tree.specs.Document.{Document}
use Rattle.rd_stack.specs.Fresh.{fresh_list}
use Rattle.rd_stack.proofs.Promises.{stands_for_itself}
use Rattle.rd_engine.specs.Kept.{IsKept, stays}
use Rattle.rd_engine.proofs.Alike.{kept_shallow}

module _ (t : Document) (kept joined : KeptList EntryKey Wrapper Made) (new : Entries Wrapper Made) (in_area : Leaf → Bool)
    (apart : IsApart same_key t.boxes) (covered : IsCovered entry_names leaves_meet (stays t) in_area (fresh_list t)) (ready : IsKept kept t)
    (limited : new_leaves new ≡ only in_area (fresh_list t)) (merged : IsMerged entry_names made_leaf (stays t) kept new joined) where
  pub painted_stands : StandsFor (kept_leaves joined.entries) (fresh_list t)
  painted_stands = (display_merging (fresh_list t) kept joined new (stays t) in_area (stands_for_itself t apart) covered ready limited merged).0

  -- so it has at most one level more than the tree, and as many leaves as the fresh list
  pub painted_shallow : (levels joined.entries ≤ height t.boxes + 1) × (length (flat joined.entries) ≡ length (flat (fresh_list t))) × (group_depth joined.entries ≤ height t.boxes)
  painted_shallow = kept_shallow t joined.entries painted_stands
