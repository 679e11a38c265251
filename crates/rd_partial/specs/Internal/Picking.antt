-- Leaves of a list picked and changed, in their groups.
use Rattle.std.specs.Prelude.{List, [], ◌∷◌, ◌++◌, Option, Some, None, Bool, if◌then◌else◌, ℕ}
use Rattle.rd_list.specs.Entries.{Entries, nil, leaf, group, ◌▷◌, option_entry, grouped_if_any}
use Rattle.rd_list.specs.Wrappers.{Wrapper}
use Rattle.rd_item.specs.declared.leaf.Leaf.{Leaf}
use Rattle.rd_item.specs.Items.{Made}
use Rattle.rd_partial.specs.Internal.ContextLists.{ContextLists, LayerOrder, stacked}

-- a leaf as an item of paint n, where it passes
abbrev pub made_if : (Leaf → Bool) → ℕ → Leaf → Option Made
made_if p n l = if p l then Some (record { leaf = l; made_at = n }) else None

module _ {L M : Type 0} where
  abbrev pub picked : (L → Option M) → Entries Wrapper L → Entries Wrapper M
  picked pick nil = nil
  picked pick (leaf l rest) = option_entry (pick l) ▷ picked pick rest
  picked pick (group g inner rest) = grouped_if_any g (picked pick inner) (picked pick rest)

  abbrev pub picked_stacks : (L → Option M) → List (LayerOrder L) → List (LayerOrder M)
  picked_stacks pick [] = []
  picked_stacks pick (y ∷ ys) = stacked y.level (picked pick y.order) ++ picked_stacks pick ys

  abbrev pub picked_lists : (L → Option M) → ContextLists L → ContextLists M
  picked_lists pick b = record {
    negatives = picked_stacks pick b.negatives;
    backgrounds = picked pick b.backgrounds;
    floats = picked pick b.floats;
    line = picked pick b.line;
    contents = picked pick b.contents;
    zeros = picked pick b.zeros;
    positives = picked_stacks pick b.positives;
    outlines = picked pick b.outlines;
  }
