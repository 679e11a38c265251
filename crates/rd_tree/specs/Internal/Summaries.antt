-- What the table of a tree has for each box.
use Rattle.std.specs.Prelude.{ℕ, Bool, false, List, slice_index_or, Option, Some, None}
use Rattle.rd_geom.specs.Plane.{no_pixels, hull_of}
use Rattle.rd_keys.specs.Keys.{same_key}
use Rattle.rd_tree.specs.Forest.{empty, tree, starting_at, in_subtree}
use Rattle.rd_tree.specs.declared.table.row.Summary.{Summary}
use Rattle.rd_tree.specs.Document.{BoxKey, BoxForest}
use Rattle.rd_tree.specs.Hulls.{breadth, extent, hull_in, touched_in}

-- the children of the first of some boxes, the touched boxes below it, and the hull of it and all below it
abbrev pub summary_first : BoxForest → Summary
summary_first empty = record { children = 0; touched = 0; hull = no_pixels }
summary_first (tree k d below rest) = record {
  children = breadth below;
  touched = touched_in
      below;
  hull = hull_of (extent d) (hull_in below);
}

-- the same of k
abbrev pub summary_of : BoxKey → BoxForest → Summary
summary_of k f = summary_first (starting_at same_key k f)

-- what a table by slots has for the slot of this number
abbrev pub row_at : List Summary → ℕ → Summary
row_at rows s = slice_index_or rows s (record { children = 0; touched = 0; hull = no_pixels })

-- what a table by slots has for k
abbrev pub summary_at : List Summary → BoxKey → Summary
summary_at rows k = slice_index_or rows k.slot (record {
  children = 0;
  touched = 0;
  hull =
      no_pixels;
})

-- Is j the box given, or above it?
abbrev pub is_above : Option BoxKey → BoxKey → BoxForest → Bool
is_above None j f = false
is_above (Some a) j f = in_subtree same_key a j f
