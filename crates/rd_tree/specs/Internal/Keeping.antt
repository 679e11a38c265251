-- What the fields of a tree always keep.
use Rattle.std.specs.Prelude.{ℕ, ◌≤◌, List, String}
use Rattle.std.specs.HashMap.{HashMap}
use Rattle.rd_keys.specs.Arena.{Arena}
use Rattle.rd_tree.specs.declared.node.Node as inner
use Rattle.rd_tree.specs.declared.table.row.Summary.{Summary}
use Rattle.rd_tree.specs.Figures.{max_depth}
use Rattle.rd_tree.specs.Forest.{height}
use Rattle.rd_tree.specs.Document.{BoxKey}
use Rattle.rd_tree.specs.Internal.Linked.{seen, IsConsistent}
use Rattle.rd_tree.specs.Internal.Rows.{IsTabled}
use Rattle.rd_tree.specs.Internal.Blending.{IsBlending}

-- The nodes, the index, the rows of the table and the counts of blended layers are those of one tree, which is not too deep.
pub record IsKept {Y S : Type 0} (a : Arena inner.Node) (root : BoxKey) (ids : HashMap
    (String Y) BoxKey S) (rows : List Summary) (counts : List ℕ) : Type 0 where
  pub sound : IsConsistent a root ids
  pub table : IsTabled a rows (seen a root)
  pub blending : IsBlending a counts (seen a root)
  pub shallow : height (seen a root) ≤ max_depth
