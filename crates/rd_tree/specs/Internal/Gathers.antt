-- Rows that are worked out anew.
use Rattle.std.specs.Prelude.{◌≡◌, true, if◌then◌else◌, List, is_some}
use Rattle.rd_geom.specs.Plane.{Rectangle, hull_of}
use Rattle.rd_keys.specs.Keys.{same_key}
use Rattle.rd_keys.specs.Arena.{Arena}
use Rattle.rd_tree.specs.declared.node.Node as inner
use Rattle.rd_tree.specs.declared.table.row.Summary.{Summary}
use Rattle.rd_tree.specs.declared.table.fill.SiblingSums.{SiblingSums}
use Rattle.rd_tree.specs.Forest.{has}
use Rattle.rd_tree.specs.Document.{BoxKey, BoxForest}
use Rattle.rd_tree.specs.Internal.Linked.{linked}
use Rattle.rd_tree.specs.Internal.Summaries.{summary_of, summary_at}
use Rattle.rd_tree.specs.Hulls.{breadth, hull_in, touched_in}

-- what some siblings are together
abbrev pub gathered_in : BoxForest → SiblingSums
gathered_in f = record { breadth = breadth f; touched = touched_in f; hull = hull_in f }

-- the row of a box of this extent with these below it
abbrev pub row_over : Rectangle → SiblingSums → Summary
row_over own below = record {
  children = below.breadth;
  touched = below.touched;
  hull = hull_of
      own below.hull;
}

-- The rows of these boxes are right, and those of all other live keys are as they were.
abbrev pub Gathers : Arena inner.Node → List Summary → List Summary → BoxForest → Type 0
Gathers a old new f = (k : BoxKey) → is_some (linked a k) ≡ true → summary_at new k
    ≡ (if has same_key k f then summary_of k f else summary_at old k)
