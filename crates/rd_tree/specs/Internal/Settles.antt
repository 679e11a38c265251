-- Marks that are taken off where they are.
use Rattle.std.specs.Prelude.{◌≡◌, true, if◌then◌else◌, List, is_some}
use Rattle.rd_keys.specs.Keys.{same_key}
use Rattle.rd_keys.specs.Arena.{Arena}
use Rattle.rd_tree.specs.declared.node.Node as inner
use Rattle.rd_tree.specs.declared.table.row.Summary.{Summary}
use Rattle.rd_tree.specs.Forest.{has}
use Rattle.rd_tree.specs.Document.{BoxKey, BoxForest}
use Rattle.rd_tree.specs.Internal.Linked.{linked}
use Rattle.rd_tree.specs.Internal.Summaries.{summary_of, summary_at}
use Rattle.rd_tree.specs.Internal.Rows.{unmarked}

-- Each of these boxes has the right count of touched boxes below it.
abbrev pub HasCounts : List Summary → BoxForest → Type 0
HasCounts rows f = (k : BoxKey) → has same_key k f ≡ true → (summary_at rows k).touched
    ≡ (summary_of k f).touched

-- The rows of these boxes count no touched box any more, and those of all other live keys are as they were.
abbrev pub Unmarks : Arena inner.Node → List Summary → List Summary → BoxForest → Type 0
Unmarks a old new f =
    (k : BoxKey) → is_some (linked a k) ≡ true
    → summary_at new k ≡ (if has same_key k f then unmarked (summary_at old k) else summary_at
    old k)
