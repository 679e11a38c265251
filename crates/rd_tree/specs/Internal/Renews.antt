-- Rows that are set right once the items of one branch have changed.
use Rattle.std.specs.Prelude.{◌≡◌, ◌+◌, true, false, List, is_some}
use Rattle.rd_keys.specs.Keys.{same_key}
use Rattle.rd_keys.specs.Arena.{Arena}
use Rattle.rd_tree.specs.declared.node.Node as inner
use Rattle.rd_tree.specs.declared.table.row.Summary.{Summary}
use Rattle.rd_tree.specs.declared.table.whole.Whole.{Whole}
use Rattle.rd_tree.specs.declared.table.renew.Stale.{Stale}
use Rattle.rd_tree.specs.declared.table.renew.Stale.TheVariants.{Nothing, Hull, Branch}
use Rattle.rd_tree.specs.Forest.{has, children, in_subtree, branch}
use Rattle.rd_tree.specs.Document.{BoxKey, BoxForest}
use Rattle.rd_tree.specs.Internal.Linked.{linked}
use Rattle.rd_tree.specs.Internal.Summaries.{summary_of, summary_at}
use Rattle.rd_tree.specs.Internal.Rows.{touched_under, with_hull, whole_in, joined}

-- what the branch of a box is, by its row
abbrev pub whole_at : Arena inner.Node → List Summary → BoxKey → Whole
whole_at a rows k = record {
  touched = touched_under (linked a k) + (summary_at rows
      k).touched;
  hull = (summary_at rows k).hull;
}

-- Each box below k has the right row.
abbrev pub IsRightBelow : List Summary → BoxForest → BoxKey → Type 0
IsRightBelow rows f k = (j : BoxKey) → has same_key j (children same_key k f) ≡ true
    → summary_at rows j ≡ summary_of j f

-- The box k has the right row, and so has each box below it.
abbrev pub IsRightIn : List Summary → BoxForest → BoxKey → Type 0
IsRightIn rows f k = (j : BoxKey) → in_subtree same_key j k f ≡ true → summary_at rows j
    ≡ summary_of j f

-- No row of a live key changes but those of k and of the boxes below it.
abbrev pub KeepsOutside : Arena inner.Node → BoxForest → List Summary → List Summary → BoxKey
    → Type 0
KeepsOutside a f old new k = (j : BoxKey) → is_some (linked a j) ≡ true → in_subtree same_key j
    k f ≡ false → summary_at new j ≡ summary_at old j

-- All rows of the branch of k are right but those that are stale.
abbrev pub IsStale : Stale → List Summary → BoxForest → BoxKey → Type 0
IsStale Nothing rows f k = IsRightIn rows f k
IsStale Hull rows f k = IsRightBelow rows f k × (summary_at rows k ≡ with_hull (summary_at rows
    k).hull (summary_of k f))
IsStale Branch rows f k = Unit {0}

-- Each row above k has what it is to have but for the branch of k, which was old. All other rows outside that branch are
-- right.
pub record IsRound (rows : List Summary) (f : BoxForest) (k : BoxKey) (old : Whole) : Type 0 where
  pub rest : BoxKey → Summary
  pub was : (j : BoxKey) → has same_key j f ≡ true → same_key j k ≡ false
      → in_subtree same_key k j f ≡ true → summary_at rows j ≡ joined (rest j) old
  pub is : (j : BoxKey) → has same_key j f ≡ true → same_key j k ≡ false
      → in_subtree same_key k j f ≡ true → summary_of j f ≡ joined (rest j) (whole_in
      (branch same_key k f))
  pub others : (j : BoxKey) → has same_key j f ≡ true → in_subtree same_key j k f ≡ false
      → in_subtree same_key k j f ≡ false → summary_at rows j ≡ summary_of j f

-- The branch of k was old, and of its rows so many are stale.
pub record IsRenewing (rows : List Summary) (f : BoxForest) (k : BoxKey) (stale : Stale)
    (old : Whole) : Type 0 where
  pub inner : IsStale stale rows f k
  pub outer : IsRound rows f k old
