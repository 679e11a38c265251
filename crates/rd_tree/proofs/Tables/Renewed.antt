-- What the edits of one branch of a tree leave to its table.
use Rattle.std.proofs.Common.{◌≡◌, ap, ◌∙◌, sym, subst, ◌+◌, ◌<◌, true, List, length, arith}
use Rattle.std.specs.Prelude.{String, ◌↔◌}
use Rattle.std.specs.HashMap.{HashMap}
use Rattle.rd_keys.specs.Keys.{same_key}
use Rattle.rd_keys.specs.Arena.{Arena}
use Rattle.rd_tree.specs.declared.node.Node as inner
use Rattle.rd_tree.specs.declared.table.row.Summary.{Summary}
use Rattle.rd_tree.specs.declared.table.whole.Whole.{Whole}
use Rattle.rd_tree.specs.declared.reach.Reach.{Reach}
use Rattle.rd_tree.specs.declared.reach.Reach.TheVariants.{Subtree}
use Rattle.rd_tree.specs.declared.table.renew.Stale.{Stale}
use Rattle.rd_tree.specs.declared.table.renew.Stale.TheVariants as left
use Rattle.rd_tree.specs.Forest.{has, children, in_subtree, at_box, at_subtree}
use Rattle.rd_tree.specs.Document.{BoxKey, Item, BoxForest}
use Rattle.rd_tree.specs.Internal.Linked.{linked, marks, seen, IsConsistent}
use Rattle.rd_tree.specs.Internal.Reaching.{touch_reached}
use Rattle.rd_tree.specs.Internal.Summaries.{summary_at}
use Rattle.rd_tree.specs.Internal.Rows.{IsStanding, IsRight, IsTabled, IsFitAt, CanClimb, extent_under, touched_under}
use Rattle.rd_tree.specs.Internal.Renews.{whole_at, IsStale, IsRenewing}
use Rattle.rd_tree.proofs.Nodes.Looking.{apart_seen}
use Rattle.rd_tree.proofs.Nodes.Naming.{fits_seen}
use Rattle.rd_tree.proofs.Summaries.Nearby.{fit_at}
use Rattle.rd_tree.proofs.Nodes.Rooting.{rooted_seen}
use Rattle.rd_tree.proofs.Forests.EachBranch.{within_box, within_subtree}
use Rattle.rd_tree.proofs.Tables.Keeping.{same_slots}
use Rattle.rd_tree.proofs.Tables.TreeRows.{seen_stands, each_has_row, tree_climbs}
use Rattle.rd_tree.proofs.Tables.Renewing.{whole_is, few_touched}
use Rattle.rd_tree.proofs.Tables.OneBranch.{Edited, edited_each, edited_then, edited_reach, round, low_kept, stale_left}

-- What a tree tells of a box before an edit.
module _ {Y S : Type 0} (a : Arena inner.Node) (root k : BoxKey) (ids : HashMap (String Y) BoxKey S) (s : IsConsistent a root ids) (m : has same_key k
    (seen a root) ≡ true) where
  pub fit_here : IsFitAt (linked a k)
  fit_here = fit_at a root (seen a root) (seen_stands a root s.tree) k m (fits_seen a root ids s)

  pub row_here : (rows : List Summary) → IsTabled a rows (seen a root) → k.slot < length rows
  row_here rows table = each_has_row a root (seen a root) rows (seen_stands a root s.tree) table.all_rows k m

  pub few_here : (rows : List Summary) → IsTabled a rows (seen a root) → touched_under (linked a k) + (summary_at rows k).touched < 4294967296
  few_here rows table = few_touched a root (seen a root) (seen_stands a root s.tree) k m rows (table.right k m) s.limit

-- From a to c the items of the branch of k change, and so many rows are stale.
module _ {Y S : Type 0} (a c : Arena inner.Node) (root k : BoxKey) (ids : HashMap (String Y) BoxKey S) (rows : List Summary) (stale : Stale) (old : Whole)
    (sa : IsConsistent a root ids) (sc : IsConsistent c root ids) (slots : marks c ≡ marks a)
    (table : IsTabled a rows (seen a root)) (m : has same_key k (seen a root) ≡ true) (e : Edited k (seen a root) (seen c root)) (o : old
    ≡ whole_at a rows k) (st : IsStale stale rows (seen c root) k) where
  there : has same_key k (seen c root) ≡ true
  there = e.has_same k ∙ m

  ready : IsRenewing rows (seen c root) k stale old
  ready =
      let r = rooted_seen a root sa.tree in
      record {
        inner = st;
        outer = round rows (seen a root) (seen c root) k (apart_seen a root sa.tree) e table.right old (o ∙ whole_is a root (seen a root) (seen_stands a
            root sa.tree) k m rows (table.right k m)) root r.0 r.1 r.2 m;
      }

  pub renews : CanClimb c rows k (λ f. IsRenewing rows f k stale old)
  renews = tree_climbs c root k ids rows (λ f. IsRenewing rows f k stale old) sc (let l = same_slots a c slots in omega (arith, l, table.all_rows)) there ready

  pub renewed : (new : List Summary) → ((r : BoxKey) (f : BoxForest) → IsStanding c r f → has same_key k f ≡ true → IsRenewing rows f k stale old
      → IsRight new f) → length new ≡ length rows → IsTabled c new (seen c root)
  renewed new right len = record {
    all_rows = let l = same_slots a c slots in omega (arith, l, len, table.all_rows);
    right = right root (seen c root) (seen_stands c root sc.tree) there ready;
  }

-- From a to c the item of k changes, and then as many boxes are touched as that reaches.
module _ {Y S : Type 0} (a b c : Arena inner.Node) (root k : BoxKey) (ids : HashMap (String Y) BoxKey S) (rows : List Summary) (h : Item
    → Item) (reach : Reach) (stale : Stale) (sa : IsConsistent a root ids) (sc : IsConsistent c root ids)
    (first : seen b root ≡ at_box same_key k h (seen a root)) (then : seen c root ≡ touch_reached reach k (seen b root)) (table : IsTabled a rows
    (seen a root)) (m : has same_key k (seen a root) ≡ true) where
  sees : seen c root ≡ touch_reached reach k (at_box same_key k h (seen a root))
  sees = then ∙ ap (touch_reached reach k) first

  pub box_edited : Edited k (seen a root) (seen c root)
  box_edited = subst (λ g. Edited k (seen a root) g) (sym sees)
      (edited_then k (seen a root) (at_box same_key k h (seen a root)) (touch_reached reach k (at_box same_key k h (seen a root)))
      (edited_each (λ j. same_key j k) h k (seen a root) (within_box same_key k (seen a root))) (edited_reach reach k (at_box same_key k h (seen a root))))

  pub box_stale : (stale ≡ left.Branch) ↔ (reach ≡ Subtree) → (stale ≡ left.Nothing → extent_under (linked a k) ≡ extent_under (linked c k))
      → IsStale stale rows (seen c root) k
  box_stale d x = stale_left a c root k (seen a root) (seen c root) (seen_stands a root sa.tree) (seen_stands c root sc.tree) m (box_edited.has_same k
      ∙ m) rows table.right stale reach d x
      (λ n. ap (children same_key k) sees ∙ low_kept reach h k (seen a root) (apart_seen a root sa.tree) n)

-- From a to c the items of k and of all below it change.
pub subtree_edited : (a c : Arena inner.Node) (root k : BoxKey) (h : Item → Item) → seen c root ≡ at_subtree same_key k h (seen a root)
    → Edited k (seen a root) (seen c root)
subtree_edited a c root k h e = subst (λ g. Edited k (seen a root) g) (sym e) (edited_each (λ j. in_subtree same_key j k (seen a root)) h k (seen a root)
    (within_subtree same_key k (seen a root)))
