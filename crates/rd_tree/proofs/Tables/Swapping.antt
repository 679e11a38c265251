-- One branch stands in place of another in the rows of the boxes above it.
use Rattle.std.proofs.Common.{◌≡◌, refl, ap, ◌∙◌, sym, ℕ, ◌+◌, ◌-◌, ◌≤◌, Bool, true, false, cond, arith, List, inl, inr}
use Rattle.std.specs.Prelude.{Option, is_some}
use Rattle.rd_keys.specs.Keys.{same_key}
use Rattle.rd_keys.specs.Arena.{Arena}
use Rattle.rd_tree.specs.declared.node.Node as inner
use Rattle.rd_tree.specs.declared.table.row.Summary.{Summary}
use Rattle.rd_tree.specs.declared.table.whole.Whole.{Whole}
use Rattle.rd_tree.specs.Forest.{empty, tree, has, starting_at, size}
use Rattle.rd_tree.specs.Document.{BoxKey, BoxForest}
use Rattle.rd_tree.specs.Internal.Linked.{linked}
use Rattle.rd_tree.specs.Internal.Summaries.{summary_first, summary_of, summary_at, is_above}
use Rattle.rd_tree.specs.Internal.Rows.{CanMark, MarksUp, IsMoving, HasHulls, KeepsCounts, IsSwapping, IsRight, CanSwap, joined, marked, with_hull}
use Rattle.rd_tree.proofs.Linking.Standing.{cases}
use Rattle.rd_tree.proofs.Tables.Above.{above_in}
use Rattle.rd_tree.proofs.Summaries.Sums.{touched_small, breadth_small}

-- a row by its fields
pub same_row : (a b : Summary) → a.children ≡ b.children → a.touched ≡ b.touched → a.hull ≡ b.hull → a ≡ b
same_row a b p q r = rw (sym p, sym q, sym r) refl

size-from : (k : BoxKey) (f : BoxForest) → size (starting_at same_key k f) ≤ size f
size-from k empty = omega arith
size-from k (tree j d below rest) =
    elim (cases (same_key k j)) [
      | inl e ↦ rw e (omega arith)
      | inr e ↦ elim (cases (has same_key k below)) [
        | inl u ↦ rw (e, u) (let s : size (starting_at same_key k below) ≤ size below = size-from k below in omega (arith, s))
        | inr u ↦ rw (e, u) (let s : size (starting_at same_key k rest) ≤ size rest = size-from k rest in omega (arith, s))
      ]
    ]

first_small : (f : BoxForest) → (summary_first f).touched ≤ size f
first_small empty = omega arith
first_small (tree k d below rest) = let s = touched_small below in omega (arith, s)

first_breadth : (f : BoxForest) → (summary_first f).children ≤ size f
first_breadth empty = omega arith
first_breadth (tree k d below rest) = let s = breadth_small below in omega (arith, s)

-- a box has no more children than there are boxes
pub children_most : (k : BoxKey) (f : BoxForest) → (summary_of k f).children ≤ size f
children_most k f = let a = first_breadth (starting_at same_key k f) in let b = size-from k f in omega (arith, a, b)

-- no more boxes are touched below one than there are
pub touched_most : (k : BoxKey) (f : BoxForest) → (summary_of k f).touched ≤ size f
touched_most k f = let a = first_small (starting_at same_key k f) in let b = size-from k f in omega (arith, a, b)

-- The counts above can be marked.
pub can_mark : (a : Arena inner.Node) (rows : List Summary) (from : Option BoxKey) (old new : Whole) → CanSwap a rows from old new
    → CanMark a rows from old.touched new.touched
can_mark a rows from old new c = record {
  root = c.root;
  boxes = c.boxes;
  is = c.is;
  there = c.there;
  has_rows = c.has_rows;
  markable = λ k h.
      let m : has same_key k c.boxes ≡ true = above_in from k c.boxes c.there h in
      let w : (summary_at rows k).touched ≡ (c.swapping.rest k).touched + old.touched = ap (λ n. n.touched) (c.swapping.was k m h) in
      let i : (summary_of k c.boxes).touched ≡ (c.swapping.rest k).touched + new.touched = ap (λ n. n.touched) (c.swapping.is k m h) in
      let s : (summary_of k c.boxes).touched ≤ size c.boxes = touched_most k c.boxes in
      record { enough = omega (arith, w); few = omega (arith, w, i, s, c.is.small, c.few) };
}

-- what is marked has the hull that it had
marked_hull : (b : Bool) (less more : ℕ) (row : Summary) → (cond b (marked less more row) row).hull ≡ row.hull
marked_hull true less more row = refl
marked_hull false less more row = refl

module _ (a : Arena inner.Node) (rows marked_rows : List Summary) (from : Option BoxKey) (old new : Whole) (root : BoxKey) (f : BoxForest)
    (live : (k : BoxKey) → has same_key k f ≡ true → is_some (linked a k) ≡ true)
    (marks : MarksUp a f rows marked_rows from old.touched new.touched) (swap : IsSwapping rows f from old new) where
  hull_kept : (k : BoxKey) → has same_key k f ≡ true → (summary_at marked_rows k).hull ≡ (summary_at rows k).hull
  hull_kept k h = ap (λ n. n.hull) (marks k (live k h)) ∙ marked_hull (is_above from k f) old.touched new.touched (summary_at rows k)

  pub moving : IsMoving marked_rows f from old.hull new.hull
  moving = record {
    rest = λ k. (swap.rest k).hull;
    was = λ k h u. hull_kept k h ∙ ap (λ n. n.hull) (swap.was k h u);
    is = λ k h u. ap (λ n. n.hull) (swap.is k h u);
    others = λ k h u. hull_kept k h ∙ ap (λ n. n.hull) (swap.others k h u);
  }

  pub swapped : (last : List Summary) → HasHulls last f → KeepsCounts marked_rows last → IsRight last f
  swapped last hulls counts k h = elim (cases (is_above from k f)) [
    | inl u ↦
        let m : summary_at marked_rows k ≡ marked old.touched new.touched (summary_at rows k) = marks k (live k h) ∙ ap (λ b. cond b (marked old.touched
        new.touched (summary_at rows k)) (summary_at rows k)) u in
        let w : summary_at rows k ≡ joined (swap.rest k) old = swap.was k h u in
        let i : summary_of k f ≡ joined (swap.rest k) new = swap.is k h u in
        let c : (summary_at last k).children ≡ (summary_at rows k).children = ap (λ n. n.children) (counts k) ∙ ap (λ n. n.children) m in
        let t : (summary_at last k).touched ≡ (summary_at rows k).touched - old.touched + new.touched = ap (λ n. n.touched) (counts k)
        ∙ ap (λ n. n.touched) m in
        let wt : (summary_at rows k).touched ≡ (swap.rest k).touched + old.touched = ap (λ n. n.touched) w in
        let it : (summary_of k f).touched ≡ (swap.rest k).touched + new.touched = ap (λ n. n.touched) i in
        same_row (summary_at last k) (summary_of k f) (c ∙ (ap (λ n. n.children) w ∙ sym (ap (λ n. n.children) i))) (omega (arith, t, wt, it)) (hulls k h)
    | inr u ↦
        let m : summary_at marked_rows k ≡ summary_at rows k = marks k (live k h) ∙ ap (λ b. cond b (marked old.touched new.touched (summary_at rows k))
        (summary_at rows k)) u in
        let o : summary_at rows k ≡ summary_of k f = swap.others k h u in
        let c : summary_at last k ≡ with_hull (summary_at last k).hull (summary_of k f) = counts k ∙ ap (with_hull (summary_at last k).hull) (m ∙ o) in
        c ∙ ap (λ r. with_hull r (summary_of k f)) (hulls k h)
  ]
