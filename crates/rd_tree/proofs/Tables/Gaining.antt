-- The rows of the boxes above a branch that comes or goes.
use Rattle.std.proofs.Common.{◌≡◌, refl, ap, ◌∙◌, sym, ℕ, ◌+◌, ◌-◌, ◌<◌, ◌≤◌, Bool, true, false, cond, arith, List, length, inl, inr}
use Rattle.std.specs.Prelude.{Some, is_some}
use Rattle.rd_keys.specs.Keys.{same_key}
use Rattle.rd_keys.specs.Arena.{Arena}
use Rattle.rd_keys.proofs.Keys.{same_key-sound, same_key-refl}
use Rattle.rd_tree.specs.declared.node.Node as inner
use Rattle.rd_tree.specs.declared.table.row.Summary.{Summary}
use Rattle.rd_tree.specs.declared.table.whole.Whole.{Whole}
use Rattle.rd_tree.specs.Forest.{has, children, in_subtree, size}
use Rattle.rd_tree.specs.Document.{BoxKey, BoxForest}
use Rattle.rd_tree.specs.Internal.Linked.{linked}
use Rattle.rd_tree.specs.Internal.Summaries.{summary_of, summary_at}
use Rattle.rd_tree.specs.Internal.Rows.{Puts, IsStanding, IsSwapping, IsGaining, IsLosing, CanClimb, CanSwap, nothing, joined, more, with_child_count}
use Rattle.rd_tree.proofs.Linking.Standing.{cases, never, from_left}
use Rattle.rd_tree.proofs.Tables.Above.{is_live, puts_at}
use Rattle.rd_tree.proofs.Summaries.Branch.{hull_near-unit}
use Rattle.rd_tree.proofs.Tables.Swapping.{children_most, same_row}

-- p is not among those that are not above it
off : (p k : BoxKey) (f : BoxForest) → in_subtree same_key p k f ≡ false → same_key p k ≡ false
off p k f h = elim (cases (same_key p k)) [
  | inl e ↦ absurd (never (in_subtree same_key p k f) (from_left (same_key p k) (has same_key p (children same_key
      k f)) e) h)
  | inr e ↦ e
]

module _ (a : Arena inner.Node) (rows next : List Summary) (root p : BoxKey) (f : BoxForest) (is : IsStanding a root f) (there : has same_key p f ≡ true) where
  -- the row of p is another, and all others are as they were
  one_row : (row : Summary) → Puts rows next p row → (k : BoxKey) → has same_key k f ≡ true → summary_at next k ≡ cond (same_key p k) row (summary_at rows k)
  one_row row put k h = puts_at a rows next p row put (is_live a root f is p there) k (is_live a root f is k h)

  -- the row of a box above p once p has c children
  above_row : (c : ℕ) (k : BoxKey) → Puts rows next p (with_child_count c (summary_at rows p)) → has same_key k f ≡ true → summary_at next k
      ≡ with_child_count (cond (same_key p k) c (summary_at rows k).children) (summary_at rows k)
  above_row c k put h = one_row (with_child_count c (summary_at rows p)) put k h ∙ at (same_key p k) refl where
    at : (b : Bool) → same_key p k ≡ b → cond b (with_child_count c (summary_at rows p)) (summary_at rows k) ≡ with_child_count (cond b c (summary_at rows
        k).children) (summary_at rows k)
    at true e = ap (λ i. with_child_count c (summary_at rows i)) (same_key-sound p k e)
    at false e = refl

  pub others_row : (row : Summary) (k : BoxKey) → Puts rows next p row → is_some (linked a k) ≡ true → in_subtree same_key p k f ≡ false
      → summary_at next k ≡ summary_at rows k
  others_row row k put l u = puts_at a rows next p row put (is_live a root f is p there) k l ∙ ap (λ b. cond b row (summary_at rows k)) (off p k f u)

  -- ---- a branch comes

  pub gaining : (w : Whole) → Puts rows next p (with_child_count ((summary_at rows p).children + 1) (summary_at rows p)) → IsGaining rows f p w
      → IsSwapping next f (Some p) nothing w
  gaining w put g = record {
    rest = λ k. with_child_count ((g.rest k).children + cond (same_key p k) 1 0) (g.rest k);
    was = λ k h u. above_row ((summary_at rows p).children + 1) k put h ∙ came k h u;
    is = λ k h u. g.is k h u;
    others = λ k h u. others_row (with_child_count ((summary_at rows p).children + 1) (summary_at rows p)) k put (is_live a root f is k h) u ∙ g.others k h u;
  } where
    came : (k : BoxKey) → has same_key k f ≡ true → in_subtree same_key p k f ≡ true →
        with_child_count (cond (same_key p k) ((summary_at rows p).children + 1) (summary_at rows k).children) (summary_at rows k)
        ≡ joined (with_child_count ((g.rest k).children + cond (same_key p k) 1 0) (g.rest k)) nothing
    came k h u =
        let r : summary_at rows k ≡ g.rest k = g.was k h u in
        same_row (with_child_count (cond (same_key p k) ((summary_at rows p).children + 1) (summary_at rows k).children) (summary_at rows k)) (joined
        (with_child_count ((g.rest k).children + cond (same_key p k) 1 0) (g.rest k)) nothing)
        (at (same_key p k) refl) (let t : (summary_at rows k).touched ≡ (g.rest k).touched = ap (λ n. n.touched) r in omega (arith, t)) (ap (λ n. n.hull) r
        ∙ sym (g.plain k)) where
          at : (b : Bool) → same_key p k ≡ b → cond b ((summary_at rows p).children + 1) (summary_at rows k).children ≡ (g.rest k).children + cond b 1 0
          at true e = ap (λ n. n.children + 1) (ap (summary_at rows) (same_key-sound p k e) ∙ g.was k h u)
          at false e = let c : (summary_at rows k).children ≡ (g.rest k).children = ap (λ n. n.children) (g.was k h u) in omega (arith, c)

  -- ---- a branch goes

  pub losing : (w : Whole) → Puts rows next p (with_child_count ((summary_at rows p).children - 1) (summary_at rows p)) → IsLosing rows f p w
      → IsSwapping next f (Some p) w nothing
  losing w put g = record {
    rest = λ k. summary_of k f;
    was = λ k h u. above_row ((summary_at rows p).children - 1) k put h ∙ went k h u;
    is = λ k h u. same_row (summary_of k f) (joined (summary_of k f) nothing) refl (omega arith) (sym (hull_near-unit k f));
    others = λ k h u. others_row (with_child_count ((summary_at rows p).children - 1) (summary_at rows p)) k put (is_live a root f is k h) u ∙ g.others k h u;
  } where
    went : (k : BoxKey) → has same_key k f ≡ true → in_subtree same_key p k f ≡ true →
        with_child_count (cond (same_key p k) ((summary_at rows p).children - 1) (summary_at rows k).children) (summary_at rows k) ≡ joined (summary_of k f) w
    went k h u =
        let r : summary_at rows k ≡ more (same_key p k) (summary_of k f) w = g.was k h u in
        same_row (with_child_count (cond (same_key p k) ((summary_at rows p).children - 1) (summary_at rows k).children) (summary_at rows k)) (joined
        (summary_of k f) w)
        (at (same_key p k) refl) (ap (λ n. n.touched) r) (ap (λ n. n.hull) r) where
          at : (b : Bool) → same_key p k ≡ b → cond b ((summary_at rows p).children - 1) (summary_at rows k).children ≡ (summary_of k f).children
          at true e =
              let c : (summary_at rows k).children ≡ (summary_of k f).children + 1 = ap (λ n. n.children) (g.was k h u ∙ ap (λ b. more b (summary_of k f)
              w) e) in
              let s : (summary_at rows p).children ≡ (summary_at rows k).children = ap (λ i. (summary_at rows i).children) (same_key-sound p k e) in
              omega (arith, c, s)
          at false e =
              let c : (summary_at rows k).children ≡ (summary_of k f).children + 0 = ap (λ n. n.children) (g.was k h u ∙ ap (λ b. more b (summary_of k f)
              w) e) in
              omega (arith, c)

-- p is above itself
self_above : (p : BoxKey) (f : BoxForest) → in_subtree same_key p p f ≡ true
self_above p f = from_left (same_key p p) (has same_key p (children same_key p f)) (same_key-refl p)

-- The count of children can rise.
pub can_gain : (a : Arena inner.Node) (rows : List Summary) (p : BoxKey) (w : Whole) → CanClimb a rows p (λ f. IsGaining rows f p w)
    → (summary_at rows p).children < 4294967295
can_gain a rows p w c =
    let r : summary_at rows p ≡ c.ready.rest p = c.ready.was p c.there (self_above p c.boxes) in
    let i : summary_of p c.boxes ≡ more (same_key p p) (c.ready.rest p) w = c.ready.is p c.there (self_above p c.boxes) in
    let x : (summary_at rows p).children ≡ (c.ready.rest p).children = ap (λ n. n.children) r in
    let y : (summary_of p c.boxes).children ≡ (c.ready.rest p).children + 1 = ap (λ n. n.children) i ∙ ap (λ b. (c.ready.rest p).children + cond b 1 0)
    (same_key-refl p) in
    let m : (summary_of p c.boxes).children ≤ size c.boxes = children_most p c.boxes in
    omega (arith, x, y, m, c.is.small, c.few)

-- The count of children can fall.
pub can_lose : (a : Arena inner.Node) (rows : List Summary) (p : BoxKey) (w : Whole) → CanClimb a rows p (λ f. IsLosing rows f p w)
    → 0 < (summary_at rows p).children
can_lose a rows p w c =
    let x : (summary_at rows p).children ≡ (summary_of p c.boxes).children + 1 = ap (λ n. n.children) (c.ready.was p c.there (self_above p c.boxes))
    ∙ ap (λ b. (summary_of p c.boxes).children + cond b 1 0) (same_key-refl p) in
    omega (arith, x)

-- Once the count is set, one branch can be swapped for another.
pub can_swap : (a : Arena inner.Node) (rows next : List Summary) (p : BoxKey) (Q : BoxForest → Type 0) (old new : Whole) → (c : CanClimb a rows p Q)
    → length next ≡ length rows → IsSwapping next c.boxes (Some p) old new → CanSwap a next (Some p) old new
can_swap a rows next p Q old new c len s = record {
  root = c.root;
  boxes = c.boxes;
  is = c.is;
  there = c.there;
  has_rows = λ k h. let l = c.has_rows k h
      in omega (arith, l, len);
  fits = c.fits;
  few = c.few;
  swapping = s;
}
