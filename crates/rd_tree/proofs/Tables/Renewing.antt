-- The rows of a branch once its items have changed.
use Rattle.std.proofs.Common.{◌≡◌, refl, ap, ◌∙◌, sym, subst, ◌+◌, ◌<◌, ◌≤◌, Bool, true, false, ◌||◌, cond, List, arith, inl, inr}
use Rattle.std.specs.Prelude.{Option, Some, None, is_some}
use Rattle.rd_geom.specs.Plane.{Rectangle, hull_of}
use Rattle.rd_keys.specs.Keys.{same_key}
use Rattle.rd_keys.specs.Arena.{Arena}
use Rattle.rd_keys.proofs.Keys.{same_key-sound, same_key-refl}
use Rattle.rd_tree.specs.declared.node.Node as inner
use Rattle.rd_tree.specs.declared.table.row.Summary.{Summary}
use Rattle.rd_tree.specs.declared.table.whole.Whole.{Whole}
use Rattle.rd_tree.specs.declared.table.fill.SiblingSums.{SiblingSums}
use Rattle.rd_tree.specs.Forest.{empty, tree, top, has, starting_at, children, item_of, in_subtree, branch, IsApart}
use Rattle.rd_tree.specs.Internal.Links.{Node, Stands, child_and_sibling, parent_of}
use Rattle.rd_tree.specs.Document.{BoxKey, Item, BoxForest}
use Rattle.rd_tree.specs.Drawn.{AllNear}
use Rattle.rd_tree.specs.Internal.Linked.{linked, seen_from}
use Rattle.rd_tree.specs.Hulls.{breadth, hull_in, extent, touched_in}
use Rattle.rd_tree.specs.Internal.Summaries.{summary_of, summary_at, is_above}
use Rattle.rd_tree.specs.Internal.Rows.{IsStanding, Puts, IsSwapping, extent_under, touched_under, with_hull, hull_anew_of, whole_in, joined}
use Rattle.rd_tree.specs.Internal.Gathers.{Gathers, gathered_in, row_over}
use Rattle.rd_tree.specs.Internal.Renews.{whole_at, IsRightBelow, IsRightIn, KeepsOutside, IsRound}
use Rattle.rd_tree.proofs.Linking.Standing.{cases, never, refute, either, from_left, from_right, differs}
use Rattle.rd_tree.proofs.Linking.Children.{stands_children}
use Rattle.rd_tree.proofs.Forests.Under.{which}
use Rattle.rd_tree.proofs.Nodes.Works.{flip}
use Rattle.rd_tree.proofs.Nodes.Looking.{Begins, begins, fit_from}
use Rattle.rd_tree.proofs.Summaries.Nearby.{below_first, children-from, below_seen, anew_below, off_below}
use Rattle.rd_tree.proofs.Summaries.Branch.{summary-is, touched-branch, hull-branch}
use Rattle.rd_tree.proofs.Summaries.Within.{summary-children}
use Rattle.rd_tree.proofs.Tables.Keeping.{put_here}
use Rattle.rd_tree.proofs.Tables.Above.{puts_at, is_live, not_below, above_up, off_above}
use Rattle.rd_tree.proofs.Linking.Cutting.{in_children}
use Rattle.rd_tree.proofs.Tables.Swapping.{touched_most}

same_whole : (a b : Whole) → a.touched ≡ b.touched → a.hull ≡ b.hull → a ≡ b
same_whole a b p q = rw (sym p, sym q) refl

at_most_one : (o : Option (Node BoxKey Item)) → touched_under o ≤ 1
at_most_one None = omega arith
at_most_one (Some n) = one n.item.touched where
  one : (b : Bool) → cond b 1 0 ≤ 1
  one true = omega arith
  one false = omega arith

-- All below a box are within the limits where all are.
pub fit_children : (k : BoxKey) (f : BoxForest) → IsApart same_key f → has same_key k f ≡ true → AllNear f → AllNear (children same_key k f)
fit_children k f a m h = subst AllNear (sym (children-from same_key same_key-sound same_key-refl k f a m)) (low (starting_at same_key k f) (fit_from k f h))
  where
    low : (g : BoxForest) → AllNear g → AllNear (below_first g)
    low empty u = tt
    low (tree j d below rest) u = u.2

module _ (a : Arena inner.Node) (root : BoxKey) (f : BoxForest) (is : IsStanding a root f) (k : BoxKey) (m : has same_key k f ≡ true) where
  -- what the links have under a box
  found : (n : Node BoxKey Item) × (linked a k ≡ Some n) × (item_of same_key k f ≡ Some n.item)
  found =
      let y : (y : Node BoxKey Item) × (linked a k ≡ Some y) × Stands (linked a) (Some k) None (children same_key k f) y.first y.last None
      × IsApart same_key (children same_key k f) × (has same_key k (children same_key k f) ≡ false) =
      stands_children same_key same_key-sound same_key-refl (linked a) None None f (Some root) (Some root) None k is.apart is.stands m in
      let b : Begins k y.0 (starting_at same_key k f) = begins same_key same_key-sound same_key-refl (linked a) None None f (Some root) (Some root) k y.0
      is.apart is.stands m y.1 in
      (y.0, y.1, ap top b.is)

  -- the row of a box by its own extent and by what is below it
  pub row_under : summary_of k f ≡ row_over (extent_under (linked a k)) (gathered_in (children same_key k f))
  row_under =
      let n : (d : Item) × (item_of same_key k f ≡ Some d) × (summary_of k f ≡ record {
        children = breadth (children same_key k f);
        touched = touched_in
            (children same_key k f);
        hull = hull_of (extent d) (hull_in (children same_key k f));
      }) = summary-is k f is.apart m in
      let i : n.0 ≡ found.0.item = cc (n.1, found.2) in
      n.2 ∙ ap (λ e. row_over e (gathered_in (children same_key k f))) (ap extent i ∙ sym (ap extent_under found.1))

  -- The row of a box tells what its branch is.
  pub whole_is : (rows : List Summary) → summary_at rows k ≡ summary_of k f → whole_at a rows k ≡ whole_in (branch same_key k f)
  whole_is rows r = same_whole (whole_at a rows k) (whole_in (branch same_key k f))
      (ap (λ n. touched_under (linked a k) + n.touched) r ∙ (ap (λ t. touched_under t + (summary_of k f).touched) found.1 ∙ sym (touched-branch k
      found.0.item f found.2)))
      (ap (λ n. n.hull) r ∙ sym (hull-branch k f))

  pub few_touched : (rows : List Summary) → summary_at rows k ≡ summary_of k f → a.limit ≡ 20000 → touched_under (linked a k) + (summary_at rows k).touched
      < 4294967296
  few_touched rows r l = omega (arith, ap (λ n. n.touched) r, at_most_one (linked a k), touched_most k f, is.small, l)

  live_below : (j : BoxKey) → has same_key j (children same_key k f) ≡ true → is_some (linked a j) ≡ true
  live_below j u = is_live a root f is j (in_children same_key same_key-sound same_key-refl j k f u)

  -- Its row is written alone.
  module _ (old new : List Summary) (row : Summary) (put : Puts old new k row) where
    pub put_outside : KeepsOutside a f old new k
    put_outside j l o =
        let n : same_key k j ≡ false = flip k j ∙ (either (same_key j k) (has same_key j (children same_key k f)) o).0 in
        puts_at a old new k row put (is_live a root f is k m) j l ∙ ap (λ b. cond b row (summary_at old j)) n

    put_below : (j : BoxKey) → is_some (linked a j) ≡ true → has same_key j (children same_key k f) ≡ true → summary_at new j ≡ summary_at old j
    put_below j l u =
        let n : same_key k j ≡ false = flip k j ∙ differs same_key same_key-sound same_key-refl (children same_key k f) j k u (not_below a root f is k m) in
        puts_at a old new k row put (is_live a root f is k m) j l ∙ ap (λ b. cond b row (summary_at old j)) n

    -- The rows of the branch are right where that one is, and those below it.
    put_right : row ≡ summary_of k f → IsRightBelow old f k → IsRightIn new f k
    put_right r low j u = elim (which (same_key j k) (has same_key j (children same_key k f)) u) [
      | inl e ↦ subst (λ i. summary_at new i ≡ summary_of i f) (sym (same_key-sound j k e)) (put_here old new k row put ∙ r)
      | inr e ↦ put_below j (live_below j e) e ∙ low j e
    ]

  -- The hull of a box is worked out anew.
  pub hull_renewed : (old new : List Summary) (h : Rectangle) → h ≡ hull_anew_of a old k → Puts old new k (with_hull h (summary_at old k))
      → IsRightBelow old f k → summary_at old k ≡ with_hull (summary_at old k).hull (summary_of k f) → IsRightIn new f k
  hull_renewed old new h e put low here = put_right old new (with_hull h (summary_at old k)) put
      (ap (with_hull h) here ∙ ap (λ r. with_hull r (summary_of k f)) (e ∙ anew_below a root f is k m old (λ j u. ap (λ n. n.hull) (low j u)))) low

  -- All rows of a branch are worked out anew.
  module _ (old next new : List Summary) (low : SiblingSums) (told : low ≡ gathered_in (seen_from a (child_and_sibling (linked a k)).0)) (g : Gathers a old
      next (seen_from a (child_and_sibling (linked a k)).0)) (put : Puts next new k (row_over (extent_under (linked a k)) low)) where
    gathered : (j : BoxKey) → is_some (linked a j) ≡ true → summary_at next j ≡ cond (has same_key j (children same_key k f)) (summary_of j
        (children same_key k f)) (summary_at old j)
    gathered j l = g j l ∙ ap (λ z. cond (has same_key j z) (summary_of j z) (summary_at old j)) (below_seen a root f is k m)

    pub branch_renewed : IsRightIn new f k
    branch_renewed = put_right next new (row_over (extent_under (linked a k)) low) put
        (ap (row_over (extent_under (linked a k))) (told ∙ ap gathered_in (below_seen a root f is k m)) ∙ sym row_under)
        (λ j u. gathered j (live_below j u) ∙ (ap (λ b. cond b (summary_of j (children same_key k f)) (summary_at old j)) u ∙ sym (summary-children j k f
        is.apart u)))

    pub branch_outside : KeepsOutside a f old new k
    branch_outside j l o =
        put_outside next new (row_over (extent_under (linked a k)) low) put j l o
        ∙ (gathered j l ∙ ap (λ b. cond b (summary_of j (children same_key k f)) (summary_at old j)) (either (same_key j k) (has same_key j
        (children same_key k f)) o).1)

  -- Once the rows of the branch are right, the rows above it are to have it in place of what it was.
  module _ (old_rows rows : List Summary) (right : IsRightIn rows f k) (kept : KeepsOutside a f old_rows rows k) (old : Whole) (round : IsRound old_rows f
      k old) where
    higher : (j : BoxKey) → is_above (parent_of (linked a k)) j f ≡ true → (same_key j k ≡ false) × (in_subtree same_key k j f ≡ true)
        × (in_subtree same_key j k f ≡ false)
    higher j u =
        let n : same_key j k ≡ false = refute (same_key j k) (λ e. never (is_above (parent_of (linked a k)) k f) (subst (λ i. is_above (parent_of
        (linked a k)) i f ≡ true) (same_key-sound j k e) u) (off_above a root f is k m)) in
        let i : in_subtree same_key k j f ≡ true = above_up a root f is k m j ∙ from_right (same_key k j) (is_above (parent_of (linked a k)) j f) u in
        let o : has same_key j (children same_key k f) ≡ false = refute (has same_key j (children same_key k f)) (λ v. never (in_subtree same_key k j f) i
        (off_below a root f is k m j v)) in
        (n, i, ap (λ b. b || has same_key j (children same_key k f)) n ∙ o)

    pub renewing : (new : Whole) → new ≡ whole_at a rows k → IsSwapping rows f (parent_of (linked a k)) old new
    renewing new e = record {
      rest = round.rest;
      was = λ j h u. let s = higher j u in kept j (is_live a root f is j h) s.2 ∙ round.was j h s.0 s.1;
      is = λ j h u.
          let s = higher j u in
          let w : whole_in (branch same_key k f) ≡ new = sym (e ∙ whole_is rows (right k (from_left (same_key k k) (has same_key k (children same_key k f))
          (same_key-refl k)))) in
          round.is j h s.0 s.1 ∙ ap (joined (round.rest j)) w;
      others = λ j h u. elim (cases (in_subtree same_key j k f)) [
        | inl v ↦ right j v
        | inr v ↦
            let n : same_key k j ≡ false = flip k j ∙ (either (same_key j k) (has same_key j (children same_key k f)) v).0 in
            kept j (is_live a root f is j h) v ∙ round.others j h v (above_up a root f is k m j ∙ (ap (λ b. b || is_above (parent_of (linked a k)) j f) n ∙ u))
      ];
    }
