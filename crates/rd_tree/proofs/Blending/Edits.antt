-- The counts of blended layers once a tree is edited, but for those above the edit.
use Rattle.std.proofs.Common.{◌≡◌, refl, ap, ◌∙◌, sym, subst, ℕ, ◌+◌, ◌<◌, ◌≤◌, Bool, true, false, ◌||◌, cond, arith, List, [], ◌∷◌, length, inl, inr}
use Rattle.std.specs.Prelude.{Option, Some, None, String, is_some, slice_index_or}
use Rattle.std.specs.HashMap.{HashMap}
use Rattle.rd_keys.specs.Keys.{same_key}
use Rattle.rd_keys.specs.Arena.{Arena}
use Rattle.rd_keys.proofs.Keys.{same_key-sound, same_key-refl}
use Rattle.rd_style.specs.declared.styles.StyleChange.{StyleChange}
use Rattle.rd_tree.specs.declared.node.Node as inner
use Rattle.rd_tree.specs.declared.reach.Reach.{Reach}
use Rattle.rd_tree.specs.declared.reach.Reach.TheVariants.{Nothing, Alone, Subtree}
use Rattle.rd_tree.specs.Forest.{empty, tree, ◌▷◌, size, has, children, with_children, insert_before, insert_among, without_branch, branch, at_box, map_where, in_subtree, AreApart, IsApart, IsPlaceIn}
use Rattle.rd_tree.specs.Document.{BoxKey, Item, BoxForest, with_all_left}
use Rattle.rd_tree.specs.Changes.{restyle, put_elsewhere}
use Rattle.rd_tree.specs.Touching.{touch}
use Rattle.rd_tree.specs.Internal.Links.{Node, with_item, edit, parent_of, unlinked}
use Rattle.rd_tree.specs.Internal.Linked.{linked, marks, Relinks, IsTree, IsConsistent, seen}
use Rattle.rd_tree.specs.Internal.Reaching.{touch_reached}
use Rattle.rd_tree.specs.Internal.Rows.{IsStanding, IsIn}
use Rattle.rd_tree.specs.Internal.Blending.{given, given_in, given_under, AreCounts, Owes, count_at, PutsCount, CanRecount, KeepsCountsOff, IsBlending}
use Rattle.rd_tree.proofs.Linking.Standing.{cases, never, from_left, from_right, has-join, either, differs_back, apart_back}
use Rattle.rd_tree.proofs.Linking.Cutting.{Among, without_branch-with_children, in_children}
use Rattle.rd_tree.proofs.Forests.Restoring.{itself_under, branch_there, branch_off, restored}
use Rattle.rd_tree.proofs.Forests.Without.{apart_without, in_without, stays}
use Rattle.rd_tree.proofs.Summaries.Within.{not_own}
use Rattle.rd_tree.proofs.Nodes.Each.{has-each}
use Rattle.rd_tree.proofs.Nodes.Looking.{apart_seen}
use Rattle.rd_tree.proofs.Nodes.Grow.{GrownTree}
use Rattle.rd_tree.proofs.Nodes.Unlinking.{Unlinked, cut_out}
use Rattle.rd_tree.proofs.Tables.Above.{puts_by, is_live, in_up}
use Rattle.rd_tree.proofs.Tables.TreeRows.{seen_stands, slot_made}
use Rattle.rd_tree.proofs.Tables.Keeping.{same_slots}
use Rattle.rd_tree.proofs.Tables.Removed.{IsParent, left_slots, left_stands}
use Rattle.rd_tree.proofs.Tables.Moved.{still_live}
use Rattle.rd_tree.proofs.Summaries.Placed.{has-with_child}
use Rattle.rd_tree.proofs.Blending.Counts.{in_top, counts_as, given-join, counts_join, counts_each, owes_each, given_few, few_given}
use Rattle.rd_tree.proofs.Blending.Shifting.{shift_under, shift_style}

-- ---- parts of boxes whose counts are right

counts_left : (n : BoxKey → ℕ) (f g : BoxForest) → AreCounts n (f ▷ g) → AreCounts n f
counts_left n empty g a = tt
counts_left n (tree k d below rest) g a = (a.0, a.1, counts_left n rest g a.2)

counts_right : (n : BoxKey → ℕ) (f g : BoxForest) → AreCounts n (f ▷ g) → AreCounts n g
counts_right n empty g a = a
counts_right n (tree k d below rest) g a = counts_right n rest g a.2

counts_children : (n : BoxKey → ℕ) (p : BoxKey) (f : BoxForest) → AreCounts n f → AreCounts n (children same_key p f)
counts_children n p empty a = tt
counts_children n p (tree k d below rest) a =
    elim (cases (same_key p k)) [
      | inl e ↦ rw e a.1
      | inr e ↦ rw e (counts_join n (children same_key p below) (children same_key p rest) (counts_children n p below a.1) (counts_children n p rest a.2))
    ]

counts_branch : (n : BoxKey → ℕ) (k : BoxKey) (f : BoxForest) → AreCounts n f → AreCounts n (branch same_key k f)
counts_branch n k empty a = tt
counts_branch n k (tree j d below rest) a =
    elim (cases (same_key k j)) [
      | inl e ↦ rw e (a.0, a.1, tt)
      | inr e ↦ elim (cases (has same_key k below)) [ inl u ↦ rw (e, u) (counts_branch n k below a.1) | inr u ↦ rw (e, u) (counts_branch n k rest a.2) ]
    ]

-- ---- a branch among siblings

given-insert_before : (n : BoxKey → ℕ) (j : BoxKey) (g f : BoxForest) → given_in n (insert_before same_key j g f) ≡ given_in n f + given_in n g
given-insert_before n j g empty = omega arith
given-insert_before n j g (tree k d below rest) =
    elim (cases (same_key j k)) [
      | inl e ↦ rw e (omega (arith, given-join n g (tree k d below rest)))
      | inr e ↦ rw e (omega (arith, given-insert_before n j g rest))
    ]

given-insert : (n : BoxKey → ℕ) (before : Option BoxKey) (g f : BoxForest) → given_in n (insert_among same_key before g f) ≡ given_in n f + given_in n g
given-insert n None g f = given-join n f g
given-insert n (Some j) g f = given-insert_before n j g f

counts_insert_before : (n : BoxKey → ℕ) (j : BoxKey) (g f : BoxForest) → AreCounts n g → AreCounts n f → AreCounts n (insert_before same_key j g f)
counts_insert_before n j g empty a b = a
counts_insert_before n j g (tree k d below rest) a b =
    elim (cases (same_key j k)) [
      | inl e ↦ rw e (counts_join n g (tree k d below rest) a b)
      | inr e ↦ rw e (b.0, b.1, counts_insert_before n j g rest a b.2)
    ]

counts_insert : (n : BoxKey → ℕ) (before : Option BoxKey) (g f : BoxForest) → AreCounts n g → AreCounts n f → AreCounts n (insert_among same_key before g f)
counts_insert n None g f a b = counts_join n f g b a
counts_insert n (Some j) g f a b = counts_insert_before n j g f a b

off_insert_before : (p j : BoxKey) (g f : BoxForest) → has same_key p g ≡ false → has same_key p f ≡ false → has same_key p (insert_before same_key j g f)
    ≡ false
off_insert_before p j g empty a b = a
off_insert_before p j g (tree k d below rest) a b =
    let s = either (same_key p k) (has same_key p below || has same_key p rest) b in
    let t = either (has same_key p below) (has same_key p rest) s.1 in
    elim (cases (same_key j k)) [
      | inl e ↦ rw (e, has-join same_key same_key-sound same_key-refl p g (tree k d below rest), a) b
      | inr e ↦ rw (e, s.0, t.0) (off_insert_before p j g rest a t.1)
    ]

off_insert : (p : BoxKey) (before : Option BoxKey) (g f : BoxForest) → has same_key p g ≡ false → has same_key p f ≡ false → has same_key p (insert_among
    same_key before g f) ≡ false
off_insert p None g f a b = rw (has-join same_key same_key-sound same_key-refl p f g, b) a
off_insert p (Some j) g f a b = off_insert_before p j g f a b

-- A branch comes among the children of p.
pub owes_put : (n : BoxKey → ℕ) (p : BoxKey) (before : Option BoxKey) (one f : BoxForest) (more : ℕ) → IsApart same_key f → has same_key p f ≡ true
    → has same_key p one ≡ false → AreCounts n f → AreCounts n one → given_in n one ≡ more → Owes (Some p) 0 more n (with_children same_key p
    (insert_among same_key before one (children same_key p f)) f)
owes_put n p before one f more a there off c own e =
    let h : BoxForest = insert_among same_key before one (children same_key p f) in
    let o : has same_key p h ≡ false = off_insert p before one (children same_key p f) off (not_own same_key same_key-sound same_key-refl p f a) in
    let t : given_in n h ≡ given_in n (children same_key p f) + given_in n one = given-insert n before one (children same_key p f) in
    let w : given_in n h + 0 ≡ given_in n (children same_key p f) + more = omega (arith, t, e) in
    (shift_under p 0 more n h o (counts_insert n before one (children same_key p f) own (counts_children n p f c)) None f a (λ j i. cc) there w c).owes

-- A branch goes from among the children of p.
pub owes_cut : (n : BoxKey → ℕ) (p k : BoxKey) (f : BoxForest) (w : Among k (children same_key p f)) → IsApart same_key f → has same_key p f ≡ true
    → AreCounts n f → Owes (Some p) (given w.item.style (n k)) 0 n (without_branch same_key k f)
owes_cut n p k f w a there c =
    let h : BoxForest = w.before ▷ w.after in
    let e : without_branch same_key k f ≡ with_children same_key p h f = without_branch-with_children same_key same_key-sound same_key-refl p k f w a there in
    let own : has same_key p (children same_key p f) ≡ false = not_own same_key same_key-sound same_key-refl p f a in
    let parts : (has same_key p w.before || has same_key p (tree k w.item w.below w.after)) ≡ false = sym (ap (has same_key p) w.is ∙ has-join same_key
    same_key-sound same_key-refl p w.before (tree k w.item w.below w.after)) ∙ own in
    let s = either (has same_key p w.before) (has same_key p (tree k w.item w.below w.after)) parts in
    let u = either (same_key p k) (has same_key p w.below || has same_key p w.after) s.1 in
    let v = either (has same_key p w.below) (has same_key p w.after) u.1 in
    let o : has same_key p h ≡ false = rw (has-join same_key same_key-sound same_key-refl p w.before w.after, s.0) v.1 in
    let all : AreCounts n (w.before ▷ tree k w.item w.below w.after) = subst (λ z. AreCounts n z) w.is (counts_children n p f c) in
    let right = counts_right n w.before (tree k w.item w.below w.after) all in
    let sum : given_in n (children same_key p f) ≡ given_in n w.before + given_in n (tree k w.item w.below w.after) = ap (given_in n) w.is ∙ given-join n
    w.before (tree k w.item w.below w.after) in
    let t : given_in n h ≡ given_in n w.before + given_in n w.after = given-join n w.before w.after in
    let x : given_in n h + given w.item.style (n k) ≡ given_in n (children same_key p f) + 0 = omega (arith, sum, t) in
    subst (λ z. Owes (Some p) (given w.item.style (n k)) 0 n z) (sym e)
    (shift_under p (given w.item.style (n k)) 0 n h o (counts_join n w.before w.after (counts_left n w.before (tree k w.item w.below w.after) all) right.2)
    None f a (λ j i. cc) there x c).owes

-- ---- a table that is ready to be set right, and is right

pub each_has_count : (a : Arena inner.Node) (root : BoxKey) (f : BoxForest) (rows : List ℕ) → IsStanding a root f → length a.slots ≤ length rows
    → (k : BoxKey) → has same_key k f ≡ true → k.slot < length rows
each_has_count a root f rows s most k h = let l = slot_made a k (is_live a root f s k h) in omega (arith, l, most)

-- What some siblings put above them is no more than they are.
pub given_most : (n : BoxKey → ℕ) (s : Arena inner.Node) (root : BoxKey) (f : BoxForest) (k : BoxKey) → IsStanding s root f → s.limit ≡ 20000 → has
    same_key k f ≡ true → AreCounts n f → given_under (linked s k) (n k) ≤ 20000
given_most n s root f k is limit m c = at (linked s k) where
  few : (f : BoxForest) → has same_key k f ≡ true → AreCounts n f → n k + 1 ≤ size f
  few empty m c = absurd (never false m refl)
  few (tree j d below rest) m c =
      elim (cases (same_key k j)) [
        | inl e ↦
            let l : given_in n below ≤ size below = few_given n below c.1 in
            let t : n k ≡ given_in n below = ap n (same_key-sound k j e) ∙ c.0 in
            omega (arith, l, t)
        | inr e ↦ elim (cases (has same_key k below)) [
          | inl u ↦ let l = few below u c.1 in omega (arith, l)
          | inr u ↦ let l = few rest (rw (e, u) at m) c.2 in omega (arith, l)
        ]
      ]

  at : (o : Option (Node BoxKey Item)) → given_under o (n k) ≤ 20000
  at None = omega arith
  at (Some x) =
      let l : n k + 1 ≤ size f = few f m c in
      let g : given x.item.style (n k) ≤ 1 + n k = given_few x.item.style (n k) (n k) (omega arith) in
      omega (arith, l, g, is.small, limit)

-- The counts can be set right, and then are.
pub record IsOwing (a : Arena inner.Node) (root : BoxKey) (f : BoxForest) (rows : List ℕ) (from : Option BoxKey) (less more : ℕ) : Type 0 where
  pub can : CanRecount a rows from less more
  pub stands : IsStanding a root f
  pub there : IsIn from f
  pub done : (new : List ℕ) → ((r : BoxKey) (g : BoxForest) → IsStanding a r g → IsIn from g → Owes from less more (count_at rows) g → AreCounts
      (count_at new) g) → AreCounts (count_at new) f

pub is_owing : (a : Arena inner.Node) (root : BoxKey) (f : BoxForest) (rows : List ℕ) (from : Option BoxKey) (less more : ℕ) → IsStanding a root f → IsIn
    from f → ((k : BoxKey) → has same_key k f ≡ true → k.slot < length rows) → a.limit ≡ 20000 → less ≤ 20000 → Owes from less more (count_at rows) f
    → IsOwing a root f rows from less more
is_owing a root f rows from less more is i here limit few owes = record {
  can = record { root = root; boxes = f; is = is; there = i; has_rows = here; limit = limit; few = few; owes = owes };
  stands = is;
  there = i;
  done = λ new right. right root f is i owes;
}

-- The counts stay right where no style changes and no box comes or goes.
pub same_blending : (a b : Arena inner.Node) (rows : List ℕ) (f g : BoxForest) (p : BoxKey → Bool) (e : Item → Item) → ((d : Item) → (e d).style
    ≡ d.style) → g ≡ map_where p e f → marks b ≡ marks a → IsBlending a rows f → IsBlending b rows g
same_blending a b rows f g p e keeps sees slots near = subst (λ z. IsBlending b rows z) (sym sees) (record {
  all_rows = let n : length b.slots ≡ length a.slots = same_slots a b slots in omega (arith, n, near.all_rows);
  right = counts_each (count_at rows) p e keeps f near.right;
})

pub counts_reached : (n : BoxKey → ℕ) (reach : Reach) (k : BoxKey) (f : BoxForest) → AreCounts n f → AreCounts n (touch_reached reach k f)
counts_reached n Nothing k f c = c
counts_reached n Alone k f c = counts_each n (λ j. same_key j k) touch (λ d. refl) f c
counts_reached n Subtree k f c = counts_each n (λ j. in_subtree same_key j k f) touch (λ d. refl) f c

pub reached_blending : (a b : Arena inner.Node) (rows : List ℕ) (reach : Reach) (k : BoxKey) (f g : BoxForest) → g ≡ touch_reached reach k f → marks b
    ≡ marks a → IsBlending a rows f → IsBlending b rows g
reached_blending a b rows reach k f g sees slots near = subst (λ z. IsBlending b rows z) (sym sees) (record {
  all_rows = let n : length b.slots ≡ length a.slots = same_slots a b slots in omega (arith, n, near.all_rows);
  right = counts_reached (count_at rows) reach k f near.right;
})

pub owes_reached : (n : BoxKey → ℕ) (from : Option BoxKey) (less more : ℕ) (reach : Reach) (k : BoxKey) (f : BoxForest) → Owes from less more n f → Owes
    from less more n (touch_reached reach k f)
owes_reached n from less more Nothing k f c = c
owes_reached n from less more Alone k f c = owes_each n (λ j. same_key j k) touch (λ d. refl) from less more f c
owes_reached n from less more Subtree k f c = owes_each n (λ j. in_subtree same_key j k f) touch (λ d. refl) from less more f c

pub in_reached : (o : Option BoxKey) (reach : Reach) (k : BoxKey) (f : BoxForest) → IsIn o f → IsIn o (touch_reached reach k f)
in_reached None reach k f i = tt
in_reached (Some p) Nothing k f i = i
in_reached (Some p) Alone k f i = has-each (λ j. same_key j k) touch same_key p f ∙ i
in_reached (Some p) Subtree k f i = has-each (λ j. in_subtree same_key j k f) touch same_key p f ∙ i

-- ---- a tree of one box

pub planted_blending : (a : Arena inner.Node) (k : BoxKey) (d : Item) (rows : List ℕ) → seen a k ≡ tree k d empty empty → length a.slots ≤ length rows
    → rows ≡ 0 ∷ [] → IsBlending a rows (seen a k)
planted_blending a k d rows e all is = subst (λ f. IsBlending a rows f) (sym e) (record { all_rows = all; right = (ap (λ l. count_at l k) is ∙ none k.slot, tt, tt) }) where
  none : (s : ℕ) → ◌≡◌ {A = ℕ} (slice_index_or (0 ∷ []) s 0) 0
  none s = grind arith

-- ---- a new box

module _ {Y S : Type 0} (a0 a2 : Arena inner.Node) (root p k : BoxKey) (before : Option BoxKey) (d : Item) (ids : HashMap (String Y) BoxKey S)
    (rows next : List ℕ) (t0 : IsTree a0 root) (s2 : IsConsistent a2 root ids) (g : GrownTree a0 a2 root p k before d) (there : has same_key p
    (seen a0 root) ≡ true) (place : IsPlaceIn same_key before (children same_key p (seen a0 root))) (near : IsBlending a0 rows (seen a0 root)) (most : length a2.slots ≤ length next) (put : PutsCount rows next k 0) (more : ℕ)
    (e : more ≡ given d.style 0) where
  abbrev f : BoxForest
  f = seen a0 root

  abbrev one : BoxForest
  one = tree k d empty empty

  far : same_key p k ≡ false
  far = elim (cases (same_key p k)) [ inl u ↦ absurd (never (has same_key p f) there (ap (λ i. has same_key i f) (same_key-sound p k u) ∙ g.unused)) | inr u ↦ u ]

  new_stands : IsStanding a2 root (seen a2 root)
  new_stands = seen_stands a2 root s2.tree

  has_is : (j : BoxKey) → has same_key j (seen a2 root) ≡ (has same_key j f || same_key j k)
  has_is j = ap (has same_key j) g.sees ∙ has-with_child p before k d f (apart_seen a0 root t0) there place g.unused j

  put_at : (j : BoxKey) → has same_key j (seen a2 root) ≡ true → count_at next j ≡ cond (same_key k j) 0 (count_at rows j)
  put_at j m = puts_by a2 (count_at rows) (count_at next) k 0 put (is_live a2 root (seen a2 root) new_stands k (has_is k ∙ from_right (has same_key k f)
      (same_key k k) (same_key-refl k))) j (is_live a2 root (seen a2 root) new_stands j m)

  new_count : count_at next k ≡ 0
  new_count = put_at k (has_is k ∙ from_right (has same_key k f) (same_key k k) (same_key-refl k)) ∙ ap (λ b. cond b 0 (count_at rows k)) (same_key-refl k)

  old_counts : (j : BoxKey) → has same_key j f ≡ true → count_at next j ≡ count_at rows j
  old_counts j m = put_at j (has_is j ∙ from_left (has same_key j f) (same_key j k) m) ∙ ap (λ b. cond b 0 (count_at rows j)) (differs_back same_key
      same_key-sound same_key-refl f k j g.unused m)

  pub child_owing : IsOwing a2 root (seen a2 root) next (Some p) 0 more
  child_owing =
      is_owing a2 root (seen a2 root) next (Some p) 0 more new_stands
      (ap (has same_key p) g.sees ∙ itself_under same_key same_key-sound same_key-refl p (insert_among same_key before one (children same_key p f)) f there)
      (each_has_count a2 root (seen a2 root) next new_stands most) s2.limit (omega arith)
      (subst (λ z. Owes (Some p) 0 more (count_at next) z) (sym g.sees)
      (owes_put (count_at next) p before one f more (apart_seen a0 root t0) there (rw far refl) (counts_as (count_at rows) (count_at next) f old_counts
      near.right) (new_count, tt, tt) (ap (λ x. given d.style x + 0) new_count ∙ omega (arith, e))))

-- ---- a branch that goes

-- what a branch gives is told by its node
given_branch : (a0 a1 : Arena inner.Node) (root k : BoxKey) (f : BoxForest) (n : BoxKey → ℕ) (d : Item) (below : BoxForest) → Unlinked a0 a1 root k f
    → branch same_key k f ≡ tree k d below empty → given_under (linked a0 k) (n k) ≡ given d.style (n k)
given_branch a0 a1 root k f n d below u e =
    let t : tree k u.node.item u.below empty ≡ tree k d below empty = sym u.is ∙ e in
    let i : u.node.item ≡ d = cc (t) in
    ap (λ o. given_under o (n k)) u.found_before ∙ ap (λ z. given z.style (n k)) i

module _ {Y S : Type 0} (a0 a1 : Arena inner.Node) (root k p : BoxKey) (ids : HashMap (String Y) BoxKey S) (rows : List ℕ) (s : IsConsistent a0 root ids)
    (m : has same_key k (seen a0 root) ≡ true) (not_root : same_key k root ≡ false) (r : Relinks a0 a1 (unlinked same_key k (linked a0)))
    (near : IsBlending a0 rows (seen a0 root)) (q : IsParent p k (seen a0 root)) (less : ℕ) (e : less ≡ given_under (linked a0 k) (count_at rows k)) where
  abbrev all : BoxForest
  all = seen a0 root

  all_stand : IsStanding a0 root all
  all_stand = seen_stands a0 root s.tree

  pub cut_few : less ≤ 20000
  cut_few = let l : given_under (linked a0 k) (count_at rows k) ≤ 20000 = given_most (count_at rows) a0 root all k all_stand s.limit m near.right in omega
      (arith, e, l)

  pub cut_owing : IsOwing a1 root (without_branch same_key k all) rows (Some p) less 0
  cut_owing =
      let u : Unlinked a0 a1 root k all = cut_out a0 a1 root k s.tree m not_root r in
      let t = restored same_key same_key-sound same_key-refl p k all q.child all_stand.apart q.there in
      let g : given q.child.item.style (count_at rows k) ≡ less = sym (e ∙ given_branch a0 a1 root k all (count_at rows) q.child.item q.child.below u
      t.branch_is) in
      is_owing a1 root (without_branch same_key k all) rows (Some p) less 0 (left_stands a0 a1 root k ids s u r.limit) t.there (λ j h. each_has_count a0 root all rows all_stand near.all_rows j
      (in_without same_key same_key-sound same_key-refl j k all h)) (r.limit ∙ s.limit) cut_few
      (subst (λ z. Owes (Some p) z 0 (count_at rows) (without_branch same_key k all)) g (owes_cut (count_at rows) p k all q.child all_stand.apart q.there
      near.right))

pub removed_blending : (a0 a2 : Arena inner.Node) (root : BoxKey) (g : BoxForest) (ks : List BoxKey) (rows new : List ℕ) → length a0.slots ≤ length rows
    → length new ≡ length rows → seen a2 root ≡ g → marks a2 ≡ with_all_left (marks a0) ks → AreCounts (count_at new) g → IsBlending a2 new (seen a2 root)
removed_blending a0 a2 root g ks rows new most same sees slots right = subst (λ f. IsBlending a2 new f) (sym sees) (record {
  all_rows = let n : length a2.slots ≡ length a0.slots = left_slots a0 a2 ks slots in omega (arith, n, most, same);
  right = right;
})

-- ---- a branch that comes elsewhere

module _ {Y S : Type 0} (a1 a2 a4 : Arena inner.Node) (root k q : BoxKey) (before : Option BoxKey) (ids : HashMap (String Y) BoxKey S)
    (rows next : List ℕ) (s : IsConsistent a1 root ids) (m : has same_key k (seen a1 root) ≡ true) (not_root : same_key k root ≡ false)
    (r : Relinks a1 a2 (unlinked same_key k (linked a1))) (right : AreCounts (count_at rows) (seen a1 root)) (more : ℕ)
    (e : more ≡ given_under (linked a1 k) (count_at rows k)) (q_in : has same_key q (seen a1 root) ≡ true) (outside : in_subtree same_key q k
    (seen a1 root) ≡ false) (left : AreCounts (count_at next) (without_branch same_key k (seen a1 root))) (kept : KeepsCountsOff a2
    (without_branch same_key k (seen a1 root)) rows next) where
  abbrev was : BoxForest
  was = seen a1 root

  abbrev stay : BoxForest
  stay = without_branch same_key k was

  was_stands : IsStanding a1 root was
  was_stands = seen_stands a1 root s.tree

  cut : Unlinked a1 a2 root k was
  cut = cut_out a1 a2 root k s.tree m not_root r

  off : AreApart same_key stay (branch same_key k was)
  off = branch_off same_key same_key-sound same_key-refl k was was_stands.apart m

  q_stays : has same_key q stay ≡ true
  q_stays = let o = either (same_key q k) (has same_key q (children same_key k was)) outside in stays same_key same_key-sound same_key-refl q k was q_in
      o.0 o.1

  in_was : (j : BoxKey) → has same_key j (branch same_key k was) ≡ true → has same_key j was ≡ true
  in_was j u =
      let t = branch_there same_key same_key-sound same_key-refl k was was_stands.apart m in
      at (same_key j k) (has same_key j (children same_key k was)) (λ v. subst (λ z. has same_key z was ≡ true) (sym (same_key-sound j k v)) m)
      (in_children same_key same_key-sound same_key-refl j k was) (ap (has same_key j) (sym t.1) ∙ u) where
        at : (b c : Bool) → (b ≡ true → has same_key j was ≡ true) → (c ≡ true → has same_key j was ≡ true) → (b || (c || false)) ≡ true → has same_key j
            was ≡ true
        at true c x y h = x refl
        at false true x y h = y refl
        at false false x y h = absurd (never false h refl)

  same_counts : (j : BoxKey) → has same_key j (branch same_key k was) ≡ true → count_at next j ≡ count_at rows j
  same_counts j u = kept j (still_live a1 a2 k j r (is_live a1 root was was_stands j (in_was j u))) (apart_back same_key same_key-sound same_key-refl stay
      (branch same_key k was) off j u)

  given_there : given_in (count_at next) (branch same_key k was) ≡ more
  given_there =
      let k_in : has same_key k (branch same_key k was) ≡ true = ap (has same_key k) cut.is ∙ in_top k cut.node.item cut.below empty in
      let g : given_under (linked a1 k) (count_at rows k) ≡ given cut.node.item.style (count_at rows k) = given_branch a1 a2 root k was (count_at rows)
      cut.node.item cut.below cut cut.is in
      let t : given_in (count_at next) (branch same_key k was) ≡ given cut.node.item.style (count_at next k) + 0 = ap (given_in (count_at next)) cut.is in
      let n : given cut.node.item.style (count_at next k) ≡ given cut.node.item.style (count_at rows k) = ap (given cut.node.item.style) (same_counts k k_in)
      in
      omega (arith, e, g, t, n)

  pub landed_owing : IsConsistent a4 root ids → seen a4 root ≡ put_elsewhere k q before was → length a4.slots ≤ length next → IsOwing a4 root (seen a4 root)
      next (Some q) 0 more
  landed_owing s4 sees most =
      let one : BoxForest = branch same_key k was in
      is_owing a4 root (seen a4 root) next (Some q) 0 more (seen_stands a4 root s4.tree)
      (ap (has same_key q) sees ∙ itself_under same_key same_key-sound same_key-refl q (insert_among same_key before one (children same_key q stay)) stay
      q_stays)
      (each_has_count a4 root (seen a4 root) next (seen_stands a4 root s4.tree) most) s4.limit (omega arith)
      (subst (λ z. Owes (Some q) 0 more (count_at next) z) (sym sees)
      (owes_put (count_at next) q before one stay more (apart_without same_key same_key-sound same_key-refl k was was_stands.apart) q_stays (off q q_stays)
      left (counts_as (count_at rows) (count_at next) one same_counts (counts_branch (count_at rows) k was right)) given_there))

-- ---- another style

module _ {Y S : Type 0} (a0 a1 a2 : Arena inner.Node) (root k : BoxKey) (ids : HashMap (String Y) BoxKey S) (rows : List ℕ) (c : StyleChange)
    (reach : Reach) (less more : ℕ) (up : Option BoxKey) (s0 : IsConsistent a0 root ids) (s2 : IsConsistent a2 root ids) (r : Relinks a0 a1 (edit same_key
    k (with_item (restyle c)) (linked a0))) (sees1 : seen a1 root ≡ at_box same_key k (restyle c) (seen a0 root)) (sees2 : seen a2 root ≡ touch_reached
    reach k (seen a1 root)) (slots : marks a2 ≡ marks a0) (m : has same_key k (seen a0 root) ≡ true) (near : IsBlending a0 rows (seen a0 root))
    (e : less ≡ given_under (linked a0 k) (count_at rows k)) (h : more ≡ given_under (linked a1 k) (count_at rows k)) (u : up ≡ parent_of
    (linked a0 k)) where
  abbrev old : BoxForest
  old = seen a0 root

  old_stands : IsStanding a0 root old
  old_stands = seen_stands a0 root s0.tree

  pub styled_rows : length a2.slots ≤ length rows
  styled_rows = let n : length a2.slots ≡ length a0.slots = same_slots a0 a2 slots in omega (arith, n, near.all_rows)

  owes_with : (o : Option (Node BoxKey Item)) → linked a0 k ≡ o → Owes up less more (count_at rows) (at_box same_key k (restyle c) old)
  owes_with None o = absurd (never false (ap is_some (sym o) ∙ is_live a0 root old old_stands k m) refl)
  owes_with (Some x) o =
      let x1 : linked a1 k ≡ Some (with_item (restyle c) x) = r.links k ∙ rw (same_key-refl k, o) refl in
      let t = (shift_style (linked a0) k x o (restyle c) (count_at rows) None None old (Some root) (Some root) None old_stands.apart old_stands.stands
      (λ j i. cc) m near.right).owes in
      let l : given x.item.style (count_at rows k) ≡ less = sym (e ∙ ap (λ z. given_under z (count_at rows k)) o) in
      let g : given (restyle c x.item).style (count_at rows k) ≡ more = sym (h ∙ ap (λ z. given_under z (count_at rows k)) x1) in
      let v : x.up ≡ up = sym (u ∙ ap parent_of o) in
      subst (λ z. Owes z less more (count_at rows) (at_box same_key k (restyle c) old)) v
      (subst (λ z. Owes x.up less z (count_at rows) (at_box same_key k (restyle c) old)) g
      (subst (λ z. Owes x.up z (given (restyle c x.item).style (count_at rows k)) (count_at rows) (at_box same_key k (restyle c) old)) l t))

  up_in : (o : Option BoxKey) → IsIn o old → IsIn o (at_box same_key k (restyle c) old)
  up_in None i = tt
  up_in (Some p) i = has-each (λ j. same_key j k) (restyle c) same_key p old ∙ i

  pub styled_owing : IsOwing a2 root (seen a2 root) rows up less more
  styled_owing =
      let sees : seen a2 root ≡ touch_reached reach k (at_box same_key k (restyle c) old) = sees2 ∙ ap (touch_reached reach k) sees1 in
      let i : IsIn up old = subst (λ o. IsIn o old) (sym u) (in_up a0 root old old_stands k m) in
      let l : given_under (linked a0 k) (count_at rows k) ≤ 20000 = given_most (count_at rows) a0 root old k old_stands s0.limit m near.right in
      is_owing a2 root (seen a2 root) rows up less more (seen_stands a2 root s2.tree)
      (subst (λ z. IsIn up z) (sym sees) (in_reached up reach k (at_box same_key k (restyle c) old) (up_in up i)))
      (each_has_count a2 root (seen a2 root) rows (seen_stands a2 root s2.tree) styled_rows) s2.limit (omega (arith, e, l))
      (subst (λ z. Owes up less more (count_at rows) z) (sym sees) (owes_reached (count_at rows) up less more reach k (at_box same_key k (restyle c) old)
      (owes_with (linked a0 k) refl)))
