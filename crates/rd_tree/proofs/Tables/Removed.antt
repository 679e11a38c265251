-- The rows of the boxes that stay once a branch is cut out.
use Rattle.std.proofs.Common.{◌≡◌, refl, ap, ◌∙◌, sym, subst, ◌≤◌, true, false, cond, arith, List, [], ◌∷◌, length, inl, inr}
use Rattle.std.specs.Prelude.{Some, None, String}
use Rattle.std.specs.HashMap.{HashMap}
use Rattle.std.proofs.lemmas.List.{length-set, length-map}
use Rattle.rd_keys.specs.Keys.{same_key}
use Rattle.rd_keys.specs.Arena.{Arena}
use Rattle.rd_keys.proofs.Keys.{same_key-sound, same_key-refl}
use Rattle.rd_keys.proofs.Calls.{live_occupied}
use Rattle.rd_tree.specs.declared.node.Node as inner
use Rattle.rd_tree.specs.declared.table.row.Summary.{Summary}
use Rattle.rd_tree.specs.declared.table.whole.Whole.{Whole}
use Rattle.rd_tree.specs.Forest.{empty, tree, has, children, without_branch, branch, IsApart}
use Rattle.rd_tree.specs.Internal.Links.{Node, Stands, parent_of, unlinked}
use Rattle.rd_tree.specs.Document.{BoxKey, Item, BoxForest, Slot, with_left, with_all_left}
use Rattle.rd_tree.specs.Drawn.{AllNear}
use Rattle.rd_tree.specs.Internal.Linked.{linked, marks, mark_of, Relinks, IsTree, IsConsistent, seen}
use Rattle.rd_tree.specs.Internal.Summaries.{summary_of, summary_at}
use Rattle.rd_tree.specs.Internal.Rows.{IsStanding, IsTabled, IsLosing, IsRight, CanClimb, whole_in}
use Rattle.rd_tree.proofs.Linking.Standing.{cases, never}
use Rattle.rd_tree.proofs.Linking.Children.{stands_children}
use Rattle.rd_tree.proofs.Linking.Cutting.{Among, place}
use Rattle.rd_tree.proofs.Forests.Without.{in_without}
use Rattle.rd_tree.proofs.Nodes.Rooting.{alone_stands}
use Rattle.rd_tree.proofs.Nodes.Grow.{seen_is}
use Rattle.rd_tree.proofs.Nodes.Naming.{fits_seen}
use Rattle.rd_tree.proofs.Nodes.Unlinking.{Unlinked, cut_out, sole}
use Rattle.rd_tree.proofs.Forests.Restoring.{restored}
use Rattle.rd_tree.proofs.Summaries.Put.{more_near}
use Rattle.rd_tree.proofs.Summaries.Cut.{summary-cut}
use Rattle.rd_tree.proofs.Tables.TreeRows.{seen_stands, each_has_row}

-- The box k is a child of p.
pub record IsParent (p k : BoxKey) (f : BoxForest) : Type 0 where
  pub there : has same_key p f ≡ true
  pub child : Among k (children same_key p f)

-- Each box but the root has a parent.
pub record HasParent (a : Arena inner.Node) (k : BoxKey) (f : BoxForest) : Type 0 where
  pub key : BoxKey
  pub up_is : parent_of (linked a k) ≡ Some key
  pub is : IsParent key k f

pub parent_above : (a : Arena inner.Node) (root k : BoxKey) → IsTree a root → has same_key k (seen a root) ≡ true → same_key k root ≡ false → HasParent a k
    (seen a root)
parent_above a root k t m not_root = subst (λ f. HasParent a k f) (sym e) here where
  e : seen a root ≡ t.boxes
  e = seen_is a root t

  mk : has same_key k t.boxes ≡ true
  mk = subst (λ g. has same_key k g ≡ true) e m

  b : (y : Node BoxKey Item) × (linked a k ≡ Some y) × Stands (linked a) (Some k) None (children same_key k t.boxes) y.first y.last None × IsApart same_key
      (children same_key k t.boxes) × (has same_key k (children same_key k t.boxes) ≡ false)
  b = stands_children same_key same_key-sound same_key-refl (linked a) None None t.boxes (Some root) (Some root) None k t.is.apart t.is.stands mk

  here : HasParent a k t.boxes
  here = elim (place same_key same_key-sound same_key-refl (linked a) None None t.boxes (Some root) (Some root) None k b.0 t.is.apart t.is.stands mk b.1) [
    | inl u ↦
        let s : (d : Item) × (below : BoxForest) × (t.boxes ≡ tree root d below empty) = alone_stands same_key same_key-sound same_key-refl (linked a) None
        None t.boxes root t.is.apart t.is.stands in
        let n : k ≡ root = sole same_key same_key-sound same_key-refl root k s.0 u.0.item s.1 u.0.before u.0.below u.0.after (sym s.2 ∙ u.0.is) in
        absurd (never (same_key k root) (subst (λ i. same_key k i ≡ true) n (same_key-refl k)) not_root)
    | inr u ↦ record { key = u.0; up_is = ap parent_of b.1 ∙ u.1; is = record { there = u.2; child = u.3.0 } }
  ]

pub is_parent : (a : Arena inner.Node) (root k p : BoxKey) → IsTree a root → has same_key k (seen a root) ≡ true → same_key k root ≡ false → Some p
    ≡ parent_of (linked a k) → IsParent p k (seen a root)
is_parent a root k p t m not_root e =
    let h : HasParent a k (seen a root) = parent_above a root k t m not_root in
    let n : h.key ≡ p = cc (h.up_is, e) in
    subst (λ q. IsParent q k (seen a root)) n h.is

-- ---- the rows once a branch is cut out

fit_without : (k : BoxKey) (f : BoxForest) → AllNear f → AllNear (without_branch same_key k f)
fit_without k empty h = tt
fit_without k (tree j d below rest) h = elim (cases (same_key k j)) [
  | inl e ↦ rw e h.3
  | inr e ↦ rw e (
    h.0,
    h.1,
    fit_without k below h.2,
    fit_without k
        rest h.3,
  )
]

pub length-left : (m : List Slot) (ks : List BoxKey) → length (with_all_left m ks) ≡ length m
length-left m [] = refl
length-left m (k ∷ ks) = length-left (with_left m k) ks ∙ length-set m k.slot _

-- The rows above the parent of a branch have it too many.
pub loses : (p k : BoxKey) (f : BoxForest) (rows : List Summary) → IsApart same_key f → has same_key p f ≡ true → Among k (children same_key p f) →
    ((j : BoxKey) → has same_key j (without_branch same_key k f) ≡ true → summary_at rows j ≡ summary_of j f) → IsLosing rows (without_branch same_key k f)
    p (whole_in (branch same_key k f))
loses p k f rows apart there child right =
    let g : BoxForest = without_branch same_key k f in
    record {
      was = λ j h u. right j h ∙ (summary-cut p k f child apart there j h ∙ ap (λ b. cond b (more_near (same_key p j) (branch same_key k f) (summary_of j
          g)) (summary_of j g)) u);
      others = λ j h u. right j h ∙ (summary-cut p k f child apart there j h ∙ ap (λ b. cond b (more_near (same_key p j) (branch same_key k f) (summary_of
          j g)) (summary_of j g)) u);
    }

-- The links stand for the boxes g without a branch, which is w and was a child of p.
pub record IsLeft (a : Arena inner.Node) (root p : BoxKey) (g : BoxForest) (rows : List Summary) (w : Whole) : Type 0 where
  pub stands : IsStanding a root g
  pub there : has same_key p g ≡ true
  pub loses : IsLosing rows g p w
  pub climbs : CanClimb a rows p (λ h. IsLosing rows h p w)

-- The links stand for what stays.
pub left_stands : {Y S : Type 0} (a0 a1 : Arena inner.Node) (root k : BoxKey) (ids : HashMap (String Y) BoxKey S) → IsConsistent a0 root ids → Unlinked a0
    a1 root k (seen a0 root) → a1.limit ≡ a0.limit → IsStanding a1 root (without_branch same_key k (seen a0 root))
left_stands a0 a1 root k ids s u limit = record {
  stands = u.stands;
  apart = u.apart;
  small = omega (arith, u.counted, live_occupied a0, s.tree.most, limit);
}

module _ {Y S : Type 0} (a0 a1 : Arena inner.Node) (root k p : BoxKey) (ids : HashMap (String Y) BoxKey S) (rows : List Summary) (s : IsConsistent a0 root
    ids) (m : has same_key k (seen a0 root) ≡ true) (not_root : same_key k root ≡ false)
    (r : Relinks a0 a1 (unlinked same_key k (linked a0))) (most : length a0.slots ≤ length rows) (q : IsParent p k (seen a0 root)) where
  abbrev f : BoxForest
  f = seen a0 root

  abbrev g : BoxForest
  g = without_branch same_key k f

  before : IsStanding a0 root f
  before = seen_stands a0 root s.tree

  u : Unlinked a0 a1 root k f
  u = cut_out a0 a1 root k s.tree m not_root r

  cut_stands : IsStanding a1 root g
  cut_stands = left_stands a0 a1 root k ids s u r.limit

  parent_stays : has same_key p g ≡ true
  parent_stays = (restored same_key same_key-sound same_key-refl p k f q.child before.apart q.there).there

  -- Where the rows above p have the branch too many, it can be taken out of them.
  pub cut_left : (w : Whole) → IsLosing rows g p w → IsLeft a1 root p g rows w
  cut_left w l = record {
    stands = cut_stands;
    there = parent_stays;
    loses = l;
    climbs = record {
      root = root;
      boxes = g;
      is = cut_stands;
      there = parent_stays;
      has_rows = λ j h. each_has_row a0 root f rows before most j (in_without same_key same_key-sound same_key-refl j k f h);
      fits = fit_without k f (fits_seen a0 root ids s);
      few = r.limit ∙ s.limit;
      ready = l;
    };
  }

  pub left_by : ((j : BoxKey) → has same_key j f ≡ true → summary_at rows j ≡ summary_of j f) → (w : Whole) → w ≡ whole_in (branch same_key k f)
      → IsLeft a1 root p g rows w
  left_by right w e = cut_left w (subst (λ v. IsLosing rows g p v) (sym e) (loses p k f rows before.apart q.there q.child (λ j h. right j (in_without
      same_key same_key-sound same_key-refl j k f h))))

-- Boxes that go leave their slots.
pub left_slots : (a b : Arena inner.Node) (ks : List BoxKey) → marks b ≡ with_all_left (marks a) ks → length b.slots ≡ length a.slots
left_slots a b ks slots = sym (length-map b.slots mark_of) ∙ (ap length slots ∙ (length-left (marks a) ks ∙ length-map a.slots mark_of))

-- The table once the branch is gone.
pub removed_near : (a0 a2 : Arena inner.Node) (root : BoxKey) (g : BoxForest) (ks : List BoxKey) (rows new : List Summary) → length a0.slots ≤ length rows
    → length new ≡ length rows → seen a2 root ≡ g → marks a2 ≡ with_all_left (marks a0) ks →
    IsRight new g → IsTabled a2 new (seen a2 root)
removed_near a0 a2 root g ks rows new most same sees slots right = subst (λ f. IsTabled a2 new f) (sym sees) (record { all_rows = all; right = right }) where
  all : length a2.slots ≤ length new
  all =
      let n : length a2.slots ≡ length a0.slots = left_slots a0 a2 ks slots in
      omega (arith, n, most, same)
