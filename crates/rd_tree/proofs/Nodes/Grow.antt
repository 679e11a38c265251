-- A tree whose arena has one more node.
use Rattle.std.proofs.Common.{◌≡◌, refl, ap, ◌∙◌, sym, subst, ℕ, ◌+◌, ◌<◌, ◌≤◌, Bool, true, false, ◌||◌, cond, arith, count_by, inl, inr, []}
use Rattle.std.specs.Prelude.{Option, Some, None, option_map, is_some}
use Rattle.rd_keys.specs.Keys.{same_key}
use Rattle.rd_keys.specs.Arena.{Arena, value, live, occupied, Enters}
use Rattle.rd_keys.proofs.Calls.{value-entered, value-enters, value-empty, limit-enters, live_occupied}
use Rattle.rd_keys.proofs.Keys.{same_key-sound, same_key-refl}
use Rattle.rd_tree.specs.declared.node.Node as inner
use Rattle.rd_tree.specs.Forest.{empty, tree, size, ◌▷◌, has, children, with_children, AreApart, IsApart, IsPlaceIn}
use Rattle.rd_tree.specs.Internal.Links.{Node, node, Stands, edit_if, put, with_next, with_prev, with_ends, end_after, grafted, ends_of, left_of}
use Rattle.rd_tree.specs.Document.{BoxKey, Item, BoxForest, with_child}
use Rattle.rd_tree.specs.Internal.Linked.{plain, linked, marks, Relinks, IsLinked, IsTree, seen}
use Rattle.rd_tree.proofs.Nodes.Marks.{taken-marks}
use Rattle.rd_tree.proofs.Linking.Standing.{cases, refute, never, frame, agree_at, read-stands, from_left, differs, out_of_children}
use Rattle.rd_tree.proofs.Linking.Children.{stands_children}
use Rattle.rd_tree.proofs.Forests.Under.{in_under_new, in_under_old, size-with_children, apart_under}
use Rattle.rd_tree.proofs.Linking.Placing.{Gap, gap, Joined, joined, stands_put}

-- one more node
pub linked_put : (old new : Arena inner.Node) (k : BoxKey) (x : inner.Node) → Enters old new k.slot k.generation x → (j : BoxKey) → linked new j
    ≡ put same_key k (plain x) (linked old) j
linked_put old new k x s j =
    elim (cases (same_key k j)) [
      | inl e ↦ rw e (subst (λ i. linked new i ≡ Some (plain x)) (same_key-sound k j e) (ap (option_map plain) (value-entered old new k.slot k.generation x s)))
      | inr e ↦
          let d : ((j.slot ≡ k.slot) × (j.generation ≡ k.generation) → ⊥) = λ p. never (same_key k j) (rw (p.0, p.1) (same_key-refl k)) e in
          rw e (ap (option_map plain) (value-enters old new k.slot k.generation x s j.slot j.generation d))
    ]

module _ {K D : Type 0} (same : K → K → Bool) where
  pub edit_if-as : (l : Option K) (e : Node K D → Node K D) (at bt : K → Option (Node K D)) (j : K) → at j ≡ bt j → edit_if same l e at j
      ≡ edit_if same l e bt j
  edit_if-as None e at bt j h = h
  edit_if-as (Some k) e at bt j h = rw h refl

  pub some_edit : (l : Option K) (e : Node K D → Node K D) (at : K → Option (Node K D)) (j : K) → is_some (edit_if same l e at j) ≡ true → is_some (at j) ≡ true
  some_edit None e at j h = h
  some_edit (Some k) e at j h = some_at (same k j) (at j) h where
    some_at : (b : Bool) (o : Option (Node K D)) → is_some (cond b (option_map e o) o) ≡ true → is_some o ≡ true
    some_at true None h = h
    some_at true (Some x) h = refl
    some_at false o h = h

-- the new node
abbrev pub fresh : Item → BoxKey → Option BoxKey → Option BoxKey → inner.Node
fresh d p prev next = record { item = d; links = record { up = Some p; prev = prev; first = None; last = None; next = next } }

pub same_occupied : (a b : Arena inner.Node) → marks b ≡ marks a → occupied b ≡ occupied a
same_occupied a b e = sym (taken-marks b) ∙ (ap (count_by (λ y. y.taken)) e ∙ taken-marks a)

pub seen_is : (a : Arena inner.Node) (root : BoxKey) (t : IsTree a root) → seen a root ≡ t.boxes
seen_is a root t = read-stands a.limit (linked a) None None t.boxes (Some root) (Some root) t.is.stands (omega (arith, t.is.counted, t.most, live_occupied a))

-- as many boxes as live keys
pub size_seen : (a : Arena inner.Node) (root : BoxKey) → IsTree a root → size (seen a root) ≡ live a
size_seen a root t = ap size (seen_is a root t) ∙ t.is.counted

-- A box of the tree has a live key.
pub live_if_in : (a : Arena inner.Node) (root p : BoxKey) → IsTree a root → has same_key p (seen a root) ≡ true → value a p.slot p.generation ≡ None → ⊥
live_if_in a root p t m h =
    let i : has same_key p t.boxes ≡ true = subst (λ f. has same_key p f ≡ true) (seen_is a root t) m in
    let u : (y : Node BoxKey Item) × (linked a p ≡ Some y) × Stands (linked a) (Some p) None (children same_key p t.boxes) y.first y.last None
    × IsApart same_key (children same_key p t.boxes) × (has same_key p (children same_key p t.boxes) ≡ false) =
    stands_children same_key same_key-sound same_key-refl (linked a) None None t.boxes (Some root) (Some root) None p t.is.apart t.is.stands i in
    let n : linked a p ≡ None = ap (option_map plain) h in
    cc (u.1, n)

pub record GrownTree (a0 a2 : Arena inner.Node) (root p k : BoxKey) (before : Option BoxKey) (d : Item) : Type 0 where
  pub is : IsTree a2 root
  pub unused : has same_key k (seen a0 root) ≡ false
  pub sees : seen a2 root ≡ with_child p before k d (seen a0 root)

-- A key that is not live is in no forest for which the links stand.
pub dead_out : (a : Arena inner.Node) (root k : BoxKey) (f : BoxForest) → IsLinked a root f → value a k.slot k.generation ≡ None → has same_key k f ≡ false
dead_out a root k f l free = refute (has same_key k f) (λ i.
    let u : (y : Node BoxKey Item) × (linked a k ≡ Some y) × Stands (linked a) (Some k) None (children same_key k f) y.first y.last None × IsApart same_key
    (children same_key k f) × (has same_key k (children same_key k f) ≡ false) =
    stands_children same_key same_key-sound same_key-refl (linked a) None None f (Some root) (Some root) None k l.apart l.stands i in
    let at_k : linked a k ≡ None = ap (option_map plain) free in
    cc (u.1, at_k))

-- A box came in, and the links round it were set.
pub grow_tree : (a0 a1 a2 : Arena inner.Node) (root p k : BoxKey) (before : Option BoxKey) (d : Item) →
    IsTree a0 root → occupied a0 < a0.limit → has same_key p (seen a0 root) ≡ true → IsPlaceIn same_key before (children same_key p (seen a0 root))
    → value a0 k.slot k.generation ≡ None →
    Enters a0 a1 k.slot k.generation (fresh d p (left_of (linked a0) (ends_of (linked a0 p)).1 before) before) → live a1 ≡ live a0 + 1 → occupied a1
    ≡ occupied a0 + 1 →
    Relinks a1 a2 (grafted same_key p k (left_of (linked a0) (ends_of (linked a0 p)).1 before) before (ends_of (linked a0 p)).0 (ends_of (linked a0 p)).1
    (linked a1)) →
    GrownTree a0 a2 root p k before d
grow_tree a0 a1 a2 root p k before d t0 room m_seen place_seen free stored more still r2 =
    let e : seen a0 root ≡ t0.boxes = seen_is a0 root t0 in
    let f : BoxForest = t0.boxes in
    let l : IsLinked a0 root f = t0.is in
    let m : has same_key p f ≡ true = subst (λ f. has same_key p f ≡ true) e m_seen in
    let place : IsPlaceIn same_key before (children same_key p f) = subst (λ f. IsPlaceIn same_key before (children same_key p f)) e place_seen in
    let c : BoxForest = children same_key p f in
    let t : (y : Node BoxKey Item) × (linked a0 p ≡ Some y) × Stands (linked a0) (Some p) None c y.first y.last None × IsApart same_key c
    × (has same_key p c ≡ false) =
    stands_children same_key same_key-sound same_key-refl (linked a0) None None f (Some root) (Some root) None p l.apart l.stands m in
    let y : Node BoxKey Item = t.0 in
    let v : Option BoxKey = left_of (linked a0) y.last before in
    let v_is : left_of (linked a0) (ends_of (linked a0 p)).1 before ≡ v = ap (λ o. left_of (linked a0) (ends_of o).1 before) t.1 in
    let unused : has same_key k f ≡ false = dead_out a0 root k f l free in
    let kc : has same_key k c ≡ false = out_of_children same_key same_key-sound same_key-refl k p f unused in
    let w : Gap same_key same_key-sound same_key-refl (linked a0) p y.first y.last c before v = gap same_key same_key-sound same_key-refl (linked a0) p
    y.first y.last c before t.3 t.2 place in
    let g : BoxForest = w.xs ▷ tree k d empty w.ys in
    let one : BoxForest = tree k d empty empty in
    let strange : AreApart same_key c one = λ i u. rw (differs same_key same_key-sound same_key-refl c i k u kc) refl in
    let j : Joined same_key same_key-sound same_key-refl one c g = joined same_key same_key-sound same_key-refl one c w.xs w.ys t.3 (
      refl,
      refl,
      (λ i u. refl),
      tt,
      tt,
    ) strange w.is in
    let at : (BoxKey → Option (Node BoxKey Item)) = grafted same_key p k v before y.first y.last (put same_key k (node d (Some p) v None None before)
    (linked a0)) in
    let stored2 : Enters a0 a1 k.slot k.generation (fresh d p v before) = subst (λ v. Enters a0 a1 k.slot k.generation (fresh d p v before)) v_is stored in
    let r3 : Relinks a1 a2 (grafted same_key p k v before y.first y.last (linked a1)) =
    subst (λ o. Relinks a1 a2 (grafted same_key p k (left_of (linked a0) (ends_of o).1 before) before (ends_of o).0 (ends_of o).1 (linked a1))) t.1 r2 in
    let links : (i : BoxKey) → linked a2 i ≡ at i = λ i. r3.links i ∙
    edit_if-as same_key (Some p) (with_ends (end_after v (Some k) y.first) (end_after before (Some k) y.last)) (edit_if same_key before (with_prev
    (Some k)) (edit_if same_key v (with_next (Some k)) (linked a1)))
    (edit_if same_key before (with_prev (Some k)) (edit_if same_key v (with_next (Some k)) (put same_key k (node d (Some p) v None None before) (linked a0)))) i
    (edit_if-as same_key before (with_prev (Some k)) (edit_if same_key v (with_next (Some k)) (linked a1)) (edit_if same_key v (with_next (Some k))
    (put same_key k (node d (Some p) v None None before) (linked a0))) i
    (edit_if-as same_key v (with_next (Some k)) (linked a1) (put same_key k (node d (Some p) v None None before) (linked a0)) i (linked_put a0 a1 k
    (fresh d p v before) stored2 i))) in
    let u : BoxForest = with_children same_key p g f in
    let stands : Stands (linked a2) None None u (Some root) (Some root) None =
    frame at (linked a2) None None u (Some root) (Some root) None (agree_at same_key same_key-sound same_key-refl at (linked a2) u (λ i _. links i))
    (stands_put same_key same_key-sound same_key-refl (linked a0) None None f (Some root) (Some root) None p k d y before v l.apart l.stands m t.1 w unused) in
    let new : (i : BoxKey) → has same_key i g ≡ true → has same_key i f ≡ true → has same_key i c ≡ true = λ i u v. j.no_more i u (rw (differs same_key
    same_key-sound same_key-refl f i k v unused) refl) in
    let apart : IsApart same_key u = apart_under same_key same_key-sound same_key-refl p g f l.apart j.apart m new in
    let inside : (i : BoxKey) → is_some (linked a2 i) ≡ true → has same_key i u ≡ true = λ i h.
    elim (cases (same_key k i)) [
      | inl e ↦ subst (λ n. has same_key n u ≡ true) (same_key-sound k i e) (in_under_new same_key same_key-sound same_key-refl k p g f m (j.has_new k
          (from_left (same_key k k) (false || false) (same_key-refl k))))
      | inr e ↦
          let h1 : is_some (at i) ≡ true = subst (λ o. is_some o ≡ true) (links i) h in
          let h2 : is_some (put same_key k (node d (Some p) v None None before) (linked a0) i) ≡ true =
          some_edit same_key v (with_next (Some k)) (put same_key k (node d (Some p) v None None before) (linked a0)) i
          (some_edit same_key before (with_prev (Some k)) (edit_if same_key v (with_next (Some k)) (put same_key k (node d (Some p) v None None before)
          (linked a0))) i
          (some_edit same_key (Some p) (with_ends (end_after v (Some k) y.first) (end_after before (Some k) y.last)) (edit_if same_key before (with_prev
          (Some k)) (edit_if same_key v (with_next (Some k)) (put same_key k (node d (Some p) v None None before) (linked a0)))) i h1)) in
          in_under_old same_key same_key-sound same_key-refl i p g f (j.has_old i) (l.inside i (rw e at h2))
    ] in
    let s1 : size u + size c ≡ size f + size g = size-with_children same_key same_key-sound same_key-refl p g f l.apart m in
    let counted : size u ≡ live a2 = omega (arith, s1, j.size_is, l.counted, more, r2.same_live) in
    let most : occupied a2 ≤ a2.limit = omega (
      arith,
      room,
      still,
      same_occupied a1 a2 r2.same_slots,
      r2.limit,
      limit-enters a0 a1 k.slot k.generation
          (fresh d p (left_of (linked a0) (ends_of (linked a0 p)).1 before) before) stored,
    ) in
    let t2 : IsTree a2 root = record { boxes = u; is = record { stands = stands; apart = apart; inside = inside; counted = counted }; most = most } in
    record {
      is = t2;
      unused = subst (λ f. has same_key k f ≡ false) (sym e) unused;
      sees = seen_is a2 root t2 ∙ (ap (λ h. with_children same_key p h f) (sym (w.amid_is (tree k d empty empty))) ∙ ap (λ h. with_child p before k d h)
          (sym e));
    }

abbrev pub alone : Item → inner.Node
alone d = record { item = d; links = record { up = None; prev = None; first = None; last = None; next = None } }

pub no_value : (a : Arena inner.Node) (s g : ℕ) → a.slots ≡ [] → value a s g ≡ None
no_value a s g h = value-empty a s g h

pub planted : (a0 a1 : Arena inner.Node) (k : BoxKey) (d : Item) → a0.slots ≡ [] → 1 ≤ a0.limit → Enters a0 a1 k.slot k.generation (alone d) → live a1
    ≡ live a0 + 1 → occupied a1 ≡ occupied a0 + 1 →
    (t : IsTree a1 k) × (seen a1 k ≡ tree k d empty empty)
planted a0 a1 k d h room stored more still =
    let f : BoxForest = tree k d empty empty in
    let stands : Stands (linked a1) None None f (Some k) (Some k) None = (
      None,
      None,
      None,
      refl,
      ap (option_map plain) (value-entered a0 a1 k.slot
          k.generation (alone d) stored),
      (refl, refl),
      (refl, refl),
    ) in
    let apart : IsApart same_key f = (refl, refl, (λ j u. refl), tt, tt) in
    let inside : (j : BoxKey) → is_some (linked a1 j) ≡ true → has same_key j f ≡ true = λ j u.
    elim (cases (same_key k j)) [
      | inl e ↦ subst (λ i. has same_key i f ≡ true) (same_key-sound k j e) (from_left (same_key k k) (false || false) (same_key-refl k))
      | inr e ↦
          let l : linked a1 j ≡ put same_key k (plain (alone d)) (linked a0) j = linked_put a0 a1 k (alone d) stored j in
          let n : put same_key k (plain (alone d)) (linked a0) j ≡ None = rw e (ap (option_map plain) (no_value a0 j.slot j.generation h)) in
          absurd (never (is_some (linked a1 j)) u (rw (l, n) refl))
    ] in
    let no_live : live a0 ≡ 0 = rw h refl in
    let no_occupied : occupied a0 ≡ 0 = rw h refl in
    let counted : size f ≡ live a1 = omega (arith, more, no_live) in
    let most : occupied a1 ≤ a1.limit = omega (arith, still, no_occupied, room, limit-enters a0 a1 k.slot k.generation (alone d) stored) in
    let t : IsTree a1 k = record { boxes = f; is = record { stands = stands; apart = apart; inside = inside; counted = counted }; most = most } in
    (t, seen_is a1 k t)
