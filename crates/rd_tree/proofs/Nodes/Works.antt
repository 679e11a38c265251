-- Work on a box, on those below it, and on its later siblings.
use Rattle.std.proofs.Common.{◌≡◌, refl, ap, ◌∙◌, sym, subst, ℤ, ℕ, zero, suc, max, List, length, ◌+◌, ◌<◌, ◌≤◌, Bool, true, false, ◌||◌, ◌&&◌, not, cond, arith, inl, inr}
use Rattle.std.proofs.Common.{nat_cmp}
use Rattle.std.proofs.Math.Dec.{ltb}
use Rattle.std.proofs.lemmas.Bool.{ltb-true, ltb-false}
use Rattle.std.specs.Ordering.{ord_max}
use Rattle.std.specs.Prelude.{◌==◌, Option, Some, None, option_map}
use Rattle.rd_keys.specs.Keys.{same_key}
use Rattle.rd_keys.specs.Arena.{Arena}
use Rattle.rd_keys.proofs.Keys.{same_key-sound, same_key-refl}
use Rattle.rd_tree.specs.declared.node.Node as inner
use Rattle.rd_style.specs.Limits.{FitsRect}
use Rattle.rd_tree.specs.declared.links.walk.Work.{Work}
use Rattle.rd_tree.specs.Forest.{empty, tree, size, height, has, IsApart, AllItems}
use Rattle.rd_tree.specs.Internal.Links.{Node, node, with_item, Stands, read, edit, on_each, child_and_sibling}
use Rattle.rd_tree.specs.Document.{BoxKey, Item, BoxForest}
use Rattle.rd_tree.specs.Internal.Linked.{linked, Relinks, IsRead, seen_from}
use Rattle.rd_tree.specs.Internal.Works.{done, Allows}
use Rattle.rd_tree.specs.Changes.{shifted}
use Rattle.rd_tree.specs.Internal.Works.{AllowsAt}
use Rattle.rd_tree.specs.declared.handed.ScrollSums.{ScrollSums}
use Rattle.rd_tree.specs.Internal.Hands.{hand_at, HasHands}
use Rattle.rd_tree.specs.Internal.Laid.{laid_at, laid_by, LaidFitsAt, ShiftFitsAt}
use Rattle.rd_tree.proofs.Linking.Standing as standing
use Rattle.rd_tree.proofs.Linking.Standing.{cases, from_left, from_right, frame, agree_edit, agree_at, read-stands, differs_back, apart_back}

pub flip : (i j : BoxKey) → same_key i j ≡ same_key j i
flip i j = standing.flip same_key same_key-sound same_key-refl i j

pub seen_read : (a : Arena inner.Node) (o : Option BoxKey) (r : IsRead a o) → seen_from a o ≡ r.boxes
seen_read a o r = read-stands a.limit (linked a) r.up r.prev r.boxes o r.last r.stands r.small

-- the first of the boxes that are told
pub record Here (a : Arena inner.Node) (k : BoxKey) : Type 0 where
  pub item : Item
  pub below : BoxForest
  pub rest : BoxForest
  pub up : Option BoxKey
  pub prev : Option BoxKey
  pub last : Option BoxKey
  pub x : Option BoxKey
  pub y : Option BoxKey
  pub z : Option BoxKey
  pub found : linked a k ≡ Some (node item up prev x y z)
  pub low : Stands (linked a) (Some k) None below x y None
  pub later : Stands (linked a) up (Some k) rest z last None
  pub apart : IsApart same_key (tree k item below rest)
  pub small : 1 + (size below + size rest) ≤ a.limit
  pub seen : seen_from a (Some k) ≡ tree k item below rest

pub here : (a : Arena inner.Node) (k : BoxKey) → IsRead a (Some k) → Here a k
here a k r = at r.boxes r.stands r.apart r.small (seen_read a (Some k) r) where
  at : (f : BoxForest) → Stands (linked a) r.up r.prev f (Some k) r.last None → IsApart same_key f → size f ≤ a.limit → seen_from a (Some k) ≡ f → Here a k
  at empty s h m e = cc (s.0)
  at (tree j d below rest) s h m e =
      let n : j ≡ k = cc (s.3) in
      subst (λ i. Here a i) n (record {
        item = d;
        below = below;
        rest = rest;
        up = r.up;
        prev = r.prev;
        last = r.last;
        x = s.0;
        y = s.1;
        z = s.2;
        found = s.4;
        low = s.5;
        later = s.6;
        apart = h;
        small = m;
        seen = subst (λ i. seen_from a (Some i) ≡ tree j d below rest) (sym n) e;
      })

-- The loop has done its work on those boxes that are told from the first one on, and no more from this one on.
pub record Walked (a0 : Arena inner.Node) (first : Option BoxKey) (work : Work) (a : Arena inner.Node) (at : Option BoxKey) : Type 0 where
  pub links : Relinks a0 a (on_each (λ j. has same_key j (seen_from a0 first) && not (has same_key j (seen_from a at))) (done work) (linked a0))
  pub read : IsRead a at
  pub allowed : AllItems (Allows work) (seen_from a at)
  pub within : (j : BoxKey) → has same_key j (seen_from a at) ≡ true → has same_key j (seen_from a0 first) ≡ true
  pub smaller : size (seen_from a at) ≤ size (seen_from a0 first)

pub begun : (a : Arena inner.Node) (first : Option BoxKey) (work : Work) → IsRead a first → AllItems (Allows work) (seen_from a first)
    → Walked a first work a first
begun a first work r w = record {
  links = record { links = λ j. none (has same_key j (seen_from a first)) (linked a j); same_slots = refl; same_live = refl; limit = refl; first = refl };
  read = r;
  allowed = w;
  within = λ j e. e;
  smaller = omega arith;
} where
  none : (b : Bool) (o : Option (Node BoxKey Item)) → o ≡ cond (b && not b) (option_map (with_item (done work)) o) o
  none true o = refl
  none false o = refl

pub ended : (a0 a : Arena inner.Node) (first : Option BoxKey) (work : Work) → Walked a0 first work a None → Relinks a0 a (on_each (λ j. has same_key j
    (seen_from a0 first)) (done work) (linked a0))
ended a0 a first work w =
    let e : seen_from a None ≡ empty = nothing a.limit in
    record {
      links = λ j. w.links.links j ∙ ap (λ b. cond b (option_map (with_item (done work)) (linked a0 j)) (linked a0 j)) (ap (λ f. has same_key j
          (seen_from a0 first) && not (has same_key j f)) e ∙ all (has same_key j (seen_from a0 first)));
      same_slots = w.links.same_slots;
      same_live = w.links.same_live;
      limit = w.links.limit;
      first = w.links.first;
    } where
      all : (b : Bool) → (b && not false) ≡ b
      all true = refl
      all false = refl

      nothing : (n : ℕ) → read n (linked a) None ≡ empty
      nothing zero = refl
      nothing (suc n) = refl

-- What is asked before the work on a box.
pub allowed_here : (a0 a : Arena inner.Node) (first : Option BoxKey) (work : Work) (k : BoxKey) → Walked a0 first work a (Some k) → AllowsAt work (linked a k)
allowed_here a0 a first work k w =
    let h : Here a k = here a k w.read in
    let all : AllItems (Allows work) (tree k h.item h.below h.rest) = subst (λ f. AllItems (Allows work) f) h.seen w.allowed in
    subst (λ o. AllowsAt work o) (sym h.found) all.0

-- What is known after it of the boxes below.
pub record Below (a0 : Arena inner.Node) (first : Option BoxKey) (work : Work) (a1 : Arena inner.Node) (x : Option BoxKey) : Type 0 where
  pub read : IsRead a1 x
  pub allowed : AllItems (Allows work) (seen_from a1 x)
  pub smaller : size (seen_from a1 x) < size (seen_from a0 first)

module _ (a0 a a1 : Arena inner.Node) (first : Option BoxKey) (work : Work) (k : BoxKey) (w : Walked a0 first work a (Some k)) (r1 : Relinks a a1
    (edit same_key k (with_item (done work)) (linked a))) where
  pub low_stand : (h : Here a k) → Stands (linked a1) (Some k) None h.below h.x h.y None
  low_stand h =
      let mid : BoxKey → Option (Node BoxKey Item) = edit same_key k (with_item (done work)) (linked a) in
      frame mid (linked a1) (Some k) None h.below h.x h.y None (agree_at same_key same_key-sound same_key-refl mid (linked a1) h.below (λ j _. r1.links j))
      (frame (linked a) mid (Some k) None h.below h.x h.y None (agree_edit same_key same_key-sound same_key-refl k (with_item (done work))
      (linked a) h.below h.apart.0) h.low)

  low_read : (h : Here a k) → IsRead a1 h.x
  low_read h =
      let mid : BoxKey → Option (Node BoxKey Item) = edit same_key k (with_item (done work)) (linked a) in
      record {
        boxes = h.below;
        up = Some k;
        prev = None;
        last = h.y;
        stands = frame mid (linked a1) (Some k) None h.below h.x h.y None (agree_at same_key same_key-sound same_key-refl mid (linked a1) h.below
            (λ j _. r1.links j))
            (frame (linked a) mid (Some k) None h.below h.x h.y None (agree_edit same_key same_key-sound same_key-refl k (with_item (done work))
            (linked a) h.below h.apart.0) h.low);
        apart = h.apart.3;
        small = omega (arith, h.small, r1.limit);
      }

  pub low_seen : (h : Here a k) → seen_from a1 h.x ≡ h.below
  unfolding low_read
  low_seen h = seen_read a1 h.x (low_read h)

  pub below : Below a0 first work a1 (child_and_sibling (linked a k)).0
  below =
      let h : Here a k = here a k w.read in
      let e : (child_and_sibling (linked a k)).0 ≡ h.x = ap (λ o. (child_and_sibling o).0) h.found in
      let all : AllItems (Allows work) (tree k h.item h.below h.rest) = subst (λ f. AllItems (Allows work) f) h.seen w.allowed in
      let n : size (seen_from a (Some k)) ≡ 1 + (size h.below + size h.rest) = ap size h.seen in
      let m : size (seen_from a1 h.x) ≡ size h.below = ap size (low_seen h) in
      subst (λ o. Below a0 first work a1 o) (sym e) (record {
        read = low_read h;
        allowed = subst (λ f. AllItems (Allows work) f) (sym (low_seen h)) all.1;
        smaller = omega (arith, n, m, w.smaller);
      })

  pub onward : (a2 : Arena inner.Node) → Relinks a1 a2 (on_each (λ j. has same_key j (seen_from a1 (child_and_sibling (linked a k)).0)) (done work)
      (linked a1)) →
      (w2 : Walked a0 first work a2 (child_and_sibling (linked a k)).1) × (size (seen_from a2 (child_and_sibling (linked a k)).1) < size (seen_from a (Some k)))
  onward a2 r2 =
      let h : Here a k = here a k w.read in
      let g : Item → Item = done work in
      let e0 : (child_and_sibling (linked a k)).0 ≡ h.x = ap (λ o. (child_and_sibling o).0) h.found in
      let e1 : (child_and_sibling (linked a k)).1 ≡ h.z = ap (λ o. (child_and_sibling o).1) h.found in
      let told : (j : BoxKey) → has same_key j (seen_from a1 (child_and_sibling (linked a k)).0) ≡ has same_key j h.below = λ j. ap (λ o. has same_key j
      (seen_from a1 o)) e0 ∙ ap (has same_key j) (low_seen h) in
      -- what is under each key, by what it was
      let two : (j : BoxKey) → linked a2 j ≡ cond (has same_key j h.below) (option_map (with_item g) (cond (same_key k j) (option_map (with_item g)
      (linked a j)) (linked a j))) (cond (same_key k j) (option_map (with_item g) (linked a j)) (linked a j)) =
      λ j. r2.links j ∙ (ap (λ b. cond b (option_map (with_item g) (linked a1 j)) (linked a1 j)) (told j) ∙ ap (λ o. cond (has same_key j h.below)
      (option_map (with_item g) o) o) (r1.links j)) in
      let still : (j : BoxKey) → has same_key j h.rest ≡ true → linked a2 j ≡ linked a j = λ j u.
      let off : same_key k j ≡ false = differs_back same_key same_key-sound same_key-refl h.rest k j h.apart.1 u in
      let out : has same_key j h.below ≡ false = apart_back same_key same_key-sound same_key-refl h.below h.rest h.apart.2 j u in
      two j ∙ rw (out, off) refl in
      let limit : a2.limit ≡ a.limit = r2.limit ∙ r1.limit in
      let read2 : IsRead a2 h.z = record {
        boxes = h.rest;
        up = h.up;
        prev = Some k;
        last = h.last;
        stands = frame (linked a) (linked a2) h.up (Some k) h.rest h.z h.last None (agree_at same_key same_key-sound same_key-refl (linked a) (linked a2)
            h.rest still) h.later;
        apart = h.apart.4;
        small = omega (arith, h.small, limit);
      } in
      let seen2 : seen_from a2 h.z ≡ h.rest = seen_read a2 h.z read2 in
      let all : AllItems (Allows work) (tree k h.item h.below h.rest) = subst (λ f. AllItems (Allows work) f) h.seen w.allowed in
      let n : size (seen_from a (Some k)) ≡ 1 + (size h.below + size h.rest) = ap size h.seen in
      let m : size (seen_from a2 h.z) ≡ size h.rest = ap size seen2 in
      let in0 : (j : BoxKey) → (same_key j k || (has same_key j h.below || has same_key j h.rest)) ≡ true → has same_key j (seen_from a0 first)
      ≡ true = λ j u. w.within j (ap (has same_key j) h.seen ∙ u) in
      let F : BoxKey → Bool = λ j. has same_key j (seen_from a0 first) in
      let was : (j : BoxKey) → linked a j ≡ cond (F j && not (same_key j k || (has same_key j h.below || has same_key j h.rest))) (option_map (with_item g)
      (linked a0 j)) (linked a0 j) =
      λ j. w.links.links j ∙ ap (λ f. cond (F j && not (has same_key j f)) (option_map (with_item g) (linked a0 j)) (linked a0 j)) h.seen in
      let now : (j : BoxKey) → linked a2 j ≡ cond (F j && not (has same_key j h.rest)) (option_map (with_item g) (linked a0 j)) (linked a0 j) = λ j.
      two j ∙ (ap (λ o. cond (has same_key j h.below) (option_map (with_item g) (cond (same_key k j) (option_map (with_item g) o) o)) (cond (same_key k j)
      (option_map (with_item g) o) o)) (was j)
      ∙ joined (option_map (with_item g) (linked a0 j)) (linked a0 j) (option_map (with_item g)) refl (F j) (same_key k j) (same_key j k) (has same_key j
      h.below) (has same_key j h.rest)
      (flip k j) (in0 j) (λ u. rw (sym (same_key-sound k j u)) h.apart.0) (λ u. rw (sym (same_key-sound k j u)) h.apart.1) (h.apart.2 j)) in
      subst (λ o. (w2 : Walked a0 first work a2 o) × (size (seen_from a2 o) < size (seen_from a (Some k)))) (sym e1) (
        record {
          links = record {
            links = λ j. now j ∙ ap (λ f. cond (F j && not (has same_key j f)) (option_map (with_item g) (linked a0 j)) (linked a0 j)) (sym seen2);
            same_slots = r2.same_slots ∙ (r1.same_slots ∙ w.links.same_slots);
            same_live = r2.same_live ∙ (r1.same_live ∙ w.links.same_live);
            limit = limit ∙ w.links.limit;
            first = r2.first ∙ r1.first ∙ w.links.first;
          };
          read = read2;
          allowed = subst (λ f. AllItems (Allows work) f) (sym seen2) all.2;
          within = λ j u. in0 j (from_right (same_key j k) (has same_key j h.below || has same_key j h.rest) (from_right (has same_key j h.below)
              (has same_key j h.rest) (sym (ap (has same_key j) seen2) ∙ u)));
          smaller = omega (arith, m, n, w.smaller);
        },
        omega (arith, m, n),
      ) where
        joined : {A : Type 0} (new old : A) (g : A → A) → g old ≡ new → (f kj jk low rest : Bool) → kj ≡ jk → ((jk || (low || rest)) ≡ true → f ≡ true)
            → (kj ≡ true → low ≡ false) → (kj ≡ true → rest ≡ false) → (low ≡ true → rest ≡ false) →
            cond low (g (cond kj (g (cond (f && not (jk || (low || rest))) new old)) (cond (f && not (jk || (low || rest))) new old))) (cond kj (g (cond
            (f && not (jk || (low || rest))) new old)) (cond (f && not (jk || (low || rest))) new old)) ≡ cond (f && not rest) new old
        joined new old g e f true true low rest s i p q r = rw (p refl, q refl, i refl) e
        joined new old g e f true false low rest s i p q r = cc (s)
        joined new old g e f false true low rest s i p q r = cc (s)
        joined new old g e f false false true rest s i p q r = rw (r refl, i refl) e
        joined new old g e f false false false true s i p q r = refl
        joined new old g e f false false false false s i p q r = refl

  -- The later siblings are told as before.
  pub next_seen : (a2 : Arena inner.Node) → Relinks a1 a2 (on_each (λ j. has same_key j (seen_from a1 (child_and_sibling (linked a k)).0)) (done work)
      (linked a1)) → (h : Here a k) → seen_from a2 h.z ≡ h.rest
  next_seen a2 r2 h =
      let e0 : (child_and_sibling (linked a k)).0 ≡ h.x = ap (λ o. (child_and_sibling o).0) h.found in
      let still : (j : BoxKey) → has same_key j h.rest ≡ true → linked a2 j ≡ linked a j = λ j u.
      let off : same_key k j ≡ false = differs_back same_key same_key-sound same_key-refl h.rest k j h.apart.1 u in
      let out : has same_key j (seen_from a1 (child_and_sibling (linked a k)).0) ≡ false = ap (λ o. has same_key j (seen_from a1 o)) e0
      ∙ (ap (has same_key j) (low_seen h) ∙ apart_back same_key same_key-sound same_key-refl h.below h.rest h.apart.2 j u) in
      r2.links j ∙ (ap (λ b. cond b (option_map (with_item (done work)) (linked a1 j)) (linked a1 j)) out ∙ (r1.links j ∙ ap (λ b. cond b (option_map
      (with_item (done work)) (linked a j)) (linked a j)) off)) in
      let read2 : IsRead a2 h.z = record {
        boxes = h.rest;
        up = h.up;
        prev = Some k;
        last = h.last;
        stands = frame (linked a) (linked a2) h.up (Some k) h.rest h.z h.last None (agree_at same_key same_key-sound same_key-refl (linked a) (linked a2)
            h.rest still) h.later;
        apart = h.apart.4;
        small = omega (arith, h.small, r2.limit, r1.limit);
      } in
      seen_read a2 h.z read2

module _ (a0 a a1 : Arena inner.Node) (first : Option BoxKey) (work : Work) (k : BoxKey) (w : Walked a0 first work a (Some k)) (r1 : Relinks a a1
    (edit same_key k (with_item (done work)) (linked a))) (o : Option BoxKey × Option BoxKey) (e : o ≡ child_and_sibling (linked a k)) where
  pub then_below : Below a0 first work a1 o.0
  then_below = subst (λ o. Below a0 first work a1 o.0) (sym e) (below a0 a a1 first work k w r1)

  pub then_onward : (a2 : Arena inner.Node) → Relinks a1 a2 (on_each (λ j. has same_key j (seen_from a1 o.0)) (done work) (linked a1))
      → (w2 : Walked a0 first work a2 o.1) × (size (seen_from a2 o.1) < size (seen_from a (Some k)))
  then_onward a2 r2 =
      subst (λ p. (w2 : Walked a0 first work a2 p.1) × (size (seen_from a2 p.1) < size (seen_from a (Some k)))) (sym e)
      (onward a0 a a1 first work k w r1 a2 (subst (λ p. Relinks a1 a2 (on_each (λ j. has same_key j (seen_from a1 p.0)) (done work) (linked a1))) e r2))

-- Work on one box leaves what is told from another on, which does not hold it.
pub edited_read : (a a1 : Arena inner.Node) (k : BoxKey) (g : Item → Item) (o : Option BoxKey) → Relinks a a1 (edit same_key k (with_item g) (linked a))
    → IsRead a o → has same_key k (seen_from a o) ≡ false → (r : IsRead a1 o) × (seen_from a1 o ≡ seen_from a o)
edited_read a a1 k g o r1 r n =
    let told : seen_from a o ≡ r.boxes = seen_read a o r in
    let out : has same_key k r.boxes ≡ false = sym (ap (has same_key k) told) ∙ n in
    let mid : BoxKey → Option (Node BoxKey Item) = edit same_key k (with_item g) (linked a) in
    let new : IsRead a1 o = record {
      boxes = r.boxes;
      up = r.up;
      prev = r.prev;
      last = r.last;
      stands = frame mid (linked a1) r.up r.prev r.boxes o r.last None (agree_at same_key same_key-sound same_key-refl mid (linked a1) r.boxes
          (λ j _. r1.links j))
          (frame (linked a) mid r.up r.prev r.boxes o r.last None (agree_edit same_key same_key-sound same_key-refl k (with_item g) (linked a) r.boxes out)
          r.stands);
      apart = r.apart;
      small = omega (arith, r.small, r1.limit);
    } in
    (new, seen_read a1 o new ∙ sym told)

-- Work on a box and then on all below it.
pub worked_below : (a a1 a2 : Arena inner.Node) (k : BoxKey) (g : Item → Item) (f : BoxForest) → has same_key k f ≡ false → Relinks a a1 (edit same_key k
    (with_item g) (linked a)) → Relinks a1 a2 (on_each (λ j. has same_key j f) g (linked a1)) →
    Relinks a a2 (on_each (λ j. same_key j k || has same_key j f) g (linked a))
worked_below a a1 a2 k g f n r1 r2 = record {
  links = λ j. r2.links j ∙ (ap (λ o. cond (has same_key j f) (option_map (with_item g) o) o) (r1.links j) ∙ (ap (λ b. cond (has same_key j f) (option_map
      (with_item g) (cond b (option_map (with_item g) (linked a j)) (linked a j))) (cond b (option_map (with_item g) (linked a j)) (linked a j))) (flip k j)
      ∙ once (option_map (with_item g)) (linked a j) (same_key j k) (has same_key j f) (λ u. subst (λ i. has same_key i f ≡ false) (sym (same_key-sound j k
      u)) n)));
  same_slots = r2.same_slots ∙ r1.same_slots;
  same_live = r2.same_live ∙ r1.same_live;
  limit = r2.limit ∙ r1.limit;
  first = r2.first ∙ r1.first;
} where
  once : {A : Type 0} (g : A → A) (o : A) (b low : Bool) → (b ≡ true → low ≡ false) → cond low (g (cond b (g o) o)) (cond b (g o) o) ≡ cond (b || low) (g o) o
  once g o true low h = rw (h refl) refl
  once g o false low h = refl

-- The loop has found that those boxes fit that are told from the first one on, and no more from this one on.
pub record Fitted (P : Item → Type 0) (rows : List ScrollSums) (a : Arena inner.Node) (first at : Option BoxKey) : Type 0 where
  pub read : IsRead a at
  pub fits : AllItems (λ d. FitsRect d.rect) (laid_by rows (seen_from a at))
  pub has_rows : HasHands rows (seen_from a at)
  pub back : AllItems P (laid_by rows (seen_from a at)) → AllItems P (laid_by rows (seen_from a first))
  pub forth : AllItems P (laid_by rows (seen_from a first)) → AllItems P (laid_by rows (seen_from a at))
  pub smaller : size (seen_from a at) ≤ size (seen_from a first)

-- what a step over one box tells
pub record FittedStep (P : Item → Type 0) (rows : List ScrollSums) (a : Arena inner.Node) (first : Option BoxKey) (k : BoxKey) (x z : Option BoxKey) : Type 0 where
  pub read : IsRead a x
  pub fits : AllItems (λ d. FitsRect d.rect) (laid_by rows (seen_from a x))
  pub has_rows : HasHands rows (seen_from a x)
  pub smaller : size (seen_from a x) < size (seen_from a first)
  pub later : size (seen_from a z) < size (seen_from a (Some k))
  pub here : (n : Node BoxKey Item) → linked a k ≡ Some n → AllItems P (laid_by rows (seen_from a first)) → P (laid_at (hand_at rows k) n.item)
  pub below : AllItems P (laid_by rows (seen_from a first)) → AllItems P (laid_by rows (seen_from a x))
  pub next : ((n : Node BoxKey Item) → linked a k ≡ Some n → P (laid_at (hand_at rows k) n.item)) → AllItems P (laid_by rows (seen_from a x)) → Fitted P rows a first z

pub here_row : (P : Item → Type 0) (rows : List ScrollSums) (a : Arena inner.Node) (first : Option BoxKey) (k : BoxKey) → Fitted P rows a first (Some k) → k.slot < length rows
here_row P rows a first k w =
    let h : Here a k = here a k w.read in
    w.has_rows k (ap (has same_key k) h.seen ∙ from_left (same_key k k) (has same_key k h.below || has same_key k h.rest) (same_key-refl k))

pub here_fits : (P : Item → Type 0) (rows : List ScrollSums) (a : Arena inner.Node) (first : Option BoxKey) (k : BoxKey) → Fitted P rows a first (Some k) → LaidFitsAt (hand_at rows k) (linked a k)
here_fits P rows a first k w =
    let h : Here a k = here a k w.read in
    let all : AllItems (λ d. FitsRect d.rect) (laid_by rows (tree k h.item h.below h.rest)) = subst (λ f. AllItems (λ d. FitsRect d.rect) (laid_by rows f)) h.seen w.fits in
    subst (LaidFitsAt (hand_at rows k)) (sym h.found) all.0

pub fitted_step : (P : Item → Type 0) (rows : List ScrollSums) (a : Arena inner.Node) (first : Option BoxKey) (k : BoxKey) (x z : Option BoxKey) → Fitted P rows a first (Some k)
    → (x, z) ≡ child_and_sibling (linked a k) → FittedStep P rows a first k x z
fitted_step P rows a first k x z w e =
    let h : Here a k = here a k w.read in
    let ex : x ≡ h.x = ap (λ o. o.0) e ∙ ap (λ o. (child_and_sibling o).0) h.found in
    let ez : z ≡ h.z = ap (λ o. o.1) e ∙ ap (λ o. (child_and_sibling o).1) h.found in
    let low : IsRead a h.x = record {
      boxes = h.below;
      up = Some k;
      prev = None;
      last = h.y;
      stands = h.low;
      apart = h.apart.3;
      small = omega
          (arith, h.small);
    } in
    let later : IsRead a h.z = record {
      boxes = h.rest;
      up = h.up;
      prev = Some k;
      last = h.last;
      stands = h.later;
      apart = h.apart.4;
      small = omega
          (arith, h.small);
    } in
    let sl : seen_from a h.x ≡ h.below = seen_read a h.x low in
    let sr : seen_from a h.z ≡ h.rest = seen_read a h.z later in
    let all : AllItems (λ d. FitsRect d.rect) (laid_by rows (tree k h.item h.below h.rest)) = subst (λ f. AllItems (λ d. FitsRect d.rect) (laid_by rows f)) h.seen w.fits in
    let in_all : (j : BoxKey) → (same_key j k || (has same_key j h.below || has same_key j h.rest)) ≡ true → j.slot < length rows = λ j u. w.has_rows j (ap (has same_key j) h.seen ∙ u) in
    let n : size (seen_from a (Some k)) ≡ 1 + (size h.below + size h.rest) = ap size h.seen in
    let m : size (seen_from a h.x) ≡ size h.below = ap size sl in
    let r : size (seen_from a h.z) ≡ size h.rest = ap size sr in
    let parts : AllItems P (laid_by rows (seen_from a first)) → AllItems P (laid_by rows (tree k h.item h.below h.rest)) = λ v. subst (λ f. AllItems P (laid_by rows f)) h.seen (w.forth v) in
    subst (λ o. FittedStep P rows a first k o z) (sym ex) (subst (λ o. FittedStep P rows a first k h.x o) (sym ez) (record {
      read = low;
      fits = subst (λ f. AllItems (λ d. FitsRect d.rect) (laid_by rows f)) (sym sl) all.1;
      has_rows = λ j u. in_all j (from_right (same_key j k) (has same_key j h.below || has same_key j h.rest) (from_left (has same_key j h.below) (has same_key j h.rest)
          (sym (ap (has same_key j) sl) ∙ u)));
      smaller = omega (arith, n, m, w.smaller);
      later = omega (arith, n, r);
      here = λ q u v. let i : node h.item h.up h.prev h.x h.y h.z ≡ q = cc (h.found, u) in subst (λ y. P (laid_at (hand_at rows k) y.item)) i (parts v).0;
      below = λ v. subst (λ f. AllItems P (laid_by rows f)) (sym sl) (parts v).1;
      next = λ p v. record {
        read = later;
        fits = subst (λ f. AllItems (λ d. FitsRect d.rect) (laid_by rows f)) (sym sr) all.2;
        has_rows = λ j u. in_all j (from_right (same_key j k) (has same_key j h.below || has same_key j h.rest) (from_right (has same_key j h.below) (has same_key j h.rest)
            (sym (ap (has same_key j) sr) ∙ u)));
        back = λ t. w.back (subst (λ f. AllItems P (laid_by rows f)) (sym h.seen) (
          p (node h.item h.up h.prev h.x h.y h.z) h.found,
          subst (λ f. AllItems P (laid_by rows f)) sl v,
          subst (λ f. AllItems P (laid_by rows f)) sr t,
        ));
        forth = λ t. subst (λ f. AllItems P (laid_by rows f)) (sym sr) (parts t).2;
        smaller = omega (arith, n, r, w.smaller);
      };
    }))

-- At a node, what is said of it and of its item.
pub at_node : (h : ScrollSums) (a : Arena inner.Node) (k : BoxKey) (dx dy : ℤ) → ShiftFitsAt h dx dy (linked a k) → (n : Node BoxKey Item) → linked a k ≡ Some n
    → FitsRect (shifted dx dy (laid_at h n.item).rect)
at_node h a k dx dy u n e = subst (λ o. ShiftFitsAt h dx dy o) e u

pub none_left : (P : Item → Type 0) (rows : List ScrollSums) (a : Arena inner.Node) (first : Option BoxKey) → Fitted P rows a first None → AllItems P (laid_by rows (seen_from a first))
none_left P rows a first w = w.back (subst (λ f. AllItems P (laid_by rows f)) (sym (nothing a.limit)) tt) where
  nothing : (n : ℕ) → read n (linked a) None ≡ empty
  nothing zero = refl
  nothing (suc n) = refl

pub here_said : (h : ScrollSums) (a : Arena inner.Node) (k : BoxKey) (dx dy : ℤ) → ((n : Node BoxKey Item) → linked a k ≡ Some n → FitsRect (shifted dx dy (laid_at h n.item).rect))
    → ShiftFitsAt h dx dy (linked a k)
here_said h a k dx dy u = at (linked a k) refl where
  at : (o : Option (Node BoxKey Item)) → linked a k ≡ o → ShiftFitsAt h dx dy o
  at None e = tt
  at (Some n) e = u n e

-- The loop has measured those boxes that are told from the first one on, and no more from this one on.
pub record RowParts (a : Arena inner.Node) (first at : Option BoxKey) (most : ℕ) : Type 0 where
  pub read : IsRead a at
  pub sum : max most (height (seen_from a at)) ≡ height (seen_from a first)
  pub smaller : size (seen_from a at) ≤ size (seen_from a first)

pub record MeasuredStep (a : Arena inner.Node) (first : Option BoxKey) (k : BoxKey) (x z : Option BoxKey) (most : ℕ) : Type 0 where
  pub read : IsRead a x
  pub smaller : size (seen_from a x) < size (seen_from a first)
  pub later : size (seen_from a z) < size (seen_from a (Some k))
  pub next : (low : ℕ) → low ≡ height (seen_from a x) → RowParts a first z (max most (low + 1))

pub measured_step : (a : Arena inner.Node) (first : Option BoxKey) (k : BoxKey) (x z : Option BoxKey) (most : ℕ) → RowParts a first (Some k) most → (x, z)
    ≡ child_and_sibling (linked a k) → MeasuredStep a first k x z most
measured_step a first k x z most w e =
    let h : Here a k = here a k w.read in
    let ex : x ≡ h.x = ap (λ o. o.0) e ∙ ap (λ o. (child_and_sibling o).0) h.found in
    let ez : z ≡ h.z = ap (λ o. o.1) e ∙ ap (λ o. (child_and_sibling o).1) h.found in
    let low : IsRead a h.x = record {
      boxes = h.below;
      up = Some k;
      prev = None;
      last = h.y;
      stands = h.low;
      apart = h.apart.3;
      small = omega
          (arith, h.small);
    } in
    let later : IsRead a h.z = record {
      boxes = h.rest;
      up = h.up;
      prev = Some k;
      last = h.last;
      stands = h.later;
      apart = h.apart.4;
      small = omega
          (arith, h.small);
    } in
    let sl : seen_from a h.x ≡ h.below = seen_read a h.x low in
    let sr : seen_from a h.z ≡ h.rest = seen_read a h.z later in
    let n : size (seen_from a (Some k)) ≡ 1 + (size h.below + size h.rest) = ap size h.seen in
    let m : size (seen_from a h.x) ≡ size h.below = ap size sl in
    let r : size (seen_from a h.z) ≡ size h.rest = ap size sr in
    let tall : height (seen_from a (Some k)) ≡ max (1 + height h.below) (height h.rest) = ap height h.seen in
    let tl : height (seen_from a h.x) ≡ height h.below = ap height sl in
    let tr : height (seen_from a h.z) ≡ height h.rest = ap height sr in
    subst (λ o. MeasuredStep a first k o z most) (sym ex) (subst (λ o. MeasuredStep a first k h.x o most) (sym ez) (record {
      read = low;
      smaller = omega (arith, n, m, w.smaller);
      later = omega (arith, n, r);
      next = λ l v. record { read = later; sum = omega (arith, w.sum, tall, tl, tr, v); smaller = omega (arith, n, r, w.smaller) };
    }))

pub nothing_left : (a : Arena inner.Node) (first : Option BoxKey) (most : ℕ) → RowParts a first None most → most ≡ height (seen_from a first)
nothing_left a first most w =
    let z : height (seen_from a None) ≡ 0 = ap height (nothing a.limit) in
    omega (arith, w.sum, z) where
      nothing : (n : ℕ) → read n (linked a) None ≡ empty
      nothing zero = refl
      nothing (suc n) = refl

height_size : (f : BoxForest) → height f ≤ size f
height_size empty = omega arith
height_size (tree k d below rest) = omega (arith, height_size below, height_size rest)

pub height_small : (a : Arena inner.Node) (o : Option BoxKey) → IsRead a o → height (seen_from a o) ≤ a.limit
height_small a o r = omega (arith, height_size (seen_from a o), ap size (seen_read a o r), r.small)

pub max_is : (a b : ℕ) → ord_max nat_cmp a b ≡ max a b
max_is a b = elim (cases (ltb b a)) [
  | inl e ↦ let l : b < a = ltb-true b a e in rw e (omega (arith, l))
  | inr e ↦ let l : a ≤ b = ltb-false b a e in elim (cases (b == a)) [ inl f ↦ rw (e, f) (omega (arith, l)) | inr f ↦ rw (e, f) (omega (arith, l)) ]
]
