-- Boxes that are drawn anew, one sibling after the other, and to which it is handed down.
use Rattle.std.proofs.Common.{◌≡◌, refl, ap, ◌∙◌, sym, subst, ℕ, ◌+◌, ◌<◌, ◌≤◌, Bool, true, false, ◌||◌, ◌&&◌, not, cond, List, length, arith, inl, inr}
use Rattle.std.specs.Prelude.{◌==◌, Option, Some, None, is_some, option_map}
use Rattle.rd_geom.specs.Plane.{Rectangle}
use Rattle.rd_keys.specs.Keys.{same_key}
use Rattle.rd_keys.specs.Arena.{Arena}
use Rattle.rd_keys.proofs.Keys.{same_key-sound, same_key-refl}
use Rattle.rd_tree.specs.declared.node.Node as inner
use Rattle.rd_tree.specs.declared.handed.ScrollSums.{ScrollSums}
use Rattle.rd_tree.specs.declared.scroll.Scroll.{Scroll}
use Rattle.rd_tree.specs.Forest.{empty, tree, size, has}
use Rattle.rd_tree.specs.Document.{BoxKey, Item, BoxForest}
use Rattle.rd_tree.specs.Changes.{with_rect}
use Rattle.rd_tree.specs.Internal.Links.{Node, with_item, edit, child_and_sibling}
use Rattle.rd_tree.specs.Internal.Linked.{linked, Relinks, IsRead, seen_from}
use Rattle.rd_tree.specs.Internal.Handing.{IsWithin, offset_in}
use Rattle.rd_tree.specs.Internal.Hands.{hand_at, HasHands, PutsHand, passed, passed_at, ScrollFitsAt, handed_to, CanHand, HandsDown}
use Rattle.rd_tree.specs.Internal.Laid.{IsHandedDown}
use Rattle.rd_tree.specs.Internal.Redraws.{redrawn_if, CanRedraw, RedrawsAt, AllRedraw, on_each_by, Redraws, drawn_far, rect_far}
use Rattle.rd_tree.proofs.Linking.Children.{stands_children}
use Rattle.rd_tree.proofs.Linking.Standing.{cases, from_left, from_right, frame, agree_edit, agree_at, differs, differs_back, apart_back}
use Rattle.rd_tree.proofs.Nodes.Each.{is_some-each}
use Rattle.rd_tree.proofs.Nodes.Works.{Here, here, seen_read, flip}
use Rattle.rd_tree.proofs.Tables.Above.{one_live}
use Rattle.rd_tree.proofs.Tables.Siblings.{nothing_seen}
use Rattle.rd_tree.proofs.Offsets.{entered_within, far_back, within_more}

-- One box.
one_far : (old new : Scroll) (r : Rectangle) (o : Option (Node BoxKey Item)) → r ≡ rect_far old new o → option_map (with_item (with_rect r)) o ≡ option_map (with_item (drawn_far old new)) o
one_far old new r None e = refl
one_far old new r (Some n) e = ap (λ q. option_map (with_item (with_rect q)) (Some n)) e

pub put_far : (a b : Arena inner.Node) (k : BoxKey) (old new : Scroll) (r : Rectangle) → r ≡ rect_far old new (linked a k)
    → Relinks a b (edit same_key k (with_item (with_rect r)) (linked a)) → Relinks a b (edit same_key k (with_item (drawn_far old new)) (linked a))
put_far a b k old new r e q = record {
  links = λ j. q.links j ∙ by j (same_key k j) refl;
  same_slots = q.same_slots;
  same_live = q.same_live;
  limit = q.limit;
  first = q.first;
} where
  by : (j : BoxKey) (c : Bool) → same_key k j ≡ c → cond c (option_map (with_item (with_rect r)) (linked a j)) (linked a j)
      ≡ cond c (option_map (with_item (drawn_far old new)) (linked a j)) (linked a j)
  by j true s = one_far old new r (linked a j) (subst (λ x. r ≡ rect_far old new (linked a x)) (same_key-sound k j s) e)
  by j false s = refl

-- A row is written that is no other live key's.
hand_put : (a : Arena inner.Node) (old new : List ScrollSums) (k : BoxKey) (h : ScrollSums) → PutsHand old new k h → is_some (linked a k) ≡ true
    → (j : BoxKey) → is_some (linked a j) ≡ true → hand_at new j ≡ cond (same_key k j) h (hand_at old j)
hand_put a old new k h p v j u =
    elim (cases (j.slot == k.slot)) [
      | inl e ↦
          let s : same_key k j ≡ true = one_live a j k u v (equal j.slot k.slot e) in
          p j ∙ rw (e, s) refl
      | inr e ↦ let s : same_key k j ≡ false = off k.slot j.slot k.generation j.generation e in p j ∙ rw (e, s) refl
    ] where
      equal : (s t : ℕ) → (s == t) ≡ true → s ≡ t
      equal s t e = grind arith

      off : (s t g h : ℕ) → (t == s) ≡ false → ((s == t) && (g == h)) ≡ false
      off s t g h e = grind arith

-- A box that is told is live.
live_in : (a : Arena inner.Node) (o : Option BoxKey) (r : IsRead a o) (j : BoxKey) → has same_key j (seen_from a o) ≡ true → is_some (linked a j) ≡ true
live_in a o r j u = ap is_some (stands_children same_key same_key-sound same_key-refl (linked a) r.up r.prev r.boxes o r.last None j r.apart r.stands
    (sym (ap (has same_key j) (seen_read a o r)) ∙ u)).1

-- What these boxes need so that they can be drawn anew.
pub record Ready (rows : List ScrollSums) (h : ScrollSums) (f : BoxForest) : Type 0 where
  pub can : CanHand h f
  pub has_rows : HasHands rows f
  pub fits : AllRedraw rows h f

redraws_same : (rows now : List ScrollSums) (h : ScrollSums) (f : BoxForest) → ((j : BoxKey) → has same_key j f ≡ true → hand_at rows j ≡ hand_at now j) → AllRedraw rows h f → AllRedraw now h f
redraws_same rows now h empty q a = tt
redraws_same rows now h (tree k d low rest) q a = (
  subst (λ o. CanRedraw o h d) (q k (from_left (same_key k k) (has same_key k low || has same_key k rest) (same_key-refl k))) a.0,
  redraws_same rows now (passed h d) low (λ j u. q j (from_right (same_key j k) (has same_key j low || has same_key j rest) (from_left (has same_key j low) (has same_key j rest) u))) a.1,
  redraws_same rows now h rest (λ j u. q j (from_right (same_key j k) (has same_key j low || has same_key j rest) (from_right (has same_key j low) (has same_key j rest) u))) a.2,
)

-- They need no more where other rows are others'.
ready_same : (rows now : List ScrollSums) (h : ScrollSums) (f : BoxForest) → ((j : BoxKey) → has same_key j f ≡ true → hand_at rows j ≡ hand_at now j) → length now ≡ length rows
    → Ready rows h f → Ready now h f
ready_same rows now h f q l r = record {
  can = r.can;
  has_rows = λ j u. let n = r.has_rows j u in omega (arith, n, l);
  fits = redraws_same rows now h f q r.fits;
}

-- The loop has drawn those boxes anew that are told from the first one on, and no more from this one on, and has handed it
-- to them.
pub record Redrawing (asked : Bool) (a0 : Arena inner.Node) (rows : List ScrollSums) (h : ScrollSums) (first : Option BoxKey) (a : Arena inner.Node) (now : List ScrollSums) (at : Option BoxKey) : Type 0 where
  pub links : Relinks a0 a (on_each_by (λ j. has same_key j (seen_from a0 first) && not (has same_key j (seen_from a at))) (λ j. redrawn_if asked (hand_at rows j)
      (handed_to j h (seen_from a0 first))) (linked a0))
  pub read : IsRead a at
  pub ready : Ready rows h (seen_from a at)
  pub within : (j : BoxKey) → has same_key j (seen_from a at) ≡ true → has same_key j (seen_from a0 first) ≡ true
  pub later : (j : BoxKey) → has same_key j (seen_from a at) ≡ true → handed_to j h (seen_from a0 first) ≡ handed_to j h (seen_from a at)
  pub smaller : size (seen_from a at) ≤ size (seen_from a0 first)
  pub hands : (j : BoxKey) → is_some (linked a0 j) ≡ true → hand_at now j ≡ cond (has same_key j (seen_from a0 first) && not (has same_key j (seen_from a at)))
      (handed_to j h (seen_from a0 first)) (hand_at rows j)
  pub same_length : length now ≡ length rows

nothing_done : {A : Type 0} (b : Bool) (x y : A) → y ≡ cond (b && not b) x y
nothing_done true x y = refl
nothing_done false x y = refl

all_done : (b : Bool) → (b && not false) ≡ b
all_done true = refl
all_done false = refl

pub redrawing_begun : (asked : Bool) (a : Arena inner.Node) (rows : List ScrollSums) (h : ScrollSums) (first : Option BoxKey) → IsRead a first → CanHand h (seen_from a first)
    → HasHands rows (seen_from a first) → AllRedraw rows h (seen_from a first) → Redrawing asked a rows h first a rows first
redrawing_begun asked a rows h first r c q f = record {
  links = record {
    links = λ j. nothing_done (has same_key j (seen_from a first)) (option_map (with_item (redrawn_if asked (hand_at rows j) (handed_to j h (seen_from a first)))) (linked a j)) (linked a j);
    same_slots = refl;
    same_live = refl;
    limit = refl;
    first = refl;
  };
  read = r;
  ready = record { can = c; has_rows = q; fits = f };
  within = λ j e. e;
  later = λ j e. refl;
  smaller = omega arith;
  hands = λ j u. nothing_done (has same_key j (seen_from a first)) (handed_to j h (seen_from a first)) (hand_at rows j);
  same_length = refl;
}

pub redrawing_done : (asked : Bool) (a0 a : Arena inner.Node) (rows now : List ScrollSums) (h : ScrollSums) (first : Option BoxKey) → Redrawing asked a0 rows h first a now None
    → Redraws asked a0 a rows h (seen_from a0 first)
redrawing_done asked a0 a rows now h first w = record {
  links = λ j. w.links.links j ∙ ap (λ b. cond b (option_map (with_item (redrawn_if asked (hand_at rows j) (handed_to j h (seen_from a0 first)))) (linked a0 j))
      (linked a0 j)) (ap (λ f. has same_key j (seen_from a0 first) && not (has same_key j f)) (nothing_seen a) ∙ all_done (has same_key j (seen_from a0 first)));
  same_slots = w.links.same_slots;
  same_live = w.links.same_live;
  limit = w.links.limit;
  first = w.links.first;
}

pub handing_done : (asked : Bool) (a0 a : Arena inner.Node) (rows now : List ScrollSums) (h : ScrollSums) (first : Option BoxKey) → Redrawing asked a0 rows h first a now None
    → HandsDown a0 rows now h (seen_from a0 first)
handing_done asked a0 a rows now h first w j u =
    w.hands j u ∙ ap (λ b. cond b (handed_to j h (seen_from a0 first)) (hand_at rows j))
    (ap (λ f. has same_key j (seen_from a0 first) && not (has same_key j f)) (nothing_seen a) ∙ all_done (has same_key j (seen_from a0 first)))

-- Of no boxes nothing is to be done.
pub none_redrawn : (asked : Bool) (a : Arena inner.Node) (rows : List ScrollSums) (h : ScrollSums) → Redraws asked a a rows h (seen_from a None)
none_redrawn asked a rows h = record {
  links = λ j. sym (ap (λ f. cond (has same_key j f) (option_map (with_item (redrawn_if asked (hand_at rows j) (handed_to j h f))) (linked a j)) (linked a j)) (nothing_seen a));
  same_slots = refl;
  same_live = refl;
  limit = refl;
  first = refl;
}

pub none_handed : (a : Arena inner.Node) (rows : List ScrollSums) (h : ScrollSums) → HandsDown a rows rows h (seen_from a None)
none_handed a rows h j u = sym (ap (λ f. cond (has same_key j f) (handed_to j h f) (hand_at rows j)) (nothing_seen a))

-- Boxes that have what is handed to them stay.
pub still_redrawn : (a : Arena inner.Node) (rows : List ScrollSums) (h : ScrollSums) (f : BoxForest) → IsHandedDown rows h f → Redraws false a a rows h f
still_redrawn a rows h f q = record {
  links = λ j. sym (by j (has same_key j f) (q j) (linked a j));
  same_slots = refl;
  same_live = refl;
  limit = refl;
  first = refl;
} where
  by : (j : BoxKey) (b : Bool) → (b ≡ true → hand_at rows j ≡ handed_to j h f) → (o : Option (Node BoxKey Item))
      → cond b (option_map (with_item (redrawn_if false (hand_at rows j) (handed_to j h f))) o) o ≡ o
  by j true u None = refl
  by j true u (Some n) =
      ap (λ z. option_map (with_item (redrawn_if false (hand_at rows j) z)) (Some n)) (sym (u refl))
      ∙ ap (λ d. option_map (with_item (λ _. d)) (Some n)) (far_back (offset_in (hand_at rows j) n.item.style.position) n.item)
  by j false u o = refl

pub still_handed : (a : Arena inner.Node) (rows : List ScrollSums) (h : ScrollSums) (f : BoxForest) → IsHandedDown rows h f → HandsDown a rows rows h f
still_handed a rows h f q j u = by (has same_key j f) (q j) where
  by : (b : Bool) → (b ≡ true → hand_at rows j ≡ handed_to j h f) → hand_at rows j ≡ cond b (handed_to j h f) (hand_at rows j)
  by true v = v refl
  by false v = refl

-- What is known before a box is drawn anew.
pub record Before (a : Arena inner.Node) (rows : List ScrollSums) (h : ScrollSums) (k : BoxKey) : Type 0 where
  pub here : k.slot < length rows
  pub few : IsWithin 256 h
  pub scroll : ScrollFitsAt (linked a k)
  pub can : RedrawsAt (hand_at rows k) h (linked a k)

-- and once it is, before those below it are.
pub record BelowRedraw (a0 a1 : Arena inner.Node) (rows : List ScrollSums) (h : ScrollSums) (first x : Option BoxKey) : Type 0 where
  pub read : IsRead a1 x
  pub ready : Ready rows h (seen_from a1 x)
  pub smaller : size (seen_from a1 x) < size (seen_from a0 first)

module _ (asked : Bool) (a0 a : Arena inner.Node) (rows now : List ScrollSums) (h : ScrollSums) (first : Option BoxKey) (k : BoxKey) (w : Redrawing asked a0 rows h first a now (Some k)) where
  pub i : Here a k
  i = here a k w.read

  ready_here : Ready rows h (tree k i.item i.below i.rest)
  ready_here = subst (Ready rows h) i.seen w.ready

  passed_is : passed_at h (linked a k) ≡ passed h i.item
  passed_is = ap (passed_at h) i.found

  ready_low : Ready rows (passed h i.item) i.below
  ready_low =
      let r : Ready rows h (tree k i.item i.below i.rest) = ready_here in
      let c : CanHand h (tree k i.item i.below i.rest) = r.can in
      let s = c.shallow in
      record {
        can = record {
          levels = 1 + c.levels;
          within = entered_within c.levels false i.item.style i.item.scroll h c.scrolls.0 c.within;
          shallow = omega (arith, s);
          scrolls = c.scrolls.1;
        };
        has_rows = λ j u. r.has_rows j (from_right (same_key j k) (has same_key j i.below || has same_key j i.rest) (from_left (has same_key j i.below)
            (has same_key j i.rest) u));
        fits = r.fits.1;
      }

  ready_next : Ready rows h i.rest
  ready_next =
      let r : Ready rows h (tree k i.item i.below i.rest) = ready_here in
      let c : CanHand h (tree k i.item i.below i.rest) = r.can in
      let s = c.shallow in
      record {
        can = record { levels = c.levels; within = c.within; shallow = omega (arith, s); scrolls = c.scrolls.2 };
        has_rows = λ j u. r.has_rows j (from_right (same_key j k) (has same_key j i.below || has same_key j i.rest) (from_right (has same_key j i.below)
            (has same_key j i.rest) u));
        fits = r.fits.2;
      }

  -- no box dies
  lives : (j : BoxKey) → is_some (linked a j) ≡ is_some (linked a0 j)
  lives j = ap is_some (w.links.links j) ∙ is_some-each (has same_key j (seen_from a0 first) && not (has same_key j (seen_from a (Some k)))) (with_item (redrawn_if asked (hand_at rows j)
      (handed_to j h (seen_from a0 first)))) (linked a0 j)

  here_live : is_some (linked a k) ≡ true
  here_live = ap is_some i.found

  -- what was handed to the boxes that are left stands yet
  same_left : (j : BoxKey) → has same_key j (seen_from a (Some k)) ≡ true → hand_at now j ≡ hand_at rows j
  same_left j u =
      w.hands j (sym (lives j) ∙ live_in a (Some k) w.read j u)
      ∙ (ap (λ b. cond (has same_key j (seen_from a0 first) && not b) (handed_to j h (seen_from a0 first)) (hand_at rows j)) u ∙ off (has same_key j (seen_from a0 first))) where
        off : (b : Bool) → cond (b && not true) (handed_to j h (seen_from a0 first)) (hand_at rows j) ≡ hand_at rows j
        off true = refl
        off false = refl

  same_here : hand_at now k ≡ hand_at rows k
  same_here = same_left k (ap (has same_key k) i.seen ∙ from_left (same_key k k) (has same_key k i.below || has same_key k i.rest) (same_key-refl k))

  pub before : Before a now h k
  before =
      let r : Ready rows h (tree k i.item i.below i.rest) = ready_here in
      let c : CanHand h (tree k i.item i.below i.rest) = r.can in
      let s = c.shallow in
      record {
        here = let n = r.has_rows k (from_left (same_key k k) (has same_key k i.below || has same_key k i.rest) (same_key-refl k)) in omega (arith, n, w.same_length);
        few = within_more c.levels h (omega (arith, s)) c.within;
        scroll = subst ScrollFitsAt (sym i.found) c.scrolls.0;
        can = subst (λ o. RedrawsAt o h (linked a k)) (sym same_here) (subst (RedrawsAt (hand_at rows k) h) (sym i.found) r.fits.0);
      }

  module _ (put : List ScrollSums) (p : PutsHand now put k h) (l1 : length put ≡ length now) (a1 : Arena inner.Node)
      (r0 : Relinks a a1 (edit same_key k (with_item (redrawn_if asked (hand_at now k) h)) (linked a))) (x z : Option BoxKey) (e : (x, z) ≡ child_and_sibling (linked a k)) where
    r1 : Relinks a a1 (edit same_key k (with_item (redrawn_if asked (hand_at rows k) h)) (linked a))
    r1 = subst (λ o. Relinks a a1 (edit same_key k (with_item (redrawn_if asked o h)) (linked a))) same_here r0

    low_is : x ≡ i.x
    low_is = ap (λ o. o.0) e ∙ ap (λ o. (child_and_sibling o).0) i.found

    next_is : z ≡ i.z
    next_is = ap (λ o. o.1) e ∙ ap (λ o. (child_and_sibling o).1) i.found

    low_read : IsRead a1 i.x
    low_read =
        let mid : BoxKey → Option (Node BoxKey Item) = edit same_key k (with_item (redrawn_if asked (hand_at rows k) h)) (linked a) in
        record {
          boxes = i.below;
          up = Some k;
          prev = None;
          last = i.y;
          stands = frame mid (linked a1) (Some k) None i.below i.x i.y None (agree_at same_key same_key-sound same_key-refl mid (linked a1) i.below
              (λ j _. r1.links j))
              (frame (linked a) mid (Some k) None i.below i.x i.y None (agree_edit same_key same_key-sound same_key-refl k (with_item (redrawn_if asked (hand_at rows k)
              h)) (linked a) i.below i.apart.0) i.low);
          apart = i.apart.3;
          small = omega (arith, i.small, r1.limit);
        }

    low_seen : seen_from a1 x ≡ i.below
    unfolding low_read
    low_seen = ap (seen_from a1) low_is ∙ seen_read a1 i.x low_read

    -- what was handed to the boxes below, too
    same_low : (j : BoxKey) → has same_key j i.below ≡ true → hand_at rows j ≡ hand_at put j
    same_low j u =
        let there : has same_key j (seen_from a (Some k)) ≡ true =
        ap (has same_key j) i.seen ∙ from_right (same_key j k) (has same_key j i.below || has same_key j i.rest) (from_left (has same_key j i.below) (has same_key j i.rest) u) in
        let off : same_key k j ≡ false = differs_back same_key same_key-sound same_key-refl i.below k j i.apart.0 u in
        sym (hand_put a now put k h p here_live j (live_in a (Some k) w.read j there) ∙ (rw off (same_left j there)))

    pub below_redraw : BelowRedraw a0 a1 put (passed_at h (linked a k)) first x
    below_redraw =
        let n : size (seen_from a (Some k)) ≡ 1 + (size i.below + size i.rest) = ap size i.seen in
        let m : size (seen_from a1 x) ≡ size i.below = ap size low_seen in
        record {
          read = subst (λ o. IsRead a1 o) (sym low_is) low_read;
          ready = subst (λ q. Ready put q (seen_from a1 x)) (sym passed_is) (subst (Ready put (passed h i.item)) (sym low_seen)
              (ready_same rows put (passed h i.item) i.below same_low (l1 ∙ w.same_length) ready_low));
          smaller = omega (arith, n, m, w.smaller);
        }

    joined : {A : Type 0} (new old : A) (gl go : A → A) (f kj jk low rest : Bool) → kj ≡ jk → ((jk || (low || rest)) ≡ true → f ≡ true)
        → (kj ≡ true → low ≡ false) → (kj ≡ true → rest ≡ false) → (low ≡ true → rest ≡ false) → (low ≡ true → gl old ≡ new) → (kj ≡ true → go old ≡ new) →
        cond low (gl (cond kj (go (cond (f && not (jk || (low || rest))) new old)) (cond (f && not (jk || (low || rest))) new old))) (cond kj (go (cond
        (f && not (jk || (low || rest))) new old)) (cond (f && not (jk || (low || rest))) new old)) ≡ cond (f && not rest) new old
    joined new old gl go f true true low rest s v p q r l o = rw (p refl, q refl, v refl) (o refl)
    joined new old gl go f true false low rest s v p q r l o = cc (s)
    joined new old gl go f false true low rest s v p q r l o = cc (s)
    joined new old gl go f false false true rest s v p q r l o = rw (r refl, v refl) (l refl)
    joined new old gl go f false false false true s v p q r l o = refl
    joined new old gl go f false false false false s v p q r l o = refl

    near_later : (j : BoxKey) → has same_key j i.rest ≡ true → handed_to j h (tree k i.item i.below i.rest) ≡ handed_to j h i.rest
    near_later j u =
        let n : same_key j k ≡ false = differs same_key same_key-sound same_key-refl i.rest j k u i.apart.1 in
        let o : has same_key j i.below ≡ false = apart_back same_key same_key-sound same_key-refl i.below i.rest i.apart.2 j u in
        rw (n, o) refl

    near_low : (j : BoxKey) → has same_key j i.below ≡ true → handed_to j h (tree k i.item i.below i.rest) ≡ handed_to j (passed h i.item) i.below
    near_low j u =
        let n : same_key j k ≡ false = differs same_key same_key-sound same_key-refl i.below j k u i.apart.0 in
        rw (n, u) refl

    near_here : (j : BoxKey) → same_key j k ≡ true → handed_to j h (tree k i.item i.below i.rest) ≡ h
    near_here j u = rw u refl

    near_first : (j : BoxKey) → (same_key j k || (has same_key j i.below || has same_key j i.rest)) ≡ true → handed_to j h (seen_from a0 first)
        ≡ handed_to j h (tree k i.item i.below i.rest)
    near_first j u = w.later j (ap (has same_key j) i.seen ∙ u) ∙ ap (handed_to j h) i.seen

    choose : {A : Type 0} (b : Bool) (f : ScrollSums → A) (y : A) (u v : ScrollSums) → (b ≡ true → u ≡ v) → cond b (f v) y ≡ cond b (f u) y
    choose true f y u v q = ap f (sym (q refl))
    choose false f y u v q = refl

    pub redrawing_next : (a2 : Arena inner.Node) (last : List ScrollSums) → Redraws asked a1 a2 put (passed_at h (linked a k)) (seen_from a1 x)
        → HandsDown a1 put last (passed_at h (linked a k)) (seen_from a1 x) → length last ≡ length put →
        (w2 : Redrawing asked a0 rows h first a2 last z) × (size (seen_from a2 z) < size (seen_from a (Some k)))
    redrawing_next a2 last r2 g2 l2 =
        let F : BoxForest = seen_from a0 first in
        let g : BoxKey → Item → Item = λ j. redrawn_if asked (hand_at rows j) (handed_to j h F) in
        let gl : BoxKey → Item → Item = λ j. redrawn_if asked (hand_at rows j) (handed_to j (passed h i.item) i.below) in
        let two : (j : BoxKey) → linked a2 j ≡ cond (has same_key j i.below) (option_map (with_item (gl j)) (cond (same_key k j) (option_map (with_item
        (redrawn_if asked (hand_at rows k) h)) (linked a j)) (linked a j))) (cond (same_key k j) (option_map (with_item (redrawn_if asked (hand_at rows k) h)) (linked a j))
        (linked a j)) =
        λ j. r2.links j ∙ (ap (λ f. cond (has same_key j f) (option_map (with_item (redrawn_if asked (hand_at put j) (handed_to j (passed_at h (linked a k)) f)))
        (linked a1 j)) (linked a1 j)) low_seen
        ∙ (ap (λ q. cond (has same_key j i.below) (option_map (with_item (redrawn_if asked (hand_at put j) (handed_to j q i.below))) (linked a1 j)) (linked a1 j)) passed_is
        ∙ (choose (has same_key j i.below) (λ q. option_map (with_item (redrawn_if asked q (handed_to j (passed h i.item) i.below))) (linked a1 j)) (linked a1 j) (hand_at rows j) (hand_at put j) (same_low j)
        ∙ ap (λ o. cond (has same_key j i.below) (option_map (with_item (gl j)) o) o) (r1.links j)))) in
        let still : (j : BoxKey) → has same_key j i.rest ≡ true → linked a2 j ≡ linked a j = λ j u.
        let off : same_key k j ≡ false = differs_back same_key same_key-sound same_key-refl i.rest k j i.apart.1 u in
        let out : has same_key j i.below ≡ false = apart_back same_key same_key-sound same_key-refl i.below i.rest i.apart.2 j u in
        two j ∙ rw (out, off) refl in
        let limit : a2.limit ≡ a.limit = r2.limit ∙ r1.limit in
        let read2 : IsRead a2 i.z = record {
          boxes = i.rest;
          up = i.up;
          prev = Some k;
          last = i.last;
          stands = frame (linked a) (linked a2) i.up (Some k) i.rest i.z i.last None (agree_at same_key same_key-sound same_key-refl (linked a) (linked a2)
              i.rest still) i.later;
          apart = i.apart.4;
          small = omega (arith, i.small, limit);
        } in
        let seen2 : seen_from a2 z ≡ i.rest = ap (seen_from a2) next_is ∙ seen_read a2 i.z read2 in
        let n : size (seen_from a (Some k)) ≡ 1 + (size i.below + size i.rest) = ap size i.seen in
        let m : size (seen_from a2 z) ≡ size i.rest = ap size seen2 in
        let in0 : (j : BoxKey) → (same_key j k || (has same_key j i.below || has same_key j i.rest)) ≡ true → has same_key j F ≡ true =
        λ j u. w.within j (ap (has same_key j) i.seen ∙ u) in
        let was : (j : BoxKey) → linked a j ≡ cond (has same_key j F && not (same_key j k || (has same_key j i.below || has same_key j i.rest)))
        (option_map (with_item (g j)) (linked a0 j)) (linked a0 j) =
        λ j. w.links.links j ∙ ap (λ f. cond (has same_key j F && not (has same_key j f)) (option_map (with_item (g j)) (linked a0 j)) (linked a0 j)) i.seen in
        let are : (j : BoxKey) → linked a2 j ≡ cond (has same_key j F && not (has same_key j i.rest)) (option_map (with_item (g j)) (linked a0 j)) (linked a0 j) = λ j.
        two j ∙ (ap (λ o. cond (has same_key j i.below) (option_map (with_item (gl j)) (cond (same_key k j) (option_map (with_item (redrawn_if asked (hand_at rows k) h)) o)
        o)) (cond (same_key k j) (option_map (with_item (redrawn_if asked (hand_at rows k) h)) o) o)) (was j)
        ∙ joined (option_map (with_item (g j)) (linked a0 j)) (linked a0 j) (option_map (with_item (gl j))) (option_map (with_item (redrawn_if asked (hand_at rows k) h)))
        (has same_key j F) (same_key k j) (same_key j k) (has same_key j i.below) (has same_key j i.rest)
        (flip k j) (in0 j) (λ u. rw (sym (same_key-sound k j u)) i.apart.0) (λ u. rw (sym (same_key-sound k j u)) i.apart.1) (i.apart.2 j)
        (λ u. ap (λ q. option_map (with_item (redrawn_if asked (hand_at rows j) q)) (linked a0 j)) (sym (near_low j u) ∙ sym (near_first j (from_right (same_key j k)
        (has same_key j i.below || has same_key j i.rest) (from_left (has same_key j i.below) (has same_key j i.rest) u)))))
        (λ u. let v : same_key j k ≡ true = sym (flip k j) ∙ u in
        ap (λ q. option_map (with_item (redrawn_if asked (hand_at rows q) h)) (linked a0 j)) (same_key-sound k j u)
        ∙ ap (λ q. option_map (with_item (redrawn_if asked (hand_at rows j) q)) (linked a0 j)) (sym (near_here j v) ∙ sym (near_first j (from_left (same_key j k)
        (has same_key j i.below || has same_key j i.rest) v))))) in (
          record {
            links = record {
              links = λ j. are j ∙ ap (λ f. cond (has same_key j F && not (has same_key j f)) (option_map (with_item (g j)) (linked a0 j)) (linked a0 j)) (sym seen2);
              same_slots = r2.same_slots ∙ (r1.same_slots ∙ w.links.same_slots);
              same_live = r2.same_live ∙ (r1.same_live ∙ w.links.same_live);
              limit = limit ∙ w.links.limit;
              first = r2.first ∙ r1.first ∙ w.links.first;
            };
            read = subst (λ o. IsRead a2 o) (sym next_is) read2;
            ready = subst (Ready rows h) (sym seen2) ready_next;
            within = λ j u. in0 j (from_right (same_key j k) (has same_key j i.below || has same_key j i.rest) (from_right (has same_key j i.below)
                (has same_key j i.rest) (sym (ap (has same_key j) seen2) ∙ u)));
            later = λ j u.
                let v : has same_key j i.rest ≡ true = sym (ap (has same_key j) seen2) ∙ u in
                near_first j (from_right (same_key j k) (has same_key j i.below || has same_key j i.rest) (from_right (has same_key j i.below)
                (has same_key j i.rest) v)) ∙ (near_later j v ∙ ap (handed_to j h) (sym seen2));
            smaller = omega (arith, m, n, w.smaller);
            hands = λ j u.
                let v : is_some (linked a j) ≡ true = lives j ∙ u in
                let v1 : is_some (linked a1 j) ≡ true = ap is_some (r1.links j) ∙ (is_some-each (same_key k j) (with_item (redrawn_if asked (hand_at rows k) h)) (linked a j) ∙ v) in
                let one : hand_at last j ≡ cond (has same_key j i.below) (handed_to j (passed h i.item) i.below) (hand_at put j) = g2 j v1
                ∙ (ap (λ f. cond (has same_key j f) (handed_to j (passed_at h (linked a k)) f) (hand_at put j)) low_seen
                ∙ ap (λ q. cond (has same_key j i.below) (handed_to j q i.below) (hand_at put j)) passed_is) in
                let two : hand_at put j ≡ cond (same_key k j) h (hand_at now j) = hand_put a now put k h p here_live j v in
                let three : hand_at now j ≡ cond (has same_key j F && not (same_key j k || (has same_key j i.below || has same_key j i.rest))) (handed_to j h F) (hand_at rows j) =
                w.hands j u ∙ ap (λ f. cond (has same_key j F && not (has same_key j f)) (handed_to j h F) (hand_at rows j)) i.seen in
                one ∙ (ap (λ r. cond (has same_key j i.below) (handed_to j (passed h i.item) i.below) r) (two ∙ ap (λ r. cond (same_key k j) h r) three)
                ∙ (joined (handed_to j h F) (hand_at rows j) (λ _. handed_to j (passed h i.item) i.below) (λ _. h)
                (has same_key j F) (same_key k j) (same_key j k) (has same_key j i.below) (has same_key j i.rest)
                (flip k j) (in0 j) (λ t. rw (sym (same_key-sound k j t)) i.apart.0) (λ t. rw (sym (same_key-sound k j t)) i.apart.1) (i.apart.2 j)
                (λ t. sym (near_low j t) ∙ sym (near_first j (from_right (same_key j k) (has same_key j i.below || has same_key j i.rest) (from_left (has same_key j i.below)
                (has same_key j i.rest) t))))
                (λ t. let y : same_key j k ≡ true = sym (flip k j) ∙ t in
                sym (near_here j y) ∙ sym (near_first j (from_left (same_key j k) (has same_key j i.below || has same_key j i.rest) y)))
                ∙ ap (λ f. cond (has same_key j F && not (has same_key j f)) (handed_to j h F) (hand_at rows j)) (sym seen2)));
            same_length = l2 ∙ (l1 ∙ w.same_length);
          },
          omega (arith, m, n),
        )
