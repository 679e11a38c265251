-- Marks that are taken off, one sibling after the other.
use Rattle.std.proofs.Common.{◌≡◌, refl, ap, ◌∙◌, sym, subst, ℕ, zero, suc, ◌+◌, ◌<◌, ◌≤◌, Bool, true, false, ◌||◌, ◌&&◌, not, cond, List, length, arith, ◌⊎◌, inl, inr}
use Rattle.std.specs.Prelude.{◌==◌, Option, Some, None, option_map, is_some}
use Rattle.rd_keys.specs.Keys.{same_key}
use Rattle.rd_keys.specs.Arena.{Arena, value}
use Rattle.rd_keys.proofs.Keys.{same_key-sound, same_key-refl}
use Rattle.rd_tree.specs.declared.node.Node as inner
use Rattle.rd_tree.specs.declared.table.row.Summary.{Summary}
use Rattle.rd_tree.specs.declared.links.walk.Work.TheVariants.{Settle}
use Rattle.rd_tree.specs.Forest.{empty, tree, size, has, branch, AllItems}
use Rattle.rd_tree.specs.Internal.Links.{Node, node, with_item, Stands, edit, on_each, child_and_sibling}
use Rattle.rd_tree.specs.Document.{BoxKey, Item, BoxForest}
use Rattle.rd_tree.specs.Touching.{settled}
use Rattle.rd_tree.specs.Internal.Linked.{linked, plain, Relinks, IsRead, IsTree, seen, seen_from}
use Rattle.rd_tree.specs.declared.shared.TheConstants.{PAGE}
use Rattle.rd_tree.specs.Internal.Calm.{place_on, IsCalmBox, Passes}
use Rattle.rd_tree.specs.Internal.Works.{Allows}
use Rattle.rd_tree.specs.Hulls.{touched_in}
use Rattle.rd_tree.specs.Internal.Summaries.{summary_of, summary_at}
use Rattle.rd_tree.specs.Internal.Rows.{HasRows, IsTabled, Puts, unmarked, touched_under}
use Rattle.rd_tree.specs.Internal.Renews.{whole_at}
use Rattle.rd_tree.specs.Internal.Settles.{HasCounts, Unmarks}
use Rattle.rd_tree.proofs.Linking.Standing.{cases, from_left, from_right, differs, apart_back}
use Rattle.rd_tree.proofs.Forests.Under.{which}
use Rattle.rd_tree.proofs.Nodes.Each.{all_items, is_some-each}
use Rattle.rd_tree.proofs.Nodes.Works.{Walked, Here, here, begun, flip, seen_read, Below, below, low_seen, low_stand, next_seen, onward}
use Rattle.rd_tree.proofs.Nodes.Rooting.{rooted_seen}
use Rattle.rd_tree.proofs.Tables.Above.{puts_at}
use Rattle.rd_tree.proofs.Tables.Renewing.{whole_is}
use Rattle.rd_tree.proofs.Tables.TreeRows.{seen_stands}
use Rattle.rd_tree.proofs.Tables.Siblings.{nothing_seen}
use Rattle.rd_tree.proofs.Tables.Filling.{written}

-- A box that the links stand for is live.
live_in : (at : BoxKey → Option (Node BoxKey Item)) (up prev : Option BoxKey) (f : BoxForest) (first last after : Option BoxKey) (j : BoxKey)
    → Stands at up prev f first last after → has same_key j f ≡ true → is_some (at j) ≡ true
live_in at up prev empty first last after j s m = absurd (cc (m))
live_in at up prev (tree k d below rest) first last after j s m =
    elim (which (same_key j k) (has same_key j below || has same_key j rest) m) [
      | inl u ↦ subst (λ i. is_some (at i) ≡ true) (sym (same_key-sound j k u)) (ap is_some s.4)
      | inr u ↦ elim (which (has same_key j below) (has same_key j rest) u) [
        | inl v ↦ live_in at (Some k) None below s.0 s.1 None j s.5 v
        | inr v ↦ live_in at up (Some k) rest s.2 last after j s.6 v
      ]
    ]

none_of : (b : Bool) (m n : ℕ) → cond b 1 0 + (m + n) ≡ 0 → (b ≡ false) × (m ≡ 0) × (n ≡ 0)
none_of true m n h = absurd (omega (arith, h))
none_of false m n h = (refl, omega (arith, h), omega (arith, h))

as_it_is : (d : Item) → d.touched ≡ false → settled d ≡ d
as_it_is d h = ap (λ b. record d { touched = b }) (sym h)

-- Boxes that are not touched stay as they are.
quiet : (at : BoxKey → Option (Node BoxKey Item)) (up prev : Option BoxKey) (f : BoxForest) (first last after : Option BoxKey) (j : BoxKey)
    → Stands at up prev f first last after → touched_in f ≡ 0 → has same_key j f ≡ true → option_map (with_item settled) (at j) ≡ at j
quiet at up prev empty first last after j s z m = absurd (cc (m))
quiet at up prev (tree k d below rest) first last after j s z m =
    let n : (d.touched ≡ false) × (touched_in below ≡ 0) × (touched_in rest ≡ 0) = none_of d.touched (touched_in below) (touched_in rest) z in
    elim (which (same_key j k) (has same_key j below || has same_key j rest) m) [
      | inl u ↦ subst (λ i. option_map (with_item settled) (at i) ≡ at i) (sym (same_key-sound j k u)) (ap (option_map (with_item settled)) s.4
          ∙ (ap (λ e. Some (node e up prev s.0 s.1 s.2)) (as_it_is d n.0) ∙ sym s.4))
      | inr u ↦ elim (which (has same_key j below) (has same_key j rest) u) [
        | inl v ↦ quiet at (Some k) None below s.0 s.1 None j s.5 n.1 v
        | inr v ↦ quiet at up (Some k) rest s.2 last after j s.6 n.2 v
      ]
    ]

-- No box is touched below one of these.
none_below : (f : BoxForest) (j : BoxKey) → touched_in f ≡ 0 → (summary_of j f).touched ≡ 0
none_below empty j z = refl
none_below (tree k d below rest) j z =
    let n : (d.touched ≡ false) × (touched_in below ≡ 0) × (touched_in rest ≡ 0) = none_of d.touched (touched_in below) (touched_in rest) z in
    elim (cases (same_key j k)) [
      | inl e ↦ rw e n.1
      | inr e ↦ elim (cases (has same_key j below)) [ inl u ↦ rw (e, u) (none_below below j n.1) | inr u ↦ rw (e, u) (none_below rest j n.2) ]
    ]

own_count : (k : BoxKey) (d : Item) (below rest : BoxForest) → (summary_of k (tree k d below rest)).touched ≡ touched_in below
own_count k d below rest = rw (same_key-refl k) refl

-- The loop has taken the marks off those boxes that are told from the first one on, and no more from this one on.
pub record Settling (a0 a : Arena inner.Node) (old new : List Summary) (first at : Option BoxKey) : Type 0 where
  pub walked : Walked a0 first Settle a at
  pub has_rows : HasRows old (seen_from a0 first)
  pub counts : HasCounts old (seen_from a0 first)
  pub later : (j : BoxKey) → has same_key j (seen_from a at) ≡ true → summary_of j (seen_from a0 first) ≡ summary_of j (seen_from a at)
  pub rows : (j : BoxKey) → is_some (linked a0 j) ≡ true → summary_at new j ≡ cond (has same_key j (seen_from a0 first) && not (has same_key j (seen_from a
      at))) (unmarked (summary_at old j)) (summary_at old j)
  pub same_length : length new ≡ length old

pub settling_begun : (a : Arena inner.Node) (old : List Summary) (first : Option BoxKey) → IsRead a first → HasRows old (seen_from a first) → HasCounts old
    (seen_from a first) → Settling a a old old first first
settling_begun a old first r h c = record {
  walked = begun a first Settle r (all_items (Allows Settle) (seen_from a first) (λ d. tt));
  has_rows = h;
  counts = c;
  later = λ j u. refl;
  rows = λ j u. none (has same_key j (seen_from a first)) (unmarked (summary_at old j)) (summary_at old j);
  same_length = refl;
} where
  none : {A : Type 0} (b : Bool) (x y : A) → y ≡ cond (b && not b) x y
  none true x y = refl
  none false x y = refl

pub settling_ended : (a0 a : Arena inner.Node) (old new : List Summary) (first : Option BoxKey) → Settling a0 a old new first None → Unmarks a0 old new
    (seen_from a0 first)
settling_ended a0 a old new first w j u =
    w.rows j u ∙ (ap (λ f. cond (has same_key j (seen_from a0 first) && not (has same_key j f)) (unmarked (summary_at old j)) (summary_at old j))
    (nothing_seen a) ∙ every (has same_key j (seen_from a0 first)) (unmarked (summary_at old j)) (summary_at old j)) where
      every : {A : Type 0} (b : Bool) (x y : A) → cond (b && not false) x y ≡ cond b x y
      every true x y = refl
      every false x y = refl

-- Where none of these boxes has a mark, the loop is at its end.
pub settling_rest : (a0 a : Arena inner.Node) (old new : List Summary) (first at : Option BoxKey) → Settling a0 a old new first at → touched_in (seen_from a at) ≡ 0
    → Settling a0 a old new first None
settling_rest a0 a old new first at w z = record {
  walked = record {
    links = record {
      links = λ j. w.walked.links.links j ∙ (same (F j) (G j) (λ v. w.walked.within j v) (option_map (with_item settled) (linked a0 j)) (linked a0 j) (λ f g. quiet_at j f g)
          ∙ ap (λ f. cond (F j && not (has same_key j f)) (option_map (with_item settled) (linked a0 j)) (linked a0 j)) (sym (nothing_seen a)));
      same_slots = w.walked.links.same_slots;
      same_live = w.walked.links.same_live;
      limit = w.walked.links.limit;
      first = w.walked.links.first;
    };
    read = record { boxes = empty; up = None; prev = None; last = None; stands = (refl, refl); apart = tt; small = omega arith };
    allowed = subst (λ f. AllItems (Allows Settle) f) (sym (nothing_seen a)) tt;
    within = λ j v. let m : false ≡ true = sym (ap (has same_key j) (nothing_seen a)) ∙ v in absurd (cc (m));
    smaller = let n : size (seen_from a None) ≡ 0 = ap size (nothing_seen a) in omega (arith, n);
  };
  has_rows = w.has_rows;
  counts = w.counts;
  later = λ j v. let m : false ≡ true = sym (ap (has same_key j) (nothing_seen a)) ∙ v in absurd (cc (m));
  rows = λ j l. w.rows j l ∙ (same (F j) (G j) (λ v. w.walked.within j v) (unmarked (summary_at old j)) (summary_at old j) (λ f g. no_mark j f g)
      ∙ ap (λ f. cond (F j && not (has same_key j f)) (unmarked (summary_at old j)) (summary_at old j)) (sym (nothing_seen a)));
  same_length = w.same_length;
} where
  F : BoxKey → Bool
  F j = has same_key j (seen_from a0 first)

  G : BoxKey → Bool
  G j = has same_key j (seen_from a at)

  same : {A : Type 0} (b c : Bool) → (c ≡ true → b ≡ true) → (x y : A) → (b ≡ true → c ≡ true → x ≡ y) → cond (b && not c) x y ≡ cond (b && not false) x y
  same true true i x y f = sym (f refl refl)
  same true false i x y f = refl
  same false c i x y f = refl

  -- a box that is still to come has no mark
  quiet_at : (j : BoxKey) → F j ≡ true → G j ≡ true → option_map (with_item settled) (linked a0 j) ≡ linked a0 j
  quiet_at j f g =
      let was : linked a j ≡ linked a0 j = w.walked.links.links j ∙ rw (g, f) refl in
      let r = w.walked.read in
      subst (λ o. option_map (with_item settled) o ≡ o) was (quiet (linked a) r.up r.prev r.boxes at r.last None j r.stands
      (ap touched_in (sym (seen_read a at r)) ∙ z) (ap (has same_key j) (sym (seen_read a at r)) ∙ g))

  no_mark : (j : BoxKey) → F j ≡ true → G j ≡ true → unmarked (summary_at old j) ≡ summary_at old j
  no_mark j f g =
      ap (λ n. record (summary_at old j) { touched = n }) (sym (w.counts j f ∙ (ap (λ s. s.touched) (w.later j g) ∙ none_below (seen_from a at) j z)))

-- The loop goes on where marks are left.
pub settling_on : (a0 a : Arena inner.Node) (old new : List Summary) (first at to : Option BoxKey) (left : ℕ) → Settling a0 a old new first at → left ≡ touched_in
    (seen_from a at) → to ≡ cond (left == 0) None at → Settling a0 a old new first to × (left ≡ touched_in (seen_from a to)) × (size (seen_from a to) ≤ size (seen_from a at))
settling_on a0 a old new first at to left w n e = elim (cases (left == 0)) [
  | inl u ↦
      let z : left ≡ 0 = grind arith in
      let none : to ≡ None = e ∙ rw u refl in
      subst (λ o. Settling a0 a old new first o × (left ≡ touched_in (seen_from a o)) × (size (seen_from a o) ≤ size (seen_from a at))) (sym none) (
        settling_rest a0 a old new first at w (sym n ∙ z),
        z ∙ sym (ap touched_in (nothing_seen a)),
        let m : size (seen_from a None) ≡ 0 = ap size (nothing_seen a) in omega (arith, m),
      )
  | inr u ↦
      let same : to ≡ at = e ∙ rw u refl in
      subst (λ o. Settling a0 a old new first o × (left ≡ touched_in (seen_from a o)) × (size (seen_from a o) ≤ size (seen_from a at))) (sym same) (w, n, omega arith)
]

-- What the loop keeps, where there is a next box.
pub walked : (a0 a : Arena inner.Node) (old new : List Summary) (first at : Option BoxKey) (k : BoxKey) (left : ℕ) → at ≡ Some k → Settling a0 a old new first at
    × (left ≡ touched_in (seen_from a at)) → Settling a0 a old new first (Some k) × (left ≡ touched_in (seen_from a (Some k)))
walked a0 a old new first at k left e w = subst (λ o. Settling a0 a old new first o × (left ≡ touched_in (seen_from a o))) e w

-- What is known before the marks below a box are taken off.
pub record BelowSettle (a0 a1 : Arena inner.Node) (new : List Summary) (first b : Option BoxKey) : Type 0 where
  pub smaller : size (seen_from a1 b) < size (seen_from a0 first)
  pub read : IsRead a1 b
  pub has_rows : HasRows new (seen_from a1 b)
  pub counts : HasCounts new (seen_from a1 b)

module _ (a0 a : Arena inner.Node) (old new : List Summary) (first : Option BoxKey) (k : BoxKey) (w : Settling a0 a old new first (Some k)) where
  h : Here a k
  h = here a k w.walked.read

  -- the key of the box is live
  pub live_key : is_some (value a k.slot k.generation) ≡ true
  live_key = under (value a k.slot k.generation) h.found where
    under : (o : Option inner.Node) → {x : Node BoxKey Item} → option_map plain o ≡ Some x → is_some o ≡ true
    under None e = cc
    under (Some y) e = refl

  has_here : (j : BoxKey) → has same_key j (seen_from a (Some k)) ≡ (same_key j k || (has same_key j h.below || has same_key j h.rest))
  has_here j = ap (has same_key j) h.seen

  in_low : (j : BoxKey) → has same_key j h.below ≡ true → has same_key j (seen_from a (Some k)) ≡ true
  in_low j u = has_here j ∙ from_right (same_key j k) (has same_key j h.below || has same_key j h.rest) (from_left (has same_key j h.below) (has same_key j
      h.rest) u)

  in_later : (j : BoxKey) → has same_key j h.rest ≡ true → has same_key j (seen_from a (Some k)) ≡ true
  in_later j u = has_here j ∙ from_right (same_key j k) (has same_key j h.below || has same_key j h.rest) (from_right (has same_key j h.below)
      (has same_key j h.rest) u)

  in_here : has same_key k (seen_from a (Some k)) ≡ true
  in_here = has_here k ∙ from_left (same_key k k) (has same_key k h.below || has same_key k h.rest) (same_key-refl k)

  -- the same keys are live all along
  live_as : (j : BoxKey) → is_some (linked a j) ≡ is_some (linked a0 j)
  live_as j = ap is_some (w.walked.links.links j) ∙ is_some-each _ (with_item settled) (linked a0 j)

  -- The rows of the boxes that are still to come are as they were.
  still_row : (j : BoxKey) → is_some (linked a0 j) ≡ true → has same_key j (seen_from a (Some k)) ≡ true → summary_at new j ≡ summary_at old j
  still_row j u m = w.rows j u ∙ kept (has same_key j (seen_from a0 first)) (has same_key j (seen_from a (Some k))) m (unmarked (summary_at old j))
      (summary_at old j) where
        kept : {A : Type 0} (b c : Bool) → c ≡ true → (x y : A) → cond (b && not c) x y ≡ y
        kept true c e x y = rw e refl
        kept false c e x y = refl

  low_live : (j : BoxKey) → has same_key j h.below ≡ true → is_some (linked a0 j) ≡ true
  low_live j u = sym (live_as j) ∙ live_in (linked a) (Some k) None h.below h.x h.y None j h.low u

  here_live : is_some (linked a0 k) ≡ true
  here_live = sym (live_as k) ∙ ap is_some h.found

  pub here_row : k.slot < length new
  here_row = omega (arith, w.same_length, w.has_rows k (w.walked.within k in_here))

  -- what is told of a box below, and of one among the later siblings
  of_low : (j : BoxKey) → has same_key j h.below ≡ true → summary_of j (tree k h.item h.below h.rest) ≡ summary_of j h.below
  of_low j u =
      let n : same_key j k ≡ false = differs same_key same_key-sound same_key-refl h.below j k u h.apart.0 in
      rw (n, u) refl

  of_later : (j : BoxKey) → has same_key j h.rest ≡ true → summary_of j (tree k h.item h.below h.rest) ≡ summary_of j h.rest
  of_later j u =
      let n : same_key j k ≡ false = differs same_key same_key-sound same_key-refl h.rest j k u h.apart.1 in
      let o : has same_key j h.below ≡ false = apart_back same_key same_key-sound same_key-refl h.below h.rest h.apart.2 j u in
      rw (n, o) refl

  told : (j : BoxKey) → has same_key j (seen_from a (Some k)) ≡ true → summary_of j (seen_from a0 first) ≡ summary_of j (tree k h.item h.below h.rest)
  told j u = w.later j u ∙ ap (summary_of j) h.seen

  -- The rows count the touched boxes below.
  low_counts : HasCounts new h.below
  low_counts j u =
      ap (λ r. r.touched) (still_row j (low_live j u) (in_low j u)) ∙ (w.counts j (w.walked.within j (in_low j u)) ∙ ap (λ r. r.touched) (told j
      (in_low j u) ∙ of_low j u))

  here_count : (summary_at new k).touched ≡ touched_in h.below
  here_count =
      ap (λ r. r.touched) (still_row k here_live in_here) ∙ (w.counts k (w.walked.within k in_here) ∙ (ap (λ r. r.touched) (told k in_here)
      ∙ own_count k h.item h.below h.rest))

  module _ (a1 : Arena inner.Node) (r1 : Relinks a a1 (edit same_key k (with_item settled) (linked a))) (o : Option BoxKey × Option BoxKey) (e : o
      ≡ child_and_sibling (linked a k)) (b : Option BoxKey) (b_is : b ≡ cond ((summary_at new k).touched == 0) None o.0) where
    first_low : o.0 ≡ h.x
    first_low = ap (λ z. z.0) e ∙ ap (λ z. (child_and_sibling z).0) h.found

    next_later : o.1 ≡ h.z
    next_later = ap (λ z. z.1) e ∙ ap (λ z. (child_and_sibling z).1) h.found

    seen_low : seen_from a1 o.0 ≡ h.below
    seen_low = ap (seen_from a1) first_low ∙ low_seen a0 a a1 first Settle k w.walked r1 h

    low_all : Below a0 first Settle a1 o.0
    low_all = subst (λ z. Below a0 first Settle a1 z.0) (sym e) (below a0 a a1 first Settle k w.walked r1)

    -- All below is asked, or nothing is touched there.
    either_way : (b ≡ o.0) ⊎ ((b ≡ None) × (touched_in h.below ≡ 0))
    either_way = elim (cases ((summary_at new k).touched == 0)) [
      | inl u ↦ inr (b_is ∙ rw u refl, sym here_count ∙ zero_is (summary_at new k).touched u)
      | inr u ↦ inl (b_is ∙ rw u refl)
    ] where
      zero_is : (n : ℕ) → (n == 0) ≡ true → n ≡ 0
      zero_is n h = grind arith

    pub below_settle : BelowSettle a0 a1 new first b
    below_settle = elim either_way [
      | inl u ↦ subst (λ z. BelowSettle a0 a1 new first z) (sym u) (record {
        smaller = low_all.smaller;
        read = low_all.read;
        has_rows = λ j v. omega (arith, w.same_length, w.has_rows j (w.walked.within j (in_low j (sym (ap (has same_key j) seen_low) ∙ v))));
        counts = λ j v. low_counts j (sym (ap (has same_key j) seen_low) ∙ v) ∙ ap (λ f. (summary_of j f).touched) (sym seen_low);
      })
      | inr u ↦ subst (λ z. BelowSettle a0 a1 new first z) (sym u.0) (record {
        smaller = let n : size (seen_from a1 None) ≡ 0 = ap size (nothing_seen a1) in omega (arith, n, low_all.smaller);
        read = record { boxes = empty; up = None; prev = None; last = None; stands = (refl, refl); apart = tt; small = omega arith };
        has_rows = λ j v. let m : false ≡ true = sym (ap (has same_key j) (nothing_seen a1)) ∙ v in absurd (cc (m));
        counts = λ j v. let m : false ≡ true = sym (ap (has same_key j) (nothing_seen a1)) ∙ v in absurd (cc (m));
      })
    ]

    low_stands : Stands (linked a1) (Some k) None h.below h.x h.y None
    low_stands = low_stand a0 a a1 first Settle k w.walked r1 h

    -- Either way all below is settled,
    settled_low : (a2 : Arena inner.Node) → Relinks a1 a2 (on_each (λ j. has same_key j (seen_from a1 b)) settled (linked a1)) → Relinks a1 a2 (on_each
        (λ j. has same_key j (seen_from a1 o.0)) settled (linked a1))
    settled_low a2 r2 = elim either_way [
      | inl u ↦ subst (λ z. Relinks a1 a2 (on_each (λ j. has same_key j (seen_from a1 z)) settled (linked a1))) u r2
      | inr u ↦ record {
        links = λ j. r2.links j ∙ (ap (λ z. cond (has same_key j (seen_from a1 z)) (option_map (with_item settled) (linked a1 j)) (linked a1 j)) u.0
            ∙ (ap (λ f. cond (has same_key j f) (option_map (with_item settled) (linked a1 j)) (linked a1 j)) (nothing_seen a1)
            ∙ (no_matter (has same_key j h.below) (option_map (with_item settled) (linked a1 j)) (linked a1 j) (λ v. quiet (linked a1) (Some k) None
            h.below h.x h.y None j low_stands u.1 v)
            ∙ ap (λ f. cond (has same_key j f) (option_map (with_item settled) (linked a1 j)) (linked a1 j)) (sym seen_low))));
        same_slots = r2.same_slots;
        same_live = r2.same_live;
        limit = r2.limit;
        first = r2.first;
      }
    ] where
      no_matter : {A : Type 0} (c : Bool) (x y : A) → (c ≡ true → x ≡ y) → y ≡ cond c x y
      no_matter true x y f = sym (f refl)
      no_matter false x y f = refl

    -- and so are the rows below.
    unmarked_low : (new1 : List Summary) → Unmarks a1 new new1 (seen_from a1 b) → (j : BoxKey) → is_some (linked a1 j) ≡ true → summary_at new1 j
        ≡ cond (has same_key j h.below) (unmarked (summary_at new j)) (summary_at new j)
    unmarked_low new1 g j l = elim either_way [
      | inl u ↦ g j l ∙ (ap (λ z. cond (has same_key j (seen_from a1 z)) (unmarked (summary_at new j)) (summary_at new j)) u ∙ ap (λ f. cond (has same_key
          j f) (unmarked (summary_at new j)) (summary_at new j)) seen_low)
      | inr u ↦ g j l ∙ (ap (λ z. cond (has same_key j (seen_from a1 z)) (unmarked (summary_at new j)) (summary_at new j)) u.0
          ∙ (ap (λ f. cond (has same_key j f) (unmarked (summary_at new j)) (summary_at new j)) (nothing_seen a1)
          ∙ no_matter (has same_key j h.below) (λ v. ap (λ n. record (summary_at new j) { touched = n }) (sym (low_counts j v ∙ none_below h.below j u.1)))))
    ] where
      no_matter : (c : Bool) → (c ≡ true → unmarked (summary_at new j) ≡ summary_at new j) → summary_at new j ≡ cond c (unmarked (summary_at new j))
          (summary_at new j)
      no_matter true f = sym (f refl)
      no_matter false f = refl

    pub record SettleNext (a2 : Arena inner.Node) (new2 : List Summary) : Type 0 where
      pub next : Settling a0 a2 old new2 first o.1
      pub less : size (seen_from a2 o.1) < size (seen_from a (Some k))
      pub marks : touched_in (seen_from a (Some k)) ≡ touched_under (linked a k) + ((summary_at new k).touched + touched_in (seen_from a2 o.1))

    -- So many marks are below it.
    pub marks_below : (summary_at new k).touched ≡ touched_in (seen_from a1 b)
    marks_below = elim either_way [
      | inl u ↦ here_count ∙ sym (ap (λ z. touched_in (seen_from a1 z)) u ∙ ap touched_in seen_low)
      | inr u ↦ here_count ∙ (u.1 ∙ sym (ap (λ z. touched_in (seen_from a1 z)) u.0 ∙ ap touched_in (nothing_seen a1)))
    ]

    -- The row of the box stands as it was while those below are settled.
    pub row_stays : (new1 : List Summary) → Unmarks a1 new new1 (seen_from a1 b) → summary_at new1 k ≡ summary_at new k
    row_stays new1 g =
        let l1k : is_some (linked a1 k) ≡ true = ap is_some (r1.links k) ∙ (is_some-each (same_key k k) (with_item settled) (linked a k)
        ∙ (live_as k ∙ here_live)) in
        unmarked_low new1 g k l1k ∙ rw h.apart.0 refl

    pub settle_next : (a2 : Arena inner.Node) (new1 new2 : List Summary) → Relinks a1 a2 (on_each (λ j. has same_key j (seen_from a1 b)) settled
        (linked a1)) → Unmarks a1 new new1 (seen_from a1 b) → length new1 ≡ length new →
        Puts new1 new2 k (unmarked (summary_at new1 k)) → length new2 ≡ length new1 → SettleNext a2 new2
    settle_next a2 new1 new2 r2 g l1 p l2 =
        let r3 : Relinks a1 a2 (on_each (λ j. has same_key j (seen_from a1 (child_and_sibling (linked a k)).0)) settled (linked a1)) = subst (λ z. Relinks
        a1 a2 (on_each (λ j. has same_key j (seen_from a1 z.0)) settled (linked a1))) e (settled_low a2 r2) in
        let t : (w2 : Walked a0 first Settle a2 (child_and_sibling (linked a k)).1) × (size (seen_from a2 (child_and_sibling (linked a k)).1) < size
        (seen_from a (Some k))) = onward a0 a a1 first Settle k w.walked r1 a2 r3 in
        let t2 : (w2 : Walked a0 first Settle a2 o.1) × (size (seen_from a2 o.1) < size (seen_from a (Some k))) = subst (λ z. (w2 : Walked a0 first Settle
        a2 z.1) × (size (seen_from a2 z.1) < size (seen_from a (Some k)))) (sym e) t in
        let seen2 : seen_from a2 o.1 ≡ h.rest = ap (seen_from a2) next_later ∙ next_seen a0 a a1 first Settle k w.walked r1 a2 r3 h in
        let F : BoxKey → Bool = λ j. has same_key j (seen_from a0 first) in
        record {
          less = t2.1;
          marks = ap touched_in h.seen ∙ sym (rw (h.found, here_count, seen2) refl);
          next = record {
            walked = t2.0;
            has_rows = w.has_rows;
            counts = w.counts;
            later = λ j u.
                let v : has same_key j h.rest ≡ true = sym (ap (has same_key j) seen2) ∙ u in
                told j (in_later j v) ∙ (of_later j v ∙ ap (summary_of j) (sym seen2));
            rows = λ j u.
                let la : is_some (linked a j) ≡ true = live_as j ∙ u in
                let l1j : is_some (linked a1 j) ≡ true = ap is_some (r1.links j) ∙ (is_some-each (same_key k j) (with_item settled) (linked a j) ∙ la) in
                let l1k : is_some (linked a1 k) ≡ true = ap is_some (r1.links k) ∙ (is_some-each (same_key k k) (with_item settled) (linked a k)
                ∙ (live_as k ∙ here_live)) in
                let one : summary_at new2 j ≡ cond (same_key k j) (unmarked (summary_at new1 k)) (summary_at new1 j) = puts_at a new1 new2 k (unmarked
                (summary_at new1 k)) p (live_as k ∙ here_live) j la in
                let two : summary_at new1 j ≡ cond (has same_key j h.below) (unmarked (summary_at new j)) (summary_at new j) = unmarked_low new1 g j l1j in
                let three : summary_at new j ≡ cond (F j && not (same_key j k || (has same_key j h.below || has same_key j h.rest))) (unmarked (summary_at
                old j)) (summary_at old j) =
                w.rows j u ∙ ap (λ c. cond (F j && not c) (unmarked (summary_at old j)) (summary_at old j)) (has_here j) in
                let own : summary_at new1 k ≡ summary_at old k = unmarked_low new1 g k l1k ∙ (rw h.apart.0 refl ∙ still_row k here_live in_here) in
                one ∙ (ap (λ r. cond (same_key k j) (unmarked (summary_at new1 k)) r) (two ∙ ap (λ r. cond (has same_key j h.below) (unmarked (summary_at
                new j)) r) three)
                ∙ (written (same_key k j) (same_key j k) (has same_key j h.below) (has same_key j h.rest) (F j) (unmarked (summary_at new1 k)) (summary_at
                new1 j) (unmarked (summary_at new j)) (summary_at old j) (unmarked (summary_at old j))
                (flip k j)
                (λ v. subst (λ i. has same_key i h.below ≡ false) (sym (same_key-sound j k v)) h.apart.0)
                (λ v. subst (λ i. has same_key i h.rest ≡ false) (sym (same_key-sound j k v)) h.apart.1)
                (λ v. h.apart.2 j v)
                (λ v. w.walked.within j (has_here j ∙ v))
                (λ v. subst (λ i. unmarked (summary_at new1 k) ≡ unmarked (summary_at old i)) (same_key-sound k j v) (ap unmarked own))
                (λ v. ap unmarked (still_row j u (in_low j v)))
                ∙ ap (λ f. cond (F j && not (has same_key j f)) (unmarked (summary_at old j)) (summary_at old j)) (sym seen2)));
            same_length = l2 ∙ (l1 ∙ w.same_length);
          };
        }

-- The loop passes a box without marks: nothing is done below it, and its row stands as it is.
pub settle_passed : (a0 a : Arena inner.Node) (old new : List Summary) (first : Option BoxKey) (k : BoxKey) (w : Settling a0 a old new first (Some k))
    (a1 : Arena inner.Node) (r1 : Relinks a a1 (edit same_key k (with_item settled) (linked a))) (o : Option BoxKey × Option BoxKey) (e : o ≡ child_and_sibling
    (linked a k)) → (summary_at new k).touched ≡ 0 → Settling a0 a1 old new first o.1 × (size (seen_from a1 o.1) < size (seen_from a (Some k)))
    × (touched_in (seen_from a (Some k)) ≡ touched_under (linked a k) + touched_in (seen_from a1 o.1))
settle_passed a0 a old new first k w a1 r1 o e z =
    let none : None ≡ cond ((summary_at new k).touched == 0) None o.0 = rw z refl in
    let n = settle_next a0 a old new first k w a1 r1 o e None none a1 new new (record {
      links = λ j. sym (ap (λ f. cond (has same_key j f) (option_map (with_item settled) (linked a1 j)) (linked a1 j)) (nothing_seen a1));
      same_slots = refl;
      same_live = refl;
      limit = refl;
      first = refl;
    }) (λ j l. sym (ap (λ f. cond (has same_key j f) (unmarked (summary_at new j)) (summary_at new j)) (nothing_seen a1))) refl
    (λ j. elim (cases (j.slot == k.slot)) [ inl s ↦ rw s (same j s) | inr s ↦ rw s refl ]) refl in
    (n.next, n.less, omega (arith, n.marks, z)) where
      same : (j : BoxKey) → (j.slot == k.slot) ≡ true → summary_at new j ≡ unmarked (summary_at new k)
      same j s =
          let i : j.slot ≡ k.slot = grind arith in
          ap (λ n. summary_at new (record k { slot = n })) i ∙ sym (ap (λ m. record (summary_at new k) { touched = m }) (sym z))

-- The root is there,
pub root_there : (a : Arena inner.Node) (root : BoxKey) → IsTree a root → has same_key root (seen a root) ≡ true
root_there a root t =
    let r = rooted_seen a root t in
    subst (λ f. has same_key root f ≡ true) (sym r.2) (from_left (same_key root root) (has same_key root r.1 || false) (same_key-refl root))

-- and its row tells how many marks there are.
pub all_marks : (a : Arena inner.Node) (root : BoxKey) (rows : List Summary) → IsTree a root → IsTabled a rows (seen a root) → (whole_at a rows root).touched
    ≡ touched_in (seen_from a (Some root))
all_marks a root rows t table =
    let m : has same_key root (seen a root) ≡ true = root_there a root t in
    ap (λ w. w.touched) (whole_is a root (seen a root) (seen_stands a root t) root m rows (table.right root m)) ∙ ap touched_in whole where
      whole : branch same_key root (seen a root) ≡ seen a root
      whole =
          let r = rooted_seen a root t in
          subst (λ f. branch same_key root f ≡ f) (sym r.2) (rw (same_key-refl root) refl)

-- What holds at first, and from one step to the next, holds after so many.
upto : (P : ℕ → Type 0) (n : ℕ) → P 0 → ((i : ℕ) → i < n → P i → P (suc i)) → P n
upto P zero z s = z
upto P (suc n) z s = s n (omega arith) (upto P n z (λ i l p. s i (omega (arith, l)) p))

-- The loop comes to a box past a page.
pub record SettlePassed (a0 a : Arena inner.Node) (old new : List Summary) (first from to : Option BoxKey) : Type 0 where
  pub next : Settling a0 a old new first to
  pub less : size (seen_from a to) < size (seen_from a from)
  pub marks : touched_in (seen_from a from) ≡ touched_in (seen_from a to)

-- An untouched box stays as it is.
stays_settled : (a : Arena inner.Node) (k : BoxKey) (x : Node BoxKey Item) → linked a k ≡ Some x → x.item.touched ≡ false
    → Relinks a a (edit same_key k (with_item settled) (linked a))
stays_settled a k x f u = record {
  links = λ j. at j (same_key k j) refl;
  same_slots = refl;
  same_live = refl;
  limit = refl;
  first = refl;
} where
  at : (j : BoxKey) (b : Bool) → same_key k j ≡ b → linked a j ≡ cond (same_key k j) (option_map (with_item settled) (linked a j)) (linked a j)
  at j false e = rw e refl
  at j true e =
      let n : linked a j ≡ Some x = ap (linked a) (sym (same_key-sound k j e)) ∙ f in
      rw (e, n) (ap (λ d. Some (record x { item = d })) (sym (as_it_is x.item u)))

-- The loop passes one box of a page: it is untouched and has no children.
settle_calm : (a0 a : Arena inner.Node) (old new : List Summary) (first : Option BoxKey) (s : ℕ) (at to : Option BoxKey) → Settling a0 a old new first at
    → IsCalmBox a s at to → SettlePassed a0 a old new first at to
settle_calm a0 a old new first s at to w b =
    let f : linked a b.key ≡ Some (plain b.node) = ap (option_map plain) b.found in
    let low : None ≡ (child_and_sibling (linked a b.key)).0 = sym (ap (λ o. (child_and_sibling o).0) f ∙ b.alone) in
    let next : (child_and_sibling (linked a b.key)).1 ≡ to = ap (λ o. (child_and_sibling o).1) f ∙ b.after in
    let none : touched_under (linked a b.key) ≡ 0 = ap touched_under f ∙ rw b.untouched refl in
    let v : Settling a0 a old new first (Some b.key) = subst (Settling a0 a old new first) b.is w in
    let r : Relinks a a (edit same_key b.key (with_item settled) (linked a)) = stays_settled a b.key (plain b.node) f b.untouched in
    let count : (summary_at new b.key).touched ≡ 0 = marks_below a0 a old new first b.key v a r (child_and_sibling (linked a b.key)) refl None
    (either ((summary_at new b.key).touched == 0) (child_and_sibling (linked a b.key)).0 low) ∙ ap touched_in (nothing_seen a) in
    let p : Settling a0 a old new first (child_and_sibling (linked a b.key)).1 × (size (seen_from a (child_and_sibling (linked a b.key)).1) < size (seen_from a (Some b.key)))
    × (touched_in (seen_from a (Some b.key)) ≡ touched_under (linked a b.key) + touched_in (seen_from a (child_and_sibling (linked a b.key)).1)) =
    settle_passed a0 a old new first b.key v a r (child_and_sibling (linked a b.key)) refl count in
    subst (λ o. SettlePassed a0 a old new first o to) (sym b.is) (subst (λ o. SettlePassed a0 a old new first (Some b.key) o) next (record {
      next = p.0;
      less = p.1;
      marks = omega (arith, p.2, none);
    })) where
      either : (c : Bool) (o : Option BoxKey) → None ≡ o → None ≡ cond c None o
      either true o e = refl
      either false o e = e

-- The loop has passed so many boxes of a page.
record Past (a0 a : Arena inner.Node) (old new : List Summary) (first at o : Option BoxKey) (i : ℕ) : Type 0 where
  next : Settling a0 a old new first o
  less : size (seen_from a o) + i ≤ size (seen_from a at)
  marks : touched_in (seen_from a at) ≡ touched_in (seen_from a o)

-- The loop passes a page.
pub settle_over : (a0 a : Arena inner.Node) (old new : List Summary) (first at to : Option BoxKey) (k : BoxKey) → Settling a0 a old new first at → at ≡ Some k
    → Passes a k to → SettlePassed a0 a old new first at to
settle_over a0 a old new first at to k w e p =
    let begun : Past a0 a old new first at at 0 = record { next = w; less = omega arith; marks = refl } in
    let all : Past a0 a old new first at (place_on a k PAGE) PAGE = upto (λ i. Past a0 a old new first at (place_on a k i) i) PAGE
    (subst (λ o. Past a0 a old new first at o 0) e begun) (λ i u o.
    let s : SettlePassed a0 a old new first (place_on a k i) (place_on a k (suc i)) = settle_calm a0 a old new first (k.slot + i) (place_on a k i)
    (place_on a k (suc i)) o.next (p.runs.each i u) in
    record { next = s.next; less = omega (arith, o.less, s.less); marks = o.marks ∙ s.marks }) in
    let end : Past a0 a old new first at to PAGE = subst (λ o. Past a0 a old new first at o PAGE) p.ends all in
    record { next = end.next; less = omega (arith, end.less); marks = end.marks }
