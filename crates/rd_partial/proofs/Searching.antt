-- What a search among siblings passes over, and where it stops.
use Rattle.std.proofs.Common.{◌≡◌, refl, ap, ◌∙◌, sym, subst, Bool, true, false, cond, ◌||◌, ℕ, ◌+◌, ◌≤◌, arith}
use Rattle.std.specs.Prelude.{Option, Some, None, IsTrue}
use Rattle.rd_geom.specs.Areas.{Region}
use Rattle.rd_geom.specs.Plane.{Rectangle, IsWithin}
use Rattle.rd_keys.specs.Keys.{BoxKey, same_key}
use Rattle.rd_keys.proofs.Keys.{same_key-sound, same_key-refl}
use Rattle.rd_item.specs.Items.{Made}
use Rattle.rd_tree.specs.Forest.{empty, tree, head, starting_at, from_some, size, IsApart}
use Rattle.rd_tree.specs.declared.node.Item.{Item}
use Rattle.rd_tree.specs.Document.{BoxForest, Document}
use Rattle.rd_tree.specs.Drawn.{AllNear}
use Rattle.rd_tree.specs.Hulls.{any_touched, touched_in}
use Rattle.rd_tree.specs.Shown.{Shown, shown, told}
use Rattle.rd_tree.specs.declared.view.BoxView.{BoxView}
use Rattle.rd_tree.specs.Seeking.{siblings_from, looks_until, is_marked, reaches, hull_reaches}
use Rattle.rd_tree.proofs.Nodes.Looking.{from_child, from_next}
use Rattle.rd_stack.specs.Paths.{BoxData}
use Rattle.rd_stack.specs.Fresh.{box_data}
use Rattle.rd_partial.specs.Looks.{hull_at}
use Rattle.rd_partial.specs.Internal.ContextLists.{ContextLists, ◌⊕◌}
use Rattle.rd_partial.specs.Internal.Counting.{looks_below, visits}
use Rattle.rd_partial.specs.declared.look.BoxLook.{BoxLook}
use Rattle.rd_partial.specs.Internal.BoxLook.{Onward, here_of, looked_of}
use Rattle.rd_partial.specs.Internal.Pass.{is_one}
use Rattle.rd_partial.specs.Internal.Inherited.{Inherited, below}
use Rattle.rd_partial.specs.Internal.Touched.{touched_shows, marks_from, leads_to_touched}
use Rattle.rd_partial.specs.Internal.Work.{blends_from, passes}
use Rattle.rd_partial.specs.Internal.Seeking.{PassesMarks, PassesWanted, IsNextMarked, IsNextNear}
use Rattle.rd_partial.proofs.Adding.{joins_same}
use Rattle.rd_partial.proofs.Kids.{Kept, passes_more, cost_more, boxed_none, cost_none}
use Rattle.rd_partial.proofs.Touching.{Added, marks_told, none_shows, no_marks}
use Rattle.rd_partial.proofs.Going as going
use Rattle.rd_stack.proofs.Walk.Going as walk

-- how many looks the last one is
abbrev pub last_look : BoxForest → ℕ
last_look empty = 0
last_look (tree k d below rest) = 1

-- Where a search comes to: what holds of each step on the way holds there.
pub record Sought (P : Option BoxKey → ℕ → Type 0) (boxes to : BoxForest) (looks : ℕ) : Type 0 where
  pub at : Option BoxKey
  pub at_is : from_some same_key at boxes ≡ to
  pub first : at ≡ head to
  pub before : ℕ
  pub passed : P at before
  pub cost : looks ≡ before + last_look to

module _ (test : Item → BoxForest → Bool) (P : Option BoxKey → ℕ → Type 0) (boxes : BoxForest) (apart : IsApart same_key boxes)
    (step : (k : BoxKey) (d : Item) (low rest : BoxForest) (l : ℕ) → starting_at same_key k boxes ≡ tree k d low rest → test d low ≡ false → P (Some k) l
    → P (head rest) (l + 1)) where
  pub seek : (f : BoxForest) (o : Option BoxKey) (l : ℕ) → from_some same_key o boxes ≡ f → o ≡ head f → P o l
      → Sought P boxes (siblings_from test f) (l + looks_until test f)
  seek empty o l e n p = record { at = o; at_is = e; first = n; before = l; passed = p; cost = omega arith }
  seek (tree k d low rest) o l e n p =
      let from : starting_at same_key k boxes ≡ tree k d low rest = subst (λ z. from_some same_key z boxes ≡ tree k d low rest) n e in
      by (test d low) refl (λ h. seek rest (head rest) (l + 1) (from_next same_key same_key-sound same_key-refl boxes low rest k k d apart from) refl
      (step k d low rest l from h (subst (λ z. P z l) n p))) where
        by : (b : Bool) → test d low ≡ b → (test d low ≡ false → Sought P boxes (siblings_from test rest) (l + 1 + looks_until test rest))
            → Sought P boxes (cond b (tree k d low rest) (siblings_from test rest)) (l + (1 + cond b 0 (looks_until test rest)))
        by true h on = record { at = o; at_is = e; first = n; before = l; passed = p; cost = omega arith }
        by false h on =
            let r = on h in
            record { at = r.at; at_is = r.at_is; first = r.first; before = r.before; passed = r.passed; cost = omega (arith, r.cost) }

-- A view of the first box there is a look at it.
pub record Found (P : Option BoxKey → ℕ → Type 0) (root : BoxKey) (boxes : BoxForest) (v : Shown) (looks : ℕ) : Type 0 where
  pub key : BoxKey
  pub before : ℕ
  pub passed : P (Some key) before
  pub seen : Some v ≡ shown root (starting_at same_key key boxes)
  pub cost : looks ≡ before + 1

pub found : (P : Option BoxKey → ℕ → Type 0) (root : BoxKey) (boxes to : BoxForest) (v : Shown) (looks : ℕ) → Sought P boxes to looks → Some v ≡ shown root to
    → Found P root boxes v looks
found P root boxes empty v looks s h = cc (h)
found P root boxes (tree k d low rest) v looks s h =
    let at : s.at ≡ Some k = s.first in
    let is : starting_at same_key k boxes ≡ tree k d low rest = subst (λ z. from_some same_key z boxes ≡ tree k d low rest) at s.at_is in
    record {
      key = k;
      before = s.before;
      passed = subst (λ z. P z s.before) at s.passed;
      seen = h ∙ ap (shown root) (sym is);
      cost = s.cost;
    }

pub not_found : (P : Option BoxKey → ℕ → Type 0) (root : BoxKey) (boxes to : BoxForest) (looks : ℕ) → Sought P boxes to looks → None ≡ shown root to → P None looks
not_found P root boxes empty looks s h =
    let e : s.before ≡ looks = omega (arith, s.cost) in
    subst (λ n. P None n) e (subst (λ z. P z s.before) s.first s.passed)
not_found P root boxes (tree k d low rest) looks s h = cc

pub marks_begin : (t : Document) (first : Option BoxKey) (looks : ℕ) → PassesMarks t first first looks looks
marks_begin t first looks = record { fewer = omega arith; shows = λ s x y. refl; marks = refl; looks_is = omega arith }

pub wanted_begin : (wants : Rectangle → Bool) (t : Document) (first : Option BoxKey) (looks : ℕ) → PassesWanted wants t first first looks looks
wanted_begin wants t first looks = record { fewer = omega arith; gives = λ n s r. refl; made = λ n s r. refl; looks_is = omega arith }

-- One search after another.
pub wanted_then : (wants : Rectangle → Bool) (t : Document) (first at to : Option BoxKey) (looks0 looks looks1 : ℕ) → PassesWanted wants t first at looks0 looks
    → PassesWanted wants t at to looks looks1 → PassesWanted wants t first to looks0 looks1
wanted_then wants t first at to looks0 looks looks1 p q = record {
  fewer = omega (arith, p.fewer, q.fewer);
  gives = λ n s r. q.gives n s r ∙ p.gives n s r;
  made = λ n s r. q.made n s r ∙ p.made n s r;
  looks_is = omega (arith, p.looks_is, q.looks_is);
}

-- A box in whose hull nothing is wanted may be passed over.
wanted_over : (wants : Rectangle → Bool) (t : Document) → ((a b : Rectangle) → IsWithin a b → IsTrue (wants a) → IsTrue (wants b)) → (k : BoxKey) (here : BoxData)
    (c nx : Option BoxKey) (hull : Rectangle) (w : Onward t.boxes k here c nx hull) → wants hull ≡ false → (looks : ℕ)
    → PassesWanted wants t (Some k) nx looks (looks + 1)
wanted_over wants t grows k here c nx hull w off looks =
    let vm : visits wants (starting_at same_key k t.boxes) ≡ 1 + visits wants (from_some same_key nx t.boxes) = rw (w.is, w.next, sym w.hull_is, off) refl in
    let a : size (from_some same_key nx t.boxes) ≡ size w.rest = ap size w.next in
    let b : size (starting_at same_key k t.boxes) ≡ 1 + (size w.below + size w.rest) = ap size w.is in
    record {
      fewer = omega (arith, a, b);
      gives = λ n s r.
          sym (passes_more wants n s t.boxes k here c nx hull w
          ∙ ap (λ z. z ⊕ passes wants n s (from_some same_key nx t.boxes)) (boxed_none wants n s t.boxes k here c nx hull w grows r off (is_one false (blends_from c t) here)));
      made = λ n s r.
          let cm = cost_more wants n s t.boxes k here c nx hull w in
          let cn = cost_none wants n s t.boxes k here c nx hull w grows r off in
          omega (arith, cm, cn);
      looks_is = omega (arith, vm);
    }

neither : (a b : Bool) → (a || b) ≡ false → (a ≡ false) × (b ≡ false)
neither true b h = cc
neither false b h = (refl, h)

module _ (t : Document) (apart : IsApart same_key t.boxes) (k : BoxKey) (d : Item) (low rest : BoxForest)
    (is : starting_at same_key k t.boxes ≡ tree k d low rest) where
  next : from_some same_key (head rest) t.boxes ≡ rest
  next = from_next same_key same_key-sound same_key-refl t.boxes low rest k k d apart is

  onward : Onward t.boxes k (box_data k d) (head low) (head rest) (hull_at d low)
  onward = record {
    item = d;
    below = low;
    rest = rest;
    is = is;
    data_is = refl;
    child = from_child same_key same_key-sound same_key-refl t.boxes low rest k k d apart is;
    next = next;
    child_first = refl;
    next_first = refl;
    hull_is = refl;
  }

  fewer : size (from_some same_key (head rest) t.boxes) ≤ size (starting_at same_key k t.boxes)
  fewer =
      let a : size (from_some same_key (head rest) t.boxes) ≡ size rest = ap size next in
      let b : size (starting_at same_key k t.boxes) ≡ 1 + (size low + size rest) = ap size is in
      omega (arith, a, b)

  -- A box without a mark is passed over.
  pub marks_on : (first : Option BoxKey) (looks0 looks : ℕ) → is_marked d low ≡ false → PassesMarks t first (Some k) looks0 looks
      → PassesMarks t first (head rest) looks0 (looks + 1)
  marks_on first looks0 looks off p =
      let n = neither d.touched (any_touched low) off in
      let lm : looks_below leads_to_touched (starting_at same_key k t.boxes) ≡ 1 + looks_below leads_to_touched (from_some same_key (head rest) t.boxes) =
      rw (is, next, n.1) refl in
      let f = fewer in
      let here : marks_from (Some k) t ≡ 0 + (touched_in low + touched_in rest) = ap touched_in is ∙ rw n.0 refl in
      let under = no_marks low n.1 in
      let later : marks_from (head rest) t ≡ touched_in rest = ap touched_in next in
      record {
        fewer = omega (arith, f, p.fewer);
        marks = omega (arith, here, under, later, p.marks);
        shows = λ s x y. rw (next, is, n.0, none_shows (below s (box_data k d)) low x y n.1) refl ∙ p.shows s x y;
        looks_is = omega (arith, lm, p.looks_is);
      }

  -- A box in whose hull nothing is wanted is passed over.
  module _ (wants : Rectangle → Bool) (grows : (a b : Rectangle) → IsWithin a b → IsTrue (wants a) → IsTrue (wants b)) where
    pub wanted_on : (first : Option BoxKey) (looks0 looks : ℕ) → wants (hull_at d low) ≡ false → PassesWanted wants t first (Some k) looks0 looks
        → PassesWanted wants t first (head rest) looks0 (looks + 1)
    wanted_on first looks0 looks off p =
        wanted_then wants t first (Some k) (head rest) looks0 looks (looks + 1) p
        (wanted_over wants t grows k (box_data k d) (head low) (head rest) (hull_at d low) onward off looks)

-- what does not reach into the frame is not wanted
off_frame : (wants : Rectangle → Bool) (frame r : Rectangle) → (wants r ≡ true → reaches frame r ≡ true) → reaches frame r ≡ false → wants r ≡ false
off_frame wants frame r h off = by (wants r) refl where
  by : (b : Bool) → wants r ≡ b → wants r ≡ false
  by true e = cc (h e, off)
  by false e = e

-- The search for a mark,
pub sought_marks : (t : Document) (first : Option BoxKey) (looks : ℕ) → IsApart same_key t.boxes → first ≡ head (from_some same_key first t.boxes)
    → Sought (λ o l. PassesMarks t first o looks l) t.boxes (siblings_from is_marked (from_some same_key first t.boxes))
    (looks + looks_until is_marked (from_some same_key first t.boxes))
sought_marks t first looks apart live =
    seek is_marked (λ o l. PassesMarks t first o looks l) t.boxes apart (λ k d low rest l is off p. marks_on t apart k d low rest is first looks l off p)
    (from_some same_key first t.boxes) first looks refl live (marks_begin t first looks)

-- and for a hull that reaches into the frame of what is wanted.
pub sought_near : (wants : Rectangle → Bool) (frame : Rectangle) (t : Document) (first : Option BoxKey) (looks : ℕ)
    → ((a b : Rectangle) → IsWithin a b → IsTrue (wants a) → IsTrue (wants b)) → ((r : Rectangle) → wants r ≡ true → reaches frame r ≡ true)
    → IsApart same_key t.boxes → first ≡ head (from_some same_key first t.boxes)
    → Sought (λ o l. PassesWanted wants t first o looks l) t.boxes (siblings_from (hull_reaches frame) (from_some same_key first t.boxes))
    (looks + looks_until (hull_reaches frame) (from_some same_key first t.boxes))
sought_near wants frame t first looks grows framed apart live =
    seek (hull_reaches frame) (λ o l. PassesWanted wants t first o looks l) t.boxes apart
    (λ k d low rest l is off p. wanted_on t apart k d low rest is wants grows first looks l (off_frame wants frame (hull_at d low) (framed (hull_at d low)) off) p)
    (from_some same_key first t.boxes) first looks refl live (wanted_begin wants t first looks)

-- A view of the next box with a mark,
pub next_marked_is : (t : Document) (first : Option BoxKey) (v : BoxView) (w : BoxLook) (looks0 looks : ℕ) → IsApart same_key t.boxes → AllNear t.boxes
    → w ≡ looked_of v → Found (λ o l. PassesMarks t first o looks0 l) t.root t.boxes (told v) looks → IsNextMarked t first w looks0 looks
next_marked_is t first v w looks0 looks apart fits e f = subst (λ z. IsNextMarked t first z looks0 looks) (sym e) (record {
  key = f.key;
  before = f.before;
  passed = f.passed;
  told = going.onward t.root t.boxes f.key (told v) _ apart f.seen refl;
  marks = marks_told t.root (starting_at same_key f.key t.boxes) (told v) f.seen;
  fits = walk.placed t.root t.boxes f.key (told v) apart fits f.seen;
  cost = f.cost;
})

-- and of the next one that is near.
pub next_near_is : (wants : Rectangle → Bool) (t : Document) (first : Option BoxKey) (v : BoxView) (w : BoxLook) (looks0 looks : ℕ) → IsApart same_key t.boxes
    → AllNear t.boxes → w ≡ looked_of v → Found (λ o l. PassesWanted wants t first o looks0 l) t.root t.boxes (told v) looks
    → IsNextNear wants t first w looks0 looks
next_near_is wants t first v w looks0 looks apart fits e f = subst (λ z. IsNextNear wants t first z looks0 looks) (sym e) (record {
  key = f.key;
  before = f.before;
  passed = f.passed;
  told = going.onward t.root t.boxes f.key (told v) _ apart f.seen refl;
  fits = walk.placed t.root t.boxes f.key (told v) apart fits f.seen;
  low = going.low_first t.root t.boxes f.key (told v) apart f.seen;
  cost = f.cost;
})

-- A look that is near, and the search from it on.
pub near_on : (wants : Rectangle → Bool) (t : Document) (first at : Option BoxKey) (v : BoxLook) (looks0 looks looks1 : ℕ)
    → ((a b : Rectangle) → IsWithin a b → IsTrue (wants a) → IsTrue (wants b)) → wants v.hull ≡ false → PassesWanted wants t first at looks0 looks
    → IsNextNear wants t at v looks looks1 → PassesWanted wants t first v.next_sibling looks0 looks1
near_on wants t first at v looks0 looks looks1 grows off p n =
    wanted_then wants t first (Some n.key) v.next_sibling looks0 n.before looks1 (wanted_then wants t first at (Some n.key) looks0 looks n.before p n.passed)
    (subst (λ l. PassesWanted wants t (Some n.key) v.next_sibling n.before l) (sym n.cost) (wanted_over wants t grows n.key (here_of v) v.first_child
    v.next_sibling v.hull n.told off n.before))

-- The walk to touched boxes keeps what it has added.
pub added_over : (s : Inherited) (t : Document) (first : BoxForest) (at to : Option BoxKey) (before now : Region) (looks0 looks looks1 : ℕ)
    → Added s first (from_some same_key at t.boxes) before now looks0 looks → PassesMarks t at to looks looks1
    → Added s first (from_some same_key to t.boxes) before now looks0 looks1
added_over s t first at to before now looks0 looks looks1 j p = record {
  fewer = omega (arith, p.fewer, j.fewer);
  then = λ c n. j.then c (joins_same (touched_shows s (from_some same_key to t.boxes)) (touched_shows s (from_some same_key at t.boxes)) now c (p.shows s) n);
  looks_is = omega (arith, p.looks_is, j.looks_is);
}

-- The pass keeps what it has dropped.
pub kept_over : (wants : Rectangle → Bool) (n : ℕ) (s : Inherited) (t : Document) (first : BoxForest) (at to : Option BoxKey) (before now : ContextLists Made)
    (made0 made looks0 looks looks1 : ℕ) → s.root ≡ false → Kept wants n s t.boxes first (from_some same_key at t.boxes) before now made0 made looks0 looks
    → PassesWanted wants t at to looks looks1 → Kept wants n s t.boxes first (from_some same_key to t.boxes) before now made0 made looks0 looks1
kept_over wants n s t first at to before now made0 made looks0 looks looks1 r j p = record {
  fewer = omega (arith, p.fewer, j.fewer);
  list = ap (λ z. now ⊕ z) (p.gives n s r) ∙ j.list;
  made_is = omega (arith, p.made n s r, j.made_is);
  looks_is = omega (arith, p.looks_is, j.looks_is);
}
