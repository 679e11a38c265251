-- What a look among siblings tells of those that come after.
use Rattle.std.proofs.Common.{◌≡◌, refl, ap, ◌∙◌, sym, subst, Bool, true, false, ℕ, zero, suc, ◌+◌, ◌-◌, ◌<◌, ◌≤◌, List, arith}
use Rattle.std.specs.Prelude.{Option, Some, None, option_map, is_some, nat_lt}
use Rattle.std.specs.Option.{option_map_or}
use Rattle.rd_geom.specs.Plane.{Rectangle, hull_of}
use Rattle.rd_keys.specs.Keys.{same_key}
use Rattle.rd_keys.specs.Arena.{Arena, value}
use Rattle.rd_keys.proofs.Keys.{same_key-sound, same_key-refl}
use Rattle.rd_tree.specs.declared.node.Node as inner
use Rattle.rd_tree.specs.declared.glance.Glance.{Glance}
use Rattle.rd_tree.specs.declared.table.row.Summary.{Summary}
use Rattle.rd_tree.specs.Forest.{empty, tree, has, head, size, starting_at, from_some}
use Rattle.rd_tree.specs.Document.{BoxKey, Item, BoxForest}
use Rattle.rd_tree.specs.Hulls.{extent, hull_in, any_touched}
use Rattle.rd_tree.specs.Seeking.{siblings_from, looks_until, is_marked, reaches, hull_reaches}
use Rattle.rd_tree.specs.Internal.Glances.{glance_of}
use Rattle.rd_tree.specs.declared.shared.TheConstants.{PAGE}
use Rattle.rd_tree.specs.Internal.Calm.{place_on, IsCalmBox, Passes, Runs}
use Rattle.rd_tree.specs.Internal.Linked.{plain, linked, IsTree, seen}
use Rattle.rd_tree.specs.Internal.Rows.{IsTabled}
use Rattle.rd_tree.specs.Internal.Summaries.{row_at, summary_at, summary_of}
use Rattle.rd_tree.proofs.Linking.Standing.{refute, never}
use Rattle.rd_tree.proofs.Nodes.Grow.{seen_is, live_if_in}
use Rattle.rd_tree.proofs.Nodes.Looking.{Begins, begins, nothing_from, from_next, apart_seen}
use Rattle.rd_tree.proofs.Summaries.Sums.{any_touched-is}

-- What is read of a live key: its box, and where the boxes after it begin.
pub record Met (f : BoxForest) (k : BoxKey) (y : Glance) (row : Summary) : Type 0 where
  pub item : Item
  pub below : BoxForest
  pub rest : BoxForest
  pub is : starting_at same_key k f ≡ tree k item below rest
  pub alone : y.first ≡ head below
  pub after : y.next ≡ head rest
  pub next : from_some same_key y.next f ≡ rest
  pub touched : y.touched ≡ item.touched
  pub touched_below : nat_lt 0 row.touched ≡ any_touched below
  pub hull : row.hull ≡ hull_of (extent item) (hull_in below)

pub met : (a : Arena inner.Node) (root k : BoxKey) (y : Glance) (row : Summary) → IsTree a root
    → Some y ≡ option_map (glance_of k.generation) (value a k.slot k.generation)
    → (has same_key k (seen a root) ≡ true → row ≡ summary_of k (seen a root)) → Met (seen a root) k y row
met a root k y row t v table = at (value a k.slot k.generation) refl v where
  at : (o : Option inner.Node) → value a k.slot k.generation ≡ o → Some y ≡ option_map (glance_of k.generation) o → Met (seen a root) k y row
  at None h e = cc
  at (Some x) h e =
      let l : linked a k ≡ Some (plain x) = ap (option_map plain) h in
      let m : has same_key k t.boxes ≡ true = t.is.inside k (rw l refl) in
      let s : seen a root ≡ t.boxes = seen_is a root t in
      let b : Begins k (plain x) (starting_at same_key k t.boxes) = begins same_key same_key-sound same_key-refl (linked a) None None t.boxes (Some root)
      (Some root) k (plain x) t.is.apart t.is.stands m l in
      let is : starting_at same_key k (seen a root) ≡ tree k x.item b.below b.rest = ap (starting_at same_key k) s ∙ b.is in
      let r : row ≡ summary_of k (seen a root) = table (subst (λ f. has same_key k f ≡ true) (sym s) m) in
      let is_y : y ≡ glance_of k.generation x = cc in
      let own : (summary_of k (seen a root)).hull ≡ hull_of (extent x.item) (hull_in b.below) = rw is refl in
      let marks : nat_lt 0 (summary_of k (seen a root)).touched ≡ any_touched b.below = rw is (sym (any_touched-is b.below)) in
      record {
        item = x.item;
        below = b.below;
        rest = b.rest;
        is = is;
        alone = ap (λ z. z.first) is_y ∙ b.first;
        after = ap (λ z. z.next) is_y ∙ b.next;
        next = ap (λ z. from_some same_key z.next (seen a root)) is_y ∙ (ap (λ o. from_some same_key o (seen a root)) b.next
            ∙ from_next same_key same_key-sound same_key-refl (seen a root) b.below b.rest k k x.item (apart_seen a root t) is);
        touched = ap (λ z. z.touched) is_y;
        touched_below = ap (λ z. nat_lt 0 z.touched) r ∙ marks;
        hull = ap (λ z. z.hull) r ∙ own;
      }

-- Of a live key something is read.
pub glance_there : (a : Arena inner.Node) (k : BoxKey) → is_some (value a k.slot k.generation) ≡ true
    → (y : Glance) × (Some y ≡ option_map (glance_of k.generation) (value a k.slot k.generation))
glance_there a k l = at (value a k.slot k.generation) refl where
  at : (o : Option inner.Node) → value a k.slot k.generation ≡ o → (y : Glance) × (Some y ≡ option_map (glance_of k.generation) (value a k.slot k.generation))
  at None h =
      let none : false ≡ true = sym (ap is_some h) ∙ l in
      cc (none)
  at (Some x) h = (glance_of k.generation x, sym (ap (option_map (glance_of k.generation)) h))

-- From a key that is not live no box begins.
pub none_met : (a : Arena inner.Node) (root k : BoxKey) → IsTree a root → None ≡ value a k.slot k.generation → starting_at same_key k (seen a root) ≡ empty
none_met a root k t h =
    nothing_from same_key same_key-sound same_key-refl k (seen a root) (refute (has same_key k (seen a root)) (λ m. live_if_in a root k t m (sym h)))

-- A key, if there is one, is live.
abbrev pub IsLiveIfAny : Arena inner.Node → Option BoxKey → Type 0
IsLiveIfAny a o = option_map_or (λ k. is_some (value a k.slot k.generation)) o true ≡ true

-- From a first key that is not live no box begins.
pub dead_begins : (a : Arena inner.Node) (root : BoxKey) (first : Option BoxKey) → IsTree a root
    → option_map_or (λ k. is_some (value a k.slot k.generation)) first true ≡ false → from_some same_key first (seen a root) ≡ empty
dead_begins a root None t h = cc
dead_begins a root (Some k) t h = at (value a k.slot k.generation) refl where
  at : (o : Option inner.Node) → value a k.slot k.generation ≡ o → starting_at same_key k (seen a root) ≡ empty
  at None e = none_met a root k t (sym e)
  at (Some x) e = absurd (never (is_some (value a k.slot k.generation)) (ap is_some e) h)

-- A first key from which boxes begin is live,
pub live_first : (a : Arena inner.Node) (root : BoxKey) (first : Option BoxKey) → IsTree a root → first ≡ head (from_some same_key first (seen a root))
    → IsLiveIfAny a first
live_first a root None t e = refl
live_first a root (Some k) t e = at (value a k.slot k.generation) refl where
  at : (o : Option inner.Node) → value a k.slot k.generation ≡ o → is_some (value a k.slot k.generation) ≡ true
  at (Some x) h = ap is_some h
  at None h =
      let none : Some k ≡ None = e ∙ ap head (none_met a root k t (sym h)) in
      cc (none)

-- and boxes begin from one that is live.
pub first_live : (a : Arena inner.Node) (root : BoxKey) (first : Option BoxKey) → IsTree a root → IsLiveIfAny a first
    → first ≡ head (from_some same_key first (seen a root))
first_live a root None t l = refl
first_live a root (Some k) t l = at (value a k.slot k.generation) refl where
  at : (o : Option inner.Node) → value a k.slot k.generation ≡ o → Some k ≡ head (starting_at same_key k (seen a root))
  at None h =
      let none : false ≡ true = sym (ap is_some h) ∙ l in
      cc (none)
  at (Some x) h =
      let m : Met (seen a root) k (glance_of k.generation x) (summary_of k (seen a root)) = met a root k (glance_of k.generation x)
      (summary_of k (seen a root)) t (sym (ap (option_map (glance_of k.generation)) h)) (λ u. refl) in
      sym (ap head m.is)

-- The sibling after a box is live.
pub next_live : (a : Arena inner.Node) (root k : BoxKey) (y : Glance) (row : Summary) → IsTree a root → Met (seen a root) k y row → IsLiveIfAny a y.next
next_live a root k y row t m = at y.next refl where
  at : (o : Option BoxKey) → y.next ≡ o → IsLiveIfAny a o
  at None e = refl
  at (Some j) e = on (value a j.slot j.generation) refl where
    on : (o : Option inner.Node) → value a j.slot j.generation ≡ o → is_some (value a j.slot j.generation) ≡ true
    on (Some x) h = ap is_some h
    on None h =
        let gone : m.rest ≡ empty = sym m.next ∙ (ap (λ o. from_some same_key o (seen a root)) e ∙ none_met a root j t (sym h)) in
        let none : Some j ≡ None = sym e ∙ (m.after ∙ ap head gone) in
        cc (none)

-- What the search keeps: it comes to what it comes to from the first one on, and with as many looks.
pub record Seeks (test : Item → BoxForest → Bool) (f : BoxForest) (first at : Option BoxKey) (looks0 looks : ℕ) : Type 0 where
  pub to : siblings_from test (from_some same_key at f) ≡ siblings_from test (from_some same_key first f)
  pub cost : looks + looks_until test (from_some same_key at f) ≡ looks0 + looks_until test (from_some same_key first f)

pub seek_begins : (test : Item → BoxForest → Bool) (f : BoxForest) (first : Option BoxKey) (looks : ℕ) → Seeks test f first first looks looks
seek_begins test f first looks = record { to = refl; cost = refl }

module _ (test : Item → BoxForest → Bool) (f : BoxForest) (first at : Option BoxKey) (looks0 looks looks1 : ℕ) (w : Seeks test f first at looks0 looks) where
  -- One more is looked at, and passed over,
  pub seek_on : (k : BoxKey) (y : Glance) (row : Summary) (m : Met f k y row) → at ≡ Some k → test m.item m.below ≡ false → looks1 ≡ looks + 1
      → Seeks test f first y.next looks0 looks1
  seek_on k y row m e off c =
      let p : Seeks test f first (Some k) looks0 looks = subst (λ o. Seeks test f first o looks0 looks) e w in
      let here : siblings_from test (starting_at same_key k f) ≡ siblings_from test (from_some same_key y.next f) = rw (m.is, m.next, off) refl in
      let more : looks_until test (starting_at same_key k f) ≡ 1 + looks_until test (from_some same_key y.next f) = rw (m.is, m.next, off) refl in
      record { to = sym here ∙ p.to; cost = omega (arith, more, p.cost, c) }

  -- or it is the one,
  pub seek_found : (k : BoxKey) (y : Glance) (row : Summary) (m : Met f k y row) → at ≡ Some k → test m.item m.below ≡ true → looks1 ≡ looks + 1
      → (starting_at same_key k f ≡ siblings_from test (from_some same_key first f)) × (looks1 ≡ looks0 + looks_until test (from_some same_key first f))
  seek_found k y row m e on c =
      let p : Seeks test f first (Some k) looks0 looks = subst (λ o. Seeks test f first o looks0 looks) e w in
      let here : siblings_from test (starting_at same_key k f) ≡ starting_at same_key k f = rw (m.is, on) refl in
      let last : looks_until test (starting_at same_key k f) ≡ 1 = rw (m.is, on) refl in
      (sym here ∙ p.to, omega (arith, last, p.cost, c))

  -- or there is none.
  pub seek_ends : from_some same_key at f ≡ empty → (siblings_from test (from_some same_key first f) ≡ empty)
      × (looks ≡ looks0 + looks_until test (from_some same_key first f))
  seek_ends e =
      let none : siblings_from test (from_some same_key at f) ≡ empty = ap (siblings_from test) e in
      let last : looks_until test (from_some same_key at f) ≡ 0 = ap (looks_until test) e in
      (sym w.to ∙ none, omega (arith, last, w.cost))

  -- fewer come after
  pub seek_fewer : (k : BoxKey) (y : Glance) (row : Summary) (m : Met f k y row) → at ≡ Some k → size (from_some same_key y.next f) < size (from_some same_key at f)
  seek_fewer k y row m e =
      let s : size (from_some same_key at f) ≡ 1 + (size m.below + size m.rest) = ap (λ o. size (from_some same_key o f)) e ∙ rw m.is refl in
      let r : size (from_some same_key y.next f) ≡ size m.rest = ap size m.next in
      omega (arith, s, r)

-- What holds at first, and from one step to the next, holds after so many.
upto : (P : ℕ → Type 0) (n : ℕ) → P 0 → ((i : ℕ) → i < n → P i → P (suc i)) → P n
upto P zero z s = z
upto P (suc n) z s = s n (omega arith) (upto P n z (λ i l p. s i (omega (arith, l)) p))

-- no boxes begin with none
none_first : (f : BoxForest) → None ≡ head f → f ≡ empty
none_first empty e = refl
none_first (tree k d below rest) e = cc (e)

-- The search has passed so many boxes of a run.
pub record Passed (test : Item → BoxForest → Bool) (a : Arena inner.Node) (f : BoxForest) (first from to : Option BoxKey) (looks0 looks n : ℕ) : Type 0 where
  pub seeks : Seeks test f first to looks0 (looks + n)
  pub live : IsLiveIfAny a to
  pub fewer : size (from_some same_key to f) + n ≤ size (from_some same_key from f)

module _ (test : Item → BoxForest → Bool) (a : Arena inner.Node) (root : BoxKey) (t : IsTree a root) (first : Option BoxKey) (k : BoxKey) (looks0 looks : ℕ)
    (row : BoxKey → Summary) (table : (j : BoxKey) → has same_key j (seen a root) ≡ true → row j ≡ summary_of j (seen a root)) where
  -- what is read of a box of the run
  pub met_calm : (s : ℕ) (at to : Option BoxKey) (b : IsCalmBox a s at to) → Met (seen a root) b.key (glance_of b.key.generation b.node) (row b.key)
  met_calm s at to b = met a root b.key (glance_of b.key.generation b.node) (row b.key) t (sym (ap (option_map (glance_of b.key.generation)) b.found)) (table b.key)

  one_more : (i s : ℕ) (at to : Option BoxKey) (b : IsCalmBox a s at to) → test (met_calm s at to b).item (met_calm s at to b).below ≡ false
      → Passed test a (seen a root) first (Some k) at looks0 looks i → Passed test a (seen a root) first (Some k) to looks0 looks (suc i)
  one_more i s at to b off o =
      let y : Glance = glance_of b.key.generation b.node in
      let m : Met (seen a root) b.key y (row b.key) = met_calm s at to b in
      let on : Seeks test (seen a root) first y.next looks0 (looks + suc i) = seek_on test (seen a root) first at looks0 (looks + i) (looks + suc i) o.seeks b.key y
      (row b.key) m b.is off (omega arith) in
      let less : size (from_some same_key y.next (seen a root)) < size (from_some same_key at (seen a root)) = seek_fewer test (seen a root) first at looks0 (looks + i)
      (looks + suc i) o.seeks b.key y (row b.key) m b.is in
      subst (λ n. Passed test a (seen a root) first (Some k) n looks0 looks (suc i)) b.after (record {
        seeks = on;
        live = next_live a root b.key y (row b.key) t m;
        fewer = omega (arith, less, o.fewer);
      })

  -- Where so many boxes of a run fail the test, the search passes them.
  pub seek_over : (n : ℕ) → Seeks test (seen a root) first (Some k) looks0 looks → IsLiveIfAny a (Some k)
      → (each : (i : ℕ) → i < n → IsCalmBox a (k.slot + i) (place_on a k i) (place_on a k (suc i)))
      → ((i : ℕ) (u : i < n) → test (met_calm (k.slot + i) (place_on a k i) (place_on a k (suc i)) (each i u)).item
      (met_calm (k.slot + i) (place_on a k i) (place_on a k (suc i)) (each i u)).below ≡ false)
      → Passed test a (seen a root) first (Some k) (place_on a k n) looks0 looks n
  seek_over n w l each off =
      upto (λ i. Passed test a (seen a root) first (Some k) (place_on a k i) looks0 looks i) n (record {
        seeks = subst (λ m. Seeks test (seen a root) first (Some k) looks0 m) (omega arith) w;
        live = l;
        fewer = omega arith;
      }) (λ i u o. one_more i (k.slot + i) (place_on a k i) (place_on a k (suc i)) (each i u) (off i u) o)

-- No box of a run is marked.
unmarked_calm : (a : Arena inner.Node) (s : ℕ) (at to : Option BoxKey) (b : IsCalmBox a s at to) (f : BoxForest) (row : Summary)
    (m : Met f b.key (glance_of b.key.generation b.node) row) → is_marked m.item m.below ≡ false
unmarked_calm a s at to b f row m =
    let off : m.item.touched ≡ false = sym m.touched ∙ b.untouched in
    let none : m.below ≡ empty = none_first m.below (sym b.alone ∙ m.alone) in
    rw (off, none) refl

-- The search for a marked box passes a page.
pub pass_unmarked : (a : Arena inner.Node) (root : BoxKey) (first at to : Option BoxKey) (k : BoxKey) (looks0 looks : ℕ) → IsTree a root
    → Seeks is_marked (seen a root) first at looks0 looks → IsLiveIfAny a at → at ≡ Some k → Passes a k to
    → Passed is_marked a (seen a root) first at to looks0 looks PAGE
pass_unmarked a root first at to k looks0 looks t w l e p =
    let row : BoxKey → Summary = λ j. summary_of j (seen a root) in
    let r : Passed is_marked a (seen a root) first (Some k) (place_on a k PAGE) looks0 looks PAGE = seek_over is_marked a root t first k looks0 looks
    (λ j. summary_of j (seen a root)) (λ j h. refl) PAGE (subst (λ o. Seeks is_marked (seen a root) first o looks0 looks) e w) (subst (IsLiveIfAny a) e l) p.runs.each
    (λ i u. unmarked_calm a (k.slot + i) (place_on a k i) (place_on a k (suc i)) (p.runs.each i u) (seen a root) (summary_of (p.runs.each i u).key (seen a root))
    (met_calm is_marked a root t first k looks0 looks (λ j. summary_of j (seen a root)) (λ j h. refl) (k.slot + i) (place_on a k i) (place_on a k (suc i)) (p.runs.each i u))) in
    subst (λ o. Passed is_marked a (seen a root) first o to looks0 looks PAGE) (sym e)
    (subst (λ o. Passed is_marked a (seen a root) first (Some k) o looks0 looks PAGE) p.ends r)

module _ (r : Rectangle) (a : Arena inner.Node) (root : BoxKey) (rows : List Summary) (t : IsTree a root) (tab : IsTabled a rows (seen a root))
    (first at : Option BoxKey) (k : BoxKey) (looks0 looks run stop : ℕ) (w : Seeks (hull_reaches r) (seen a root) first at looks0 looks) (l : IsLiveIfAny a at)
    (e : at ≡ Some k) (p : Runs a k run) (o : k.slot ≤ stop) (u : stop ≤ k.slot + run)
    (apart : (s : ℕ) → k.slot ≤ s → s < stop → reaches r (row_at rows s).hull ≡ false) where
  abbrev far : ℕ
  far = stop - k.slot

  hull_here : (i : ℕ) (b : IsCalmBox a (k.slot + i) (place_on a k i) (place_on a k (suc i))) → (m : Met (seen a root) b.key (glance_of b.key.generation b.node) (summary_at rows b.key))
      → hull_reaches r m.item m.below ≡ reaches r (row_at rows (k.slot + i)).hull
  hull_here i b m = ap (reaches r) (sym m.hull) ∙ ap (λ s. reaches r (row_at rows s).hull) b.slot

  -- The search for a hull passes so many boxes of a run whose hulls do not reach,
  pub pass_apart : Passed (hull_reaches r) a (seen a root) first at (place_on a k far) looks0 looks far
  pass_apart =
      let all : far ≤ run = omega (arith, u) in
      let each : (i : ℕ) → i < far → IsCalmBox a (k.slot + i) (place_on a k i) (place_on a k (suc i)) = λ i v. p.each i (omega (arith, v, all)) in
      let q : Passed (hull_reaches r) a (seen a root) first (Some k) (place_on a k far) looks0 looks far = seek_over (hull_reaches r) a root t first k looks0 looks
      (summary_at rows) tab.right far (subst (λ o. Seeks (hull_reaches r) (seen a root) first o looks0 looks) e w) (subst (IsLiveIfAny a) e l) each
      (λ i v. hull_here i (each i v) (met_calm (hull_reaches r) a root t first k looks0 looks (summary_at rows) tab.right (k.slot + i) (place_on a k i)
      (place_on a k (suc i)) (each i v)) ∙ apart (k.slot + i) (omega arith) (omega (arith, v, o))) in
      subst (λ z. Passed (hull_reaches r) a (seen a root) first z (place_on a k far) looks0 looks far) (sym e) q

  -- and stops at one whose hull does.
  pub stop_there : stop < k.slot + run → reaches r (row_at rows stop).hull ≡ true → (looks1 : ℕ) → looks1 ≡ looks + far + 1
      → (from_some same_key (place_on a k far) (seen a root) ≡ siblings_from (hull_reaches r) (from_some same_key first (seen a root)))
      × (looks1 ≡ looks0 + looks_until (hull_reaches r) (from_some same_key first (seen a root)))
  stop_there v on looks1 c =
      let b : IsCalmBox a (k.slot + far) (place_on a k far) (place_on a k (suc far)) = p.each far (omega (arith, v, o)) in
      let n : k.slot + far ≡ stop = omega (arith, o) in
      let m : Met (seen a root) b.key (glance_of b.key.generation b.node) (summary_at rows b.key) = met_calm (hull_reaches r) a root t first k looks0 looks
      (summary_at rows) tab.right (k.slot + far) (place_on a k far) (place_on a k (suc far)) b in
      let hit : hull_reaches r m.item m.below ≡ true = hull_here far b m ∙ (ap (λ s. reaches r (row_at rows s).hull) n ∙ on) in
      let q = seek_found (hull_reaches r) (seen a root) first (place_on a k far) looks0 (looks + far) looks1 pass_apart.seeks b.key
      (glance_of b.key.generation b.node) (summary_at rows b.key) m b.is hit c in
      (ap (λ z. from_some same_key z (seen a root)) b.is ∙ q.0, q.1)
