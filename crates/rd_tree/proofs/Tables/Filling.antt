-- The rows of boxes, one sibling after the other.
use Rattle.std.proofs.Common.{◌≡◌, refl, ap, ◌∙◌, sym, subst, ℕ, ◌+◌, ◌<◌, ◌≤◌, Bool, true, false, ◌||◌, ◌&&◌, not, cond, List, length, arith}
use Rattle.std.specs.Prelude.{Option, Some, None, is_some}
use Rattle.rd_geom.specs.Plane.{hull_of}
use Rattle.rd_geom.proofs.Hulls.{normal, normal_hull, hull_assoc, hull_none, none_hull}
use Rattle.rd_keys.specs.Keys.{same_key}
use Rattle.rd_keys.specs.Arena.{Arena}
use Rattle.rd_keys.proofs.Keys.{same_key-sound, same_key-refl}
use Rattle.rd_tree.specs.declared.node.Node as inner
use Rattle.rd_tree.specs.declared.table.row.Summary.{Summary}
use Rattle.rd_tree.specs.declared.table.fill.SiblingSums.{SiblingSums}
use Rattle.rd_tree.specs.Forest.{empty, tree, size, has}
use Rattle.rd_tree.specs.Internal.Links.{child_and_sibling}
use Rattle.rd_tree.specs.Document.{BoxKey, BoxForest}
use Rattle.rd_tree.specs.Drawn.{AllNear}
use Rattle.rd_tree.specs.Internal.Linked.{linked, IsRead, seen_from}
use Rattle.rd_tree.specs.Internal.Summaries.{summary_of, summary_at}
use Rattle.rd_tree.specs.Hulls.{breadth, hull_in, extent, touched_in}
use Rattle.rd_tree.specs.Internal.Rows.{HasRows, IsFitAt, Puts, extent_under, touched_under}
use Rattle.rd_tree.specs.Internal.Gathers.{Gathers, gathered_in, row_over}
use Rattle.rd_tree.proofs.Linking.Standing.{from_left, from_right, differs, apart_back}
use Rattle.rd_tree.proofs.Nodes.Works.{Here, here, seen_read, flip}
use Rattle.rd_tree.proofs.Tables.Above.{puts_at}
use Rattle.rd_tree.proofs.Tables.Siblings.{nothing_seen}

breadth_size : (f : BoxForest) → breadth f ≤ size f
breadth_size empty = omega arith
breadth_size (tree k d below rest) = omega (arith, breadth_size rest)

touched_size : (f : BoxForest) → touched_in f ≤ size f
touched_size empty = omega arith
touched_size (tree k d below rest) = one d.touched (touched_size below) (touched_size rest) where
  one : (b : Bool) {x y m n : ℕ} → x ≤ m → y ≤ n → cond b 1 0 + (x + y) ≤ 1 + (m + n)
  one true u v = omega arith
  one false u v = omega arith

hull_in_normal : (f : BoxForest) → normal (hull_in f) ≡ hull_in f
hull_in_normal empty = refl
hull_in_normal (tree k d below rest) = normal_hull (hull_of (extent d) (hull_in below)) (hull_in rest)

-- The loop has written the rows of those boxes that are told from the first one on, and no more from this one on.
pub record Filled (a : Arena inner.Node) (old new : List Summary) (first at : Option BoxKey) (all : SiblingSums) : Type 0 where
  pub read : IsRead a at
  pub fits : AllNear (seen_from a at)
  pub has_rows : HasRows old (seen_from a at)
  pub within : (j : BoxKey) → has same_key j (seen_from a at) ≡ true → has same_key j (seen_from a first) ≡ true
  pub later : (j : BoxKey) → has same_key j (seen_from a at) ≡ true → summary_of j (seen_from a first) ≡ summary_of j (seen_from a at)
  pub smaller : size (seen_from a at) ≤ size (seen_from a first)
  pub least : size (seen_from a first) ≤ a.limit
  pub broad : all.breadth + breadth (seen_from a at) ≡ breadth (seen_from a first)
  pub touched : all.touched + touched_in (seen_from a at) ≡ touched_in (seen_from a first)
  pub sum : hull_of all.hull (hull_in (seen_from a at)) ≡ hull_in (seen_from a first)
  pub hull : normal all.hull ≡ all.hull
  pub rows : (k : BoxKey) → is_some (linked a k) ≡ true → summary_at new k ≡ cond (has same_key k (seen_from a first) && not (has same_key k (seen_from a
      at))) (summary_of k (seen_from a first)) (summary_at old k)
  pub same_length : length new ≡ length old

pub filled_begun : (a : Arena inner.Node) (old : List Summary) (first : Option BoxKey) → IsRead a first → AllNear (seen_from a first) → HasRows old
    (seen_from a first) → Filled a old old first first (gathered_in empty)
filled_begun a old first r f h = record {
  read = r;
  fits = f;
  has_rows = h;
  within = λ j u. u;
  later = λ j u. refl;
  smaller = omega arith;
  least = omega (arith, r.small, ap size (seen_read a first r));
  broad = omega arith;
  touched = omega arith;
  sum = none_hull (hull_in (seen_from a first)) ∙ hull_in_normal (seen_from a first);
  hull = refl;
  rows = λ k u. none (has same_key k (seen_from a first)) (summary_of k (seen_from a first)) (summary_at old k);
  same_length = refl;
} where
  none : {A : Type 0} (b : Bool) (x y : A) → y ≡ cond (b && not b) x y
  none true x y = refl
  none false x y = refl

same_gathered : (x y : SiblingSums) → x.breadth ≡ y.breadth → x.touched ≡ y.touched → x.hull ≡ y.hull → x ≡ y
same_gathered x y b t h = rw (sym b, sym t, sym h) refl

pub filled_told : (a : Arena inner.Node) (old new : List Summary) (first : Option BoxKey) (all : SiblingSums) → Filled a old new first None all → all
    ≡ gathered_in (seen_from a first)
filled_told a old new first all w =
    let b : breadth (seen_from a None) ≡ 0 = ap breadth (nothing_seen a) in
    let t : touched_in (seen_from a None) ≡ 0 = ap touched_in (nothing_seen a) in
    same_gathered all (gathered_in (seen_from a first)) (omega (arith, w.broad, b)) (omega (arith, w.touched, t)) (sym w.hull ∙ (sym (hull_none all.hull)
    ∙ (ap (λ f. hull_of all.hull (hull_in f)) (sym (nothing_seen a)) ∙ w.sum)))

pub filled_rows : (a : Arena inner.Node) (old new : List Summary) (first : Option BoxKey) (all : SiblingSums) → Filled a old new first None all
    → Gathers a old new (seen_from a first)
filled_rows a old new first all w k u =
    w.rows k u ∙ (ap (λ f. cond (has same_key k (seen_from a first) && not (has same_key k f)) (summary_of k (seen_from a first)) (summary_at old k))
    (nothing_seen a) ∙ every (has same_key k (seen_from a first)) (summary_of k (seen_from a first)) (summary_at old k)) where
      every : {A : Type 0} (b : Bool) (x y : A) → cond (b && not false) x y ≡ cond b x y
      every true x y = refl
      every false x y = refl

-- What is under a key once its row is written, after those below it.
pub written : {A : Type 0} (kj jk low rest f : Bool) (row own lows olds firsts : A) → kj ≡ jk → (jk ≡ true → low ≡ false) → (jk ≡ true → rest ≡ false)
    → (low ≡ true → rest ≡ false) → ((jk || (low || rest)) ≡ true → f ≡ true) →
    (kj ≡ true → row ≡ firsts) → (low ≡ true → lows ≡ firsts) →
    cond kj row (cond low lows (cond (f && not (jk || (low || rest))) firsts olds)) ≡ cond (f && not rest) firsts olds
written true true low rest f row own lows olds firsts s p q r i u v = rw (q refl, i refl) (u refl)
written true false low rest f row own lows olds firsts s p q r i u v = cc (s)
written false true low rest f row own lows olds firsts s p q r i u v = cc (s)
written false false true rest f row own lows olds firsts s p q r i u v = rw (r refl, i refl) (v refl)
written false false false true f row own lows olds firsts s p q r i u v = refl
written false false false false f row own lows olds firsts s p q r i u v = refl

-- What is known before the rows below a box are written.
pub record BelowFill (a : Arena inner.Node) (rows : List Summary) (first : Option BoxKey) (k : BoxKey) (x : Option BoxKey) : Type 0 where
  pub smaller : size (seen_from a x) < size (seen_from a first)
  pub read : IsRead a x
  pub has_rows : HasRows rows (seen_from a x)
  pub fits : AllNear (seen_from a x)
  pub here : k.slot < length rows
  pub fit_here : IsFitAt (linked a k)

module _ (a : Arena inner.Node) (old new : List Summary) (first : Option BoxKey) (k : BoxKey) (all : SiblingSums) (w : Filled a old new first (Some k) all)
    (x z : Option BoxKey) (e : (x, z) ≡ child_and_sibling (linked a k)) where
  h : Here a k
  h = here a k w.read

  low_is : x ≡ h.x
  low_is = ap (λ o. o.0) e ∙ ap (λ o. (child_and_sibling o).0) h.found

  next_is : z ≡ h.z
  next_is = ap (λ o. o.1) e ∙ ap (λ o. (child_and_sibling o).1) h.found

  read_low : IsRead a h.x
  read_low = record { boxes = h.below; up = Some k; prev = None; last = h.y; stands = h.low; apart = h.apart.3; small = omega (arith, h.small) }

  read_next : IsRead a h.z
  read_next = record { boxes = h.rest; up = h.up; prev = Some k; last = h.last; stands = h.later; apart = h.apart.4; small = omega (arith, h.small) }

  seen_low : seen_from a x ≡ h.below
  unfolding h read_low
  seen_low = ap (seen_from a) low_is ∙ seen_read a h.x read_low

  seen_next : seen_from a z ≡ h.rest
  unfolding h read_next
  seen_next = ap (seen_from a) next_is ∙ seen_read a h.z read_next

  has_here : (j : BoxKey) → has same_key j (seen_from a (Some k)) ≡ (same_key j k || (has same_key j h.below || has same_key j h.rest))
  has_here j = ap (has same_key j) h.seen

  fit_here : AllNear (tree k h.item h.below h.rest)
  fit_here = subst AllNear h.seen w.fits

  pub below_fill : BelowFill a new first k x
  below_fill =
      let n : size (seen_from a (Some k)) ≡ 1 + (size h.below + size h.rest) = ap size h.seen in
      let m : size (seen_from a x) ≡ size h.below = ap size seen_low in
      record {
        smaller = omega (arith, n, m, w.smaller);
        read = subst (λ o. IsRead a o) (sym low_is) read_low;
        has_rows = λ j u. omega (
          arith,
          w.same_length,
          w.has_rows j (has_here j ∙ from_right (same_key j k) (has same_key j h.below || has same_key j
              h.rest) (from_left (has same_key j h.below) (has same_key j h.rest) (sym (ap (has same_key j) seen_low) ∙ u))),
        );
        fits = subst AllNear (sym seen_low) fit_here.2;
        here = omega (
          arith,
          w.same_length,
          w.has_rows k (has_here k ∙ from_left (same_key k k) (has same_key k h.below || has same_key k h.rest)
              (same_key-refl k)),
        );
        fit_here = subst IsFitAt (sym h.found) (fit_here.0, fit_here.1);
      }

  -- what is told of a box among the later siblings, and of one below
  near_later : (j : BoxKey) → has same_key j h.rest ≡ true → summary_of j (tree k h.item h.below h.rest) ≡ summary_of j h.rest
  near_later j u =
      let n : same_key j k ≡ false = differs same_key same_key-sound same_key-refl h.rest j k u h.apart.1 in
      let o : has same_key j h.below ≡ false = apart_back same_key same_key-sound same_key-refl h.below h.rest h.apart.2 j u in
      rw (n, o) refl

  near_low : (j : BoxKey) → has same_key j h.below ≡ true → summary_of j (tree k h.item h.below h.rest) ≡ summary_of j h.below
  near_low j u =
      let n : same_key j k ≡ false = differs same_key same_key-sound same_key-refl h.below j k u h.apart.0 in
      rw (n, u) refl

  near_here : summary_of k (tree k h.item h.below h.rest) ≡ row_over (extent h.item) (gathered_in h.below)
  near_here = rw (same_key-refl k) refl

  near_first_is : (j : BoxKey) → has same_key j (tree k h.item h.below h.rest) ≡ true → summary_of j (seen_from a first) ≡ summary_of j (tree k h.item
      h.below h.rest)
  near_first_is j u = w.later j (has_here j ∙ u) ∙ ap (summary_of j) h.seen

  pub record FillNext (low : SiblingSums) : Type 0 where
    pub few : all.breadth + 1 ≤ a.limit
    pub few_touched : all.touched + (touched_under (linked a k) + low.touched) ≤ a.limit
    pub less : size (seen_from a z) < size (seen_from a (Some k))
    pub next : (new1 new2 : List Summary) (all2 : SiblingSums) → Gathers a new new1 (seen_from a x) → length new1 ≡ length new → Puts new1 new2 k (row_over
        (extent_under (linked a k)) low) → length new2 ≡ length new1 →
        all2.breadth ≡ all.breadth + 1 → all2.touched ≡ all.touched + (touched_under (linked a k) + low.touched) → all2.hull ≡ hull_of all.hull (row_over
        (extent_under (linked a k)) low).hull → Filled a old new2 first z all2

  pub fill_next : (low : SiblingSums) → low ≡ gathered_in (seen_from a x) → FillNext low
  fill_next low is =
      let n : size (seen_from a (Some k)) ≡ 1 + (size h.below + size h.rest) = ap size h.seen in
      let m : size (seen_from a z) ≡ size h.rest = ap size seen_next in
      let b : breadth (seen_from a (Some k)) ≡ 1 + breadth h.rest = ap breadth h.seen in
      let bz : breadth (seen_from a z) ≡ breadth h.rest = ap breadth seen_next in
      let own : touched_under (linked a k) ≡ cond h.item.touched 1 0 = ap touched_under h.found in
      let low_is2 : low ≡ gathered_in h.below = is ∙ ap gathered_in seen_low in
      let lt : low.touched ≡ touched_in h.below = ap (λ g. g.touched) low_is2 in
      let t0 : touched_in (seen_from a (Some k)) ≡ cond h.item.touched 1 0 + (touched_in h.below + touched_in h.rest) = ap touched_in h.seen in
      let t : touched_in (seen_from a (Some k)) ≡ touched_under (linked a k) + (low.touched + touched_in h.rest) = t0 ∙ rw (own, lt) refl in
      let tz : touched_in (seen_from a z) ≡ touched_in h.rest = ap touched_in seen_next in
      let live : is_some (linked a k) ≡ true = ap is_some h.found in
      let row_is : row_over (extent_under (linked a k)) low ≡ row_over (extent h.item) (gathered_in h.below) = ap (λ o. row_over (extent_under o) low)
      h.found ∙ ap (row_over (extent h.item)) low_is2 in
      record {
        few = omega (arith, w.broad, b, breadth_size (seen_from a first), w.least);
        few_touched = omega (arith, w.touched, t, touched_size (seen_from a first), w.least);
        less = omega (arith, n, m);
        next = λ new1 new2 all2 g l1 p l2 e1 e2 e3. record {
          read = subst (λ o. IsRead a o) (sym next_is) read_next;
          fits = subst AllNear (sym seen_next) fit_here.3;
          has_rows = λ j u. w.has_rows j (has_here j ∙ from_right (same_key j k) (has same_key j h.below || has same_key j h.rest) (from_right
              (has same_key j h.below) (has same_key j h.rest) (sym (ap (has same_key j) seen_next) ∙ u)));
          within = λ j u. w.within j (has_here j ∙ from_right (same_key j k) (has same_key j h.below || has same_key j h.rest) (from_right (has same_key j
              h.below) (has same_key j h.rest) (sym (ap (has same_key j) seen_next) ∙ u)));
          later = λ j u.
              let v : has same_key j h.rest ≡ true = sym (ap (has same_key j) seen_next) ∙ u in
              near_first_is j (from_right (same_key j k) (has same_key j h.below || has same_key j h.rest) (from_right (has same_key j h.below)
              (has same_key j h.rest) v)) ∙ (near_later j v ∙ ap (summary_of j) (sym seen_next));
          smaller = omega (arith, n, m, w.smaller);
          least = w.least;
          broad = omega (arith, w.broad, b, bz, e1);
          touched = omega (arith, w.touched, t, tz, e2);
          sum = ap (λ r. hull_of r (hull_in (seen_from a z))) e3
              ∙ (ap (λ r. hull_of (hull_of all.hull r.hull) (hull_in (seen_from a z))) row_is
              ∙ (ap (λ f. hull_of (hull_of all.hull (hull_of (extent h.item) (hull_in h.below))) (hull_in f)) seen_next
              ∙ (hull_assoc all.hull (hull_of (extent h.item) (hull_in h.below)) (hull_in h.rest)
              ∙ (ap (λ f. hull_of all.hull (hull_in f)) (sym h.seen) ∙ w.sum))));
          hull = ap normal e3 ∙ (normal_hull all.hull (row_over (extent_under (linked a k)) low).hull ∙ sym e3);
          rows = λ j u.
              let one : summary_at new2 j ≡ cond (same_key k j) (row_over (extent_under (linked a k)) low) (summary_at new1 j) = puts_at a new1 new2 k
              (row_over (extent_under (linked a k)) low) p live j u in
              let two : summary_at new1 j ≡ cond (has same_key j h.below) (summary_of j h.below) (summary_at new j) = g j u ∙ ap (λ f. cond (has same_key j
              f) (summary_of j f) (summary_at new j)) seen_low in
              let three : summary_at new j ≡ cond (has same_key j (seen_from a first) && not (same_key j k || (has same_key j h.below || has same_key j
              h.rest))) (summary_of j (seen_from a first)) (summary_at old j) =
              w.rows j u ∙ ap (λ c. cond (has same_key j (seen_from a first) && not c) (summary_of j (seen_from a first)) (summary_at old j)) (has_here j) in
              let in_k : (i : BoxKey) → same_key i k ≡ true → i ≡ k = λ i v. same_key-sound i k v in
              one ∙ (ap (λ r. cond (same_key k j) (row_over (extent_under (linked a k)) low) r) (two ∙ ap (λ r. cond (has same_key j h.below) (summary_of j
              h.below) r) three)
              ∙ (written (same_key k j) (same_key j k) (has same_key j h.below) (has same_key j h.rest) (has same_key j (seen_from a first)) (row_over
              (extent_under (linked a k)) low) (summary_at new1 j) (summary_of j h.below) (summary_at old j) (summary_of j (seen_from a first))
              (flip k j)
              (λ v. subst (λ i. has same_key i h.below ≡ false) (sym (in_k j v)) h.apart.0)
              (λ v. subst (λ i. has same_key i h.rest ≡ false) (sym (in_k j v)) h.apart.1)
              (λ v. h.apart.2 j v)
              (λ v. w.within j (has_here j ∙ v))
              (λ v. subst (λ i. row_over (extent_under (linked a k)) low ≡ summary_of i (seen_from a first)) (same_key-sound k j v) (row_is
              ∙ (sym near_here ∙ sym (near_first_is k (from_left (same_key k k) (has same_key k h.below || has same_key k h.rest) (same_key-refl k))))))
              (λ v. sym (near_low j v) ∙ sym (near_first_is j (from_right (same_key j k) (has same_key j h.below || has same_key j h.rest) (from_left
              (has same_key j h.below) (has same_key j h.rest) v))))
              ∙ ap (λ f. cond (has same_key j (seen_from a first) && not (has same_key j f)) (summary_of j (seen_from a first)) (summary_at old j))
              (sym seen_next)));
          same_length = l2 ∙ (l1 ∙ w.same_length);
        };
      }
