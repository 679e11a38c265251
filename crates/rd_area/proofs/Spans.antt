use Rattle.std.proofs.Common.{◌≡◌, ℕ, zero, suc, ℤ, pos, ◌+◌, ◌-◌, ◌<◌, ◌≤◌, ◌≢◌, ◌⊎◌, inl, inr, List, [], ◌∷◌, map, set, get_or, length, Vec, vec_len, vec_capacity, IsTrue, IsFalse, arith, refl, sym, ◌∙◌, ap, subst, below_more}
use Rattle.std.specs.List.{insert}
use Rattle.std.specs.declared.alloc.Global.{Global}
use Rattle.rd_geom.specs.declared.span.Span.{Span}
use Rattle.rd_area.specs.Internal.Joining.{Joins, row_has, row_meets}
use Rattle.rd_area.specs.Rows.{IsRising}
use Rattle.rd_area.specs.Internal.Normal.{spans_of}
use Rattle.rd_area.specs.Internal.Room.{room_at}

abbrev pub Row : Type 0
Row = Vec Span Global

-- what a map of the rows has at the place that was written, and elsewhere
here : {X : Type 0} (f : Row → X) (d : X) (vs : List Row) (i : ℕ) (w : Row) → i < length vs → get_or (map f (set vs i w)) i d ≡ f w
here f d [] i w h = absurd (omega arith)
here f d (v ∷ vs) zero w h = refl
here f d (v ∷ vs) (suc i) w h = here f d vs i w (omega arith)

elsewhere : {X : Type 0} (f : Row → X) (d : X) (vs : List Row) (i : ℕ) (w : Row) (k : ℕ) → k ≢ i → get_or (map f (set vs i w)) k d ≡ get_or (map f vs) k d
elsewhere f d [] i w k n = refl
elsewhere f d (v ∷ vs) zero w zero n = absurd (n refl)
elsewhere f d (v ∷ vs) zero w (suc k) n = refl
elsewhere f d (v ∷ vs) (suc i) w zero n = refl
elsewhere f d (v ∷ vs) (suc i) w (suc k) n = elsewhere f d vs i w k (λ e. n (ap suc e))

pub at_place : {X : Type 0} (f : Row → X) (d : X) (vs : List Row) (i : ℕ) (v : Row) → i < length vs → v ≡ get_or vs i v → get_or (map f vs) i d ≡ f v
at_place f d [] i v h e = absurd (omega arith)
at_place f d (u ∷ us) zero v h e = ap f (sym e)
at_place f d (u ∷ us) (suc i) v h e = at_place f d us i v (omega arith) e

pub spans_same : (vs : List Row) (i : ℕ) (v w : Row) → i < length vs → v ≡ get_or vs i v → w.items ≡ v.items → spans_of (set vs i w) ≡ spans_of vs
spans_same [] i v w h e s = absurd (omega arith)
spans_same (u ∷ us) zero v w h e s = ap (λ x. x ∷ spans_of us) (s ∙ ap (λ x. x.items) e)
spans_same (u ∷ us) (suc i) v w h e s = ap (λ x. u.items ∷ x) (spans_same us i v w (omega arith) e s)

pub room_more : (vs : List Row) (i : ℕ) (w : Row) (from : ℕ) → i < length vs → vec_len w + 1 ≤ vec_capacity w
    → ((y : ℕ) → from ≤ y → y < i → 0 < room_at vs y) → (y : ℕ) → from ≤ y → y < i + 1 → 0 < room_at (set vs i w) y
room_more vs i w from h room below y a b =
    below_more (λ k. from ≤ k → 0 < room_at (set vs i w) k) i
    (λ k l f. let n : k ≢ i = omega arith in rw (elsewhere (λ r. vec_capacity r - vec_len r) 0 vs i w k n) (below k f l))
    (λ f. rw (here (λ r. vec_capacity r - vec_len r) 0 vs i w h) (omega arith))
    y b a

pub room_left : (vs : List Row) (i : ℕ) (w : Row) (to : ℕ) → ((y : ℕ) → i ≤ y → y < to → 0 < room_at vs y) → (y : ℕ) → i + 1 ≤ y → y < to
    → 0 < room_at (set vs i w) y
room_left vs i w to all y a b =
    let n : y ≢ i = omega arith in
    rw (elsewhere (λ r. vec_capacity r - vec_len r) 0 vs i w y n) (all y (omega arith) b)

pub has_room : (vs : List Row) (i : ℕ) (v : Row) → i < length vs → v ≡ get_or vs i v → 0 < room_at vs i → vec_len v < vec_capacity v
has_room vs i v h e room =
    let r = rw (at_place (λ r. vec_capacity r - vec_len r) 0 vs i v h e) at room in
    omega (arith, r)

pub others_more : (old vs : List Row) (i : ℕ) (w : Row) (from : ℕ) → from ≤ i → ((y : ℕ) → (y < from) ⊎ (i ≤ y) → get_or (spans_of vs) y []
    ≡ get_or (spans_of old) y [])
    → (y : ℕ) → (y < from) ⊎ (i + 1 ≤ y) → get_or (spans_of (set vs i w)) y [] ≡ get_or (spans_of old) y []
others_more old vs i w from f same y (inl l) = let n : y ≢ i = omega arith in elsewhere (λ r. r.items) [] vs i w y n ∙ same y (inl l)
others_more old vs i w from f same y (inr l) = let n : y ≢ i = omega arith in elsewhere (λ r. r.items) [] vs i w y n ∙ same y (inr (omega arith))

pub joined_more : (old vs : List Row) (i : ℕ) (v w : Row) (from : ℕ) (span : Span) → i < length vs → from ≤ i → v ≡ get_or vs i v
    → Joins v.items w.items span
    → ((y : ℕ) → (y < from) ⊎ (i ≤ y) → get_or (spans_of vs) y [] ≡ get_or (spans_of old) y [])
    → ((y : ℕ) → from ≤ y → y < i → Joins (get_or (spans_of old) y []) (get_or (spans_of vs) y []) span)
    → (y : ℕ) → from ≤ y → y < i + 1 → Joins (get_or (spans_of old) y []) (get_or (spans_of (set vs i w)) y []) span
joined_more old vs i v w from span h f e j same below y a b =
    below_more (λ k. from ≤ k → Joins (get_or (spans_of old) k []) (get_or (spans_of (set vs i w)) k []) span) i
    (λ k l g. let n : k ≢ i = omega arith in rw (elsewhere (λ r. r.items) [] vs i w k n) (below k g l))
    (λ g. let before : get_or (spans_of old) i [] ≡ v.items = sym (same i (inr (omega arith))) ∙ at_place (λ r. r.items) [] vs i v h e in
    rw (before, here (λ r. r.items) [] vs i w h) j)
    y b a

pub meets_more : (vs : List Row) (i : ℕ) (v : Row) (from : ℕ) (span : Span) → i < length vs → v ≡ get_or vs i v → IsFalse (row_meets v.items span)
    → ((y : ℕ) → from ≤ y → y < i → IsFalse (row_meets (get_or (spans_of vs) y []) span))
    → (y : ℕ) → from ≤ y → y < i + 1 → IsFalse (row_meets (get_or (spans_of vs) y []) span)
meets_more vs i v from span h e not_it below y a b =
    below_more (λ k. from ≤ k → IsFalse (row_meets (get_or (spans_of vs) k []) span)) i
    (λ k l g. below k g l)
    (λ g. rw (at_place (λ r. r.items) [] vs i v h e) not_it)
    y b a

pub rises_at : (vs : List Row) (i : ℕ) (v : Row) (w : ℤ) → i < length vs → v ≡ get_or vs i v → ((y : ℕ) → IsRising (pos 0) w (get_or (spans_of vs) y []))
    → IsRising (pos 0) w v.items
rises_at vs i v w h e r = subst (λ ss. IsRising (pos 0) w ss) (at_place (λ r. r.items) [] vs i v h e) (r i)

pub spans_inserted : (vs : List Row) (i : ℕ) (w : Row) → i ≤ length vs → spans_of (insert vs i w) ≡ insert (spans_of vs) i w.items
spans_inserted vs zero w h = refl
spans_inserted [] (suc i) w h = absurd (omega arith)
spans_inserted (v ∷ vs) (suc i) w h = ap (λ x. v.items ∷ x) (spans_inserted vs i w (omega arith))

pub has_more : (vs : List Row) (i : ℕ) (v : Row) (from : ℕ) (span : Span) → i < length vs → v ≡ get_or vs i v → IsTrue (row_has v.items span)
    → ((y : ℕ) → from ≤ y → y < i → IsTrue (row_has (get_or (spans_of vs) y []) span))
    → (y : ℕ) → from ≤ y → y < i + 1 → IsTrue (row_has (get_or (spans_of vs) y []) span)
has_more vs i v from span h e has below y a b =
    below_more (λ k. from ≤ k → IsTrue (row_has (get_or (spans_of vs) k []) span)) i
    (λ k l g. below k g l)
    (λ g. rw (at_place (λ r. r.items) [] vs i v h e) has)
    y b a
