-- Stretches of places at which nothing goes and no predecessor does.
use Rattle.std.proofs.Common.{◌≡◌, refl, ◌∙◌, sym, subst, ℕ, zero, suc, ◌+◌, ◌-◌, ◌<◌, ◌≤◌, Bool, true, false, List, [], ◌∷◌, length, get_or, arith, inl, inr}
use Rattle.std.proofs.lemmas.Bool.{cases_lt}
use Rattle.std.proofs.lemmas.List.{append-nil}
use Rattle.rd_keys.specs.declared.entry.EntryKey.{EntryKey}
use Rattle.rd_graph.specs.Graphs.{Graph, nodes, IsInOrder}
use Rattle.rd_graph.specs.Gathered.{gathered}
use Rattle.rd_graph.specs.Names.{is_in, same_entry}
use Rattle.rd_graph.specs.Internal.Passes.{resolved, all_pushed}
use Rattle.rd_graph.specs.Patches.{AreRising}
use Rattle.rd_graph.specs.Internal.Relisting.{AreQuiet, IsAt, has_mark, is_late, some_gone}
use Rattle.rd_graph.specs.Internal.Walks.{IsMet}
use Rattle.rd_graph.proofs.Reaching.Calls.{once_of}
use Rattle.rd_graph.proofs.Lists.Entries.{in_has, same_entry-sound}
use Rattle.rd_graph.proofs.Patches.Late.{SoFar, name_at, nodes-count, one_node, so_next}
use Rattle.rd_graph.proofs.Patches.ListsAt.{get_same, is_at}
use Rattle.rd_graph.proofs.Lists.Listing.{Once, cases}
use Rattle.rd_graph.proofs.Patches.Marks.{gathered_place}
use Rattle.rd_graph.proofs.Lists.Rising.{any_of, once_place}

-- one more place
module _ {E : Type 0} (gone : E → Bool) (g : Graph E) where
  pub quiet_next : (from i : ℕ) (x : E × List E) → IsAt g i x → AreQuiet gone g from i → some_gone gone x.1 ≡ false → AreQuiet gone g from (i + 1)
  quiet_next from i x at_x was f k y h l m = elim (cases_lt k i) [
    | inl u ↦ was k y h l u
    | inr u ↦
        let e : i ≡ k = omega (arith, m, u) in
        subst (λ (z : E × List E). some_gone gone z.1 ≡ false) (one_node g k x y (subst (λ j. IsAt g j x) e at_x) h) f
  ]

  -- one stretch after another
  pub quiet_join : (from i to : ℕ) → AreQuiet gone g from i → AreQuiet gone g i to → AreQuiet gone g from to
  quiet_join from i to was more k y h l m = elim (cases_lt k i) [ inl u ↦ was k y h l u | inr u ↦ more k y h u m ]

-- names without their marks do not go
module _ (gone : EntryKey → Bool) (marks : List Bool) (are : (k : EntryKey) → gone k ≡ true → has_mark marks k ≡ true) where
  unmarked : (k : EntryKey) → has_mark marks k ≡ false → gone k ≡ false
  unmarked k f = elim (cases (gone k)) [ inl t ↦ absurd (let no : true ≡ false = sym (are k t) ∙ f in cc) | inr g ↦ g ]

  none_marked : (ks : List EntryKey) → some_gone (has_mark marks) ks ≡ false → some_gone gone ks ≡ false
  none_marked [] f = refl
  none_marked (k ∷ ks) f = elim (cases (has_mark marks k)) [
    | inl t ↦ let no : true ≡ false = rw t at f in absurd (cc)
    | inr u ↦
        let r : some_gone (has_mark marks) ks ≡ false = rw u at f in
        let v : gone k ≡ false = unmarked k u in
        rw v (none_marked ks r)
  ]

  pub quiet_where : (g : Graph EntryKey) (from to : ℕ) → AreQuiet (has_mark marks) g from to → AreQuiet gone g from to
  quiet_where g from to quiet k x h l m = none_marked x.1 (quiet k x h l m)

-- so many of some places are met at a place, and the others come after it
pub record HasMet (ps : List ℕ) (i met : ℕ) : Type 0 where
  pub past : (j : ℕ) → j < met → j < length ps → get_or ps j 0 ≤ i
  pub ahead : (j : ℕ) → met ≤ j → j < length ps → i < get_or ps j 0

beyond : (xs : List ℕ) (k d : ℕ) → length xs ≤ k → get_or xs k d ≡ d
beyond [] k d l = refl
beyond (x ∷ xs) zero d l = absurd (omega arith)
beyond (x ∷ xs) (suc k) d l = beyond xs k d (omega arith)

-- the next of the places, or else the count of all
pub next_within : (ps : List ℕ) (met n stop : ℕ) → ((j : ℕ) → j < length ps → get_or ps j 0 < n) → stop ≡ get_or ps met n → stop ≤ n
next_within ps met n stop within e = elim (cases_lt met (length ps)) [
  | inl l ↦ let w = within met l in let s = get_same ps met 0 n l in omega (arith, w, s, e)
  | inr l ↦ let o = beyond ps met n l in omega (arith, o, e)
]

pub next_after : (ps : List ℕ) (i met n stop : ℕ) → HasMet ps i met → i < n → stop ≡ get_or ps met n → i + 1 ≤ stop
next_after ps i met n stop has l e = elim (cases_lt met (length ps)) [
  | inl m ↦ let a = has.ahead met (omega arith) m in let s = get_same ps met 0 n m in omega (arith, a, s, e)
  | inr m ↦ let o = beyond ps met n m in omega (arith, o, e, l)
]

module _ (ps : List ℕ) (rising : AreRising ps) where
  least_from : (met j : ℕ) → met ≤ j → j < length ps → get_or ps met 0 ≤ get_or ps j 0
  least_from met j l q = elim (cases_lt met j) [
    | inl u ↦ let r = rising met j u q in omega (arith, r)
    | inr u ↦ let e : met ≡ j = omega (arith, l, u) in subst (λ (n : ℕ). get_or ps met 0 ≤ get_or ps n 0) e (omega arith)
  ]

  -- the first of the places
  pub met_first : (i n : ℕ) → i ≡ get_or ps 0 n → HasMet ps i 1
  met_first i n e = record {
    past = λ j l q.
        let s = get_same ps 0 0 n (omega (arith, l, q)) in
        let z : 0 ≡ j = omega (arith, l) in
        subst (λ (m : ℕ). get_or ps m 0 ≤ i) z (omega (arith, s, e));
    ahead = λ j l q.
        let s = get_same ps 0 0 n (omega (arith, l, q)) in
        let r = rising 0 j (omega (arith, l)) q in
        omega (arith, s, e, r);
  }

  -- the next one, or a place before it
  pub met_next : (i met next then n : ℕ) → HasMet ps i met → i < next → next ≤ get_or ps met n → IsMet ps met next then → HasMet ps next then
  met_next i met next then n has l m (inl u) = subst (λ (k : ℕ). HasMet ps next k) (sym u.0) record {
    past = λ j v q. let p = has.past j v q in omega (arith, p, l);
    ahead = λ j v q.
        let within : met < length ps = omega (arith, v, q) in
        let s = get_same ps met 0 n within in
        let p = least_from met j v q in
        elim (cases_lt next (get_or ps met 0)) [
          | inl w ↦ omega (arith, w, p)
          | inr w ↦ absurd (u.1 within (omega (arith, w, m, s)))
        ];
  }
  met_next i met next then n has l m (inr u) = subst (λ (k : ℕ). HasMet ps next k) (sym u.0) record {
    past = λ j v q. elim (cases_lt j met) [
      | inl w ↦ let p = has.past j w q in omega (arith, p, l)
      | inr w ↦
          let e : met ≡ j = omega (arith, v, w) in
          let t = u.2 in
          subst (λ (k : ℕ). get_or ps k 0 ≤ next) e (omega (arith, t))
    ];
    ahead = λ j v q.
        let r = rising met j (omega (arith, v)) q in
        let t = u.2 in
        omega (arith, r, t);
  }

  -- the nodes at the places go
  module _ (gone : EntryKey → Bool) (g : Graph EntryKey) (sound : IsInOrder g) (inside : (j : ℕ) → j < length ps → get_or ps j 0 < length g)
      (fits : (k : EntryKey) → gone k ≡ is_in same_entry (gathered ps (nodes g)) k) where
    place_of_gone : (i : ℕ) (x : EntryKey × List EntryKey) → IsAt g i x → gone x.0 ≡ true → (j : ℕ) × (j < length ps) × (get_or ps j 0 ≡ i)
    place_of_gone i x h t =
        let once : Once (nodes g) = once_of (nodes g) sound.once in
        let inside_names : (j : ℕ) → j < length ps → get_or ps j 0 < length (nodes g) = λ j l. subst (λ (m : ℕ). get_or ps j 0 < m) (sym (nodes-count g)) (inside j l) in
        let r = gathered_place ps (nodes g) x.0 inside_names (in_has same_entry same_entry-sound (gathered ps (nodes g)) x.0 (sym (fits x.0) ∙ t)) in
        let n = name_at g i x h in
        (r.0, r.1, once_place (nodes g) (get_or ps r.0 0) i x.0 once (inside_names r.0 r.1) n.0 r.2 (n.1 x.0))

    -- between one of the places and the next nothing goes
    pub stays_between : (i met n : ℕ) → HasMet ps i met → (k : ℕ) (x : EntryKey × List EntryKey) → IsAt g k x → i < k → k < get_or ps met n → gone x.0 ≡ false
    stays_between i met n has k x h l m = elim (cases (gone x.0)) [
      | inr f ↦ f
      | inl t ↦
          let r = place_of_gone k x h t in
          let q = r.1 in
          let e = r.2 in
          elim (cases_lt r.0 met) [
            | inl u ↦ let p = has.past r.0 u q in absurd (omega (arith, p, e, l))
            | inr u ↦
                let s = get_same ps met 0 n (omega (arith, u, q)) in
                let p = least_from met r.0 u q in
                absurd (omega (arith, p, e, m, s))
          ]
    ]

-- a stretch at which nothing goes and no predecessor does
module _ (gone : EntryKey → Bool) (g : Graph EntryKey) (sound : IsInOrder g) (notes : EntryKey → List EntryKey) (lists : List (ℕ × List EntryKey)) where
  so_over : (i : ℕ) (x : EntryKey × List EntryKey) → IsAt g i x → gone x.0 ≡ false → some_gone gone x.1 ≡ false → SoFar gone g notes lists i → SoFar gone g notes lists (i + 1)
  so_over i x at_x f none so =
      let late : is_late gone x ≡ false = rw (f, none) refl in
      so_next gone g sound i x at_x notes notes (all_pushed same_entry [] (resolved same_entry gone notes x.1)) lists lists so refl (λ k. rw f refl) (rw late (sym (append-nil lists)))

  so_skip : (count from : ℕ) → from + count ≤ length g → ((k : ℕ) (x : EntryKey × List EntryKey) → IsAt g k x → from ≤ k → k < from + count → gone x.0 ≡ false) → AreQuiet gone g from (from + count)
      → SoFar gone g notes lists from → SoFar gone g notes lists (from + count)
  so_skip zero from l stays quiet so = subst (λ (n : ℕ). SoFar gone g notes lists n) (let e : from ≡ from + 0 = omega arith in e) so
  so_skip (suc count) from l stays quiet so =
      let e : from + 1 + count ≡ from + suc count = omega arith in
      let x : EntryKey × List EntryKey = get_or g from (any_of g 0 (omega (arith, l))) in
      let h : IsAt g from x = is_at g from (any_of g 0 (omega (arith, l))) (omega (arith, l)) in
      subst (λ (n : ℕ). SoFar gone g notes lists n) e
      (so_skip count (from + 1) (omega (arith, l)) (λ k y i m n. stays k y i (omega (arith, m)) (omega (arith, n))) (λ k y i m n. quiet k y i (omega (arith, m)) (omega (arith, n)))
      (so_over from x h (stays from x h (omega arith) (omega arith)) (quiet from x h (omega arith) (omega arith)) so))

  pub so_to : (from to : ℕ) → from ≤ to → to ≤ length g → ((k : ℕ) (x : EntryKey × List EntryKey) → IsAt g k x → from ≤ k → k < to → gone x.0 ≡ false) → AreQuiet gone g from to
      → SoFar gone g notes lists from → SoFar gone g notes lists to
  so_to from to l m stays quiet so =
      let e : from + (to - from) ≡ to = omega (arith, l) in
      subst (λ (n : ℕ). SoFar gone g notes lists n) e
      (so_skip (to - from) from (omega (arith, e, m)) (λ k y i u v. stays k y i u (omega (arith, v, e))) (λ k y i u v. quiet k y i u (omega (arith, v, e))) so)
