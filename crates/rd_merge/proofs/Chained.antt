-- Names by their marks: the last at each mark, and the one before each at its mark.
use Rattle.std.proofs.Common.{◌≡◌, refl, ap, ◌∙◌, sym, subst, ℕ, zero, suc, ◌+◌, ◌-◌, ◌<◌, ◌≤◌, ◌==◌, Bool, true, false, List, [], ◌∷◌, ◌++◌, length, get_or, set, arith, inl, inr, Some, None}
use Rattle.std.proofs.lemmas.List.{get_or-set_same, get_or-set_other, get_or-append_right, get_or-map}
use Rattle.rd_keys.specs.declared.entry.EntryKey.{EntryKey}
use Rattle.rd_keys.specs.declared.entry.EntryKey.TheVariants as key
use Rattle.rd_graph.specs.Orders as spec
use Rattle.rd_graph.specs.Names.{place_of, same_entry}
use Rattle.rd_graph.proofs.Reaching.Calls.{once_of}
use Rattle.rd_graph.proofs.LinedUp.ChainPlaces.{get_left}
use Rattle.rd_graph.proofs.Lists.Entries.{place_has, place_some, same_entry-sound, same_entry-refl}
use Rattle.rd_graph.proofs.Lists.Listing.{cases, never}
use Rattle.rd_graph.proofs.Patches.ListsAt.{get_same, same_place, other_place, place_is}
use Rattle.rd_merge.specs.Internal.Sought.{AreChained, last_at, mark_count, mark_of, marks_of}

pub mark_small : (wide : Bool) (k : EntryKey) → mark_of wide k < mark_count wide
mark_small true (key.Leaf k p) = omega arith
mark_small true (key.Group k) = omega arith
mark_small false (key.Leaf k p) = omega arith
mark_small false (key.Group k) = omega arith

-- ---- the last name at a mark

module _ (marks : List ℕ) (m : ℕ) where
  last_here : (n : ℕ) → get_or marks n 0 ≡ m → last_at marks (suc n) m ≡ suc n
  last_here n e = let t = place_is (get_or marks n 0) m e in rw t refl

  last_within : (n : ℕ) → last_at marks n m ≤ n
  last_within zero = omega arith
  last_within (suc n) = elim (cases (get_or marks n 0 == m)) [ inl t ↦ rw t (omega arith) | inr f ↦ let r = last_within n in rw f (omega (arith, r)) ]

  last_there : (n p : ℕ) → last_at marks n m ≡ suc p → get_or marks p 0 ≡ m
  last_there zero p e = absurd (omega (arith, e))
  last_there (suc n) p e = elim (cases (get_or marks n 0 == m)) [
    | inl t ↦
        let q : suc n ≡ suc p = rw t at e in
        subst (λ (z : ℕ). get_or marks z 0 ≡ m) (omega (arith, q)) (same_place (get_or marks n 0) m t)
    | inr f ↦ let q : last_at marks n m ≡ suc p = rw f at e in last_there n p q
  ]

  last_after : (n j : ℕ) → j < n → get_or marks j 0 ≡ m → j < last_at marks n m
  last_after zero j l e = absurd (omega (arith, l))
  last_after (suc n) j l e = elim (cases (get_or marks n 0 == m)) [
    | inl t ↦ rw t (omega (arith, l))
    | inr f ↦
        let other : n ≡ j → ⊥ = λ q. other_place (get_or marks n 0) m f (ap (λ z. get_or marks z 0) q ∙ e) in
        rw f (last_after n j (less n j l other) e)
  ]
    where
      less : (n j : ℕ) → j < suc n → (n ≡ j → ⊥) → j < n
      less n j l other = grind (arith, other, l)

-- ---- a name is added

module _ (wide : Bool) (names : List EntryKey) where
  abbrev marks : List ℕ
  marks = marks_of wide names

  pub mark_at : (i : ℕ) (d : EntryKey) → i < length names → get_or marks i 0 ≡ mark_of wide (get_or names i d)
  mark_at i d l = get_or-map (mark_of wide) names i d 0 l

  module _ (i : ℕ) (d : EntryKey) (mark : ℕ) (lasts befores : List ℕ) (l : i < length names) (is : mark ≡ mark_of wide (get_or names i d)) (size : length lasts ≡ mark_count wide) where
    here : get_or marks i 0 ≡ mark
    here = mark_at i d l ∙ sym is

    pub mark_within : mark < length lasts
    mark_within = let s = mark_small wide (get_or names i d) in omega (arith, s, is, size)

    pub last_next : (number : ℕ) → number ≡ suc i → ((k : EntryKey) → get_or lasts (mark_of wide k) 0 ≡ last_at marks i (mark_of wide k))
        → (k : EntryKey) → get_or (set lasts mark number) (mark_of wide k) 0 ≡ last_at marks (i + 1) (mark_of wide k)
    last_next number e was k = later (omega arith) (elim (cases (mark == mark_of wide k)) [
      | inl t ↦
          let q = same_place mark (mark_of wide k) t in
          subst (λ (m : ℕ). get_or (set lasts mark number) m 0 ≡ last_at marks (suc i) m) q (get_or-set_same lasts mark number 0 mark_within ∙ e ∙ sym (last_here marks mark i here))
      | inr f ↦
          let other = other_place mark (mark_of wide k) f in
          let g : (get_or marks i 0 == mark_of wide k) ≡ false = subst (λ (m : ℕ). (m == mark_of wide k) ≡ false) (sym here) f in
          get_or-set_other lasts mark (mark_of wide k) number 0 (λ q. other (sym q)) ∙ was k ∙ rw g refl
    ])
      where
        later : suc i ≡ i + 1 → get_or (set lasts mark number) (mark_of wide k) 0 ≡ last_at marks (suc i) (mark_of wide k) → get_or (set lasts mark number) (mark_of wide k) 0 ≡ last_at marks (i + 1) (mark_of wide k)
        later q h = subst (λ (n : ℕ). get_or (set lasts mark number) (mark_of wide k) 0 ≡ last_at marks n (mark_of wide k)) q h

    pub before_next : (before : ℕ) → before ≡ get_or lasts mark before → length befores ≡ i → ((k : EntryKey) → get_or lasts (mark_of wide k) 0 ≡ last_at marks i (mark_of wide k))
        → ((j : ℕ) → j < i → get_or befores j 0 ≡ last_at marks j (get_or marks j 0)) → (j : ℕ) → j < i + 1 → get_or (befores ++ before ∷ []) j 0 ≡ last_at marks j (get_or marks j 0)
    before_next before e count now was j b = elim (cases (j == i)) [
      | inl t ↦
          let q = same_place j i t in
          subst (λ (n : ℕ). get_or (befores ++ before ∷ []) n 0 ≡ last_at marks n (get_or marks n 0)) (sym q) (
          get_or-append_right befores (before ∷ []) i i 0 count (omega arith) ∙ first (omega arith) ∙ e ∙ get_same lasts mark before 0 mark_within
          ∙ subst (λ (m : ℕ). get_or lasts m 0 ≡ last_at marks i m) (sym is) (now (get_or names i d)) ∙ ap (last_at marks i) (sym here)
          )
      | inr f ↦ let less = smaller j (other_place j i f) b in get_left befores (before ∷ []) j 0 (omega (arith, less, count)) ∙ was j less
    ]
      where
        first : i - i ≡ 0 → get_or (before ∷ []) (i - i) 0 ≡ before
        first z = rw z refl

        smaller : (j : ℕ) → (j ≡ i → ⊥) → j < i + 1 → j < i
        smaller j other b = grind (arith, other, b)

module _ {A : Type 0} where
  length_one_more : (xs : List A) (x : A) → length (xs ++ x ∷ []) ≡ length xs + 1
  length_one_more [] x = refl
  length_one_more (y ∷ ys) x = let r = length_one_more ys x in omega (arith, r)

  pub count_next : (xs ys : List A) (x : A) (i : ℕ) → ys ≡ xs ++ x ∷ [] → length xs ≡ i → length ys ≡ i + 1
  count_next xs ys x i e n = let r = length_one_more xs x in let q : length ys ≡ length (xs ++ x ∷ []) = ap length e in omega (arith, r, q, n)

-- ---- a name is found

-- where names differ, a name that stands at a place is found there
pub named_at : (names : List EntryKey) (k : EntryKey) (place : ℕ) (d : EntryKey) → spec.Once names → place < length names → same_entry (get_or names place d) k ≡ true → place_of same_entry names k ≡ Some place
named_at names k place d once within t =
    subst (λ (z : EntryKey). place_of same_entry names z ≡ Some place) (same_entry-sound (get_or names place d) k t) (place_has same_entry same_entry-sound same_entry-refl names place d (once_of names once) within)

module _ (wide : Bool) (names : List EntryKey) (k : EntryKey) where
  -- what is still to be looked at: nothing from a place on is the name, and the number is that of the last name before it at the mark
  pub record IsAt (number : ℕ) : Type 0 where
    pub end : ℕ
    pub within : end ≤ length names
    pub number_is : number ≡ last_at (marks_of wide names) end (mark_of wide k)
    pub none_after : (j : ℕ) → j < length names → get_or names j k ≡ k → j < end

module _ (wide : Bool) (names : List EntryKey) (lasts befores : List ℕ) (chained : AreChained wide names lasts befores) (k : EntryKey) where
  abbrev At : ℕ → Type 0
  At number = IsAt wide names k number

  pub starts : (number : ℕ) → number ≡ get_or lasts (mark_of wide k) 0 → At number
  starts number e = record { end = length names; within = omega arith; number_is = e ∙ chained.lasts_are k; none_after = λ j l h. l }

  module _ (number place : ℕ) (at : At number) (is : number ≡ suc place) where
    pub place_within : place < length names
    place_within = let w = last_within (marks_of wide names) (mark_of wide k) at.end in let v = at.within in let e = at.number_is in omega (arith, w, v, e, is)

    pub place_found : spec.Once names → (d : EntryKey) → same_entry (get_or names place d) k ≡ true → place_of same_entry names k ≡ Some place
    place_found once d t = named_at names k place d once place_within t

    pub falls : (next : ℕ) → next ≡ get_or befores place next → next < number
    falls next e =
        let w = place_within in
        let s = chained.size in
        let q : next ≡ last_at (marks_of wide names) place (get_or (marks_of wide names) place 0) = e ∙ get_same befores place next 0 (omega (arith, w, s)) ∙ chained.befores_are place w in
        let v = last_within (marks_of wide names) (get_or (marks_of wide names) place 0) place in
        omega (arith, q, v, is)

    pub goes_on : (d : EntryKey) (next : ℕ) → same_entry (get_or names place d) k ≡ false → next ≡ get_or befores place next → At next
    goes_on d next f e =
        let w = place_within in
        let s = chained.size in
        let there : get_or (marks_of wide names) place 0 ≡ mark_of wide k = last_there (marks_of wide names) (mark_of wide k) at.end place (sym at.number_is ∙ is) in
        record {
          end = place;
          within = omega (arith, w);
          number_is = e ∙ get_same befores place next 0 (omega (arith, w, s)) ∙ chained.befores_are place w ∙ ap (last_at (marks_of wide names) place) there;
          none_after = λ j l h.
              let m : get_or (marks_of wide names) j 0 ≡ mark_of wide k = mark_at wide names j k l ∙ ap (mark_of wide) h in
              let b = last_after (marks_of wide names) (mark_of wide k) at.end j (at.none_after j l h) m in
              let other : j ≡ place → ⊥ = λ q. never (same_entry (get_or names place d) k) (is_it j q l h) f in
              let n = at.number_is in
              less j other (omega (arith, b, n, is));
        }
      where
        is_it : (j : ℕ) → j ≡ place → j < length names → get_or names j k ≡ k → same_entry (get_or names place d) k ≡ true
        is_it j q l h =
            let g : get_or names place d ≡ k = get_same names place d k place_within ∙ ap (λ z. get_or names z k) (sym q) ∙ h in
            subst (λ (z : EntryKey). same_entry z k ≡ true) (sym g) (same_entry-refl k)

        less : (j : ℕ) → (j ≡ place → ⊥) → j < suc place → j < place
        less j other b = grind (arith, other, b)

  pub none_found : (number : ℕ) → At number → number ≡ 0 → place_of same_entry names k ≡ None
  none_found number at is = elim (place_of same_entry names k) as (λ o. place_of same_entry names k ≡ o → o ≡ None) [
    | None ↦ λ e. refl
    | Some p ↦ λ e.
        let r = place_some same_entry same_entry-sound same_entry-refl names k p e in
        let m : get_or (marks_of wide names) p 0 ≡ mark_of wide k = mark_at wide names p k r.0 ∙ ap (mark_of wide) (r.1 k) in
        let b = last_after (marks_of wide names) (mark_of wide k) at.end p (at.none_after p r.0 (r.1 k)) m in
        let n = at.number_is in
        absurd (omega (arith, b, n, is))
  ] refl
