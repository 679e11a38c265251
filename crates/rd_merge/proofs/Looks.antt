-- A pass over a kept level, entry by entry.
use Rattle.std.proofs.Common.{◌≡◌, refl, ap, ◌∙◌, sym, subst, ℕ, zero, suc, ◌+◌, ◌<◌, ◌≤◌, Bool, true, false, not, cond, ◌&&◌, List, [], ◌∷◌, ◌++◌, length, map, take, get_or, arith, inl, inr, Option, Some, None, is_some, append_assoc, append-nil}
use Rattle.std.specs.Prelude.{IfSome}
use Rattle.std.proofs.lemmas.List.{take_more, length-take-le}
use Rattle.rd_keys.specs.Keys.{BoxKey}
use Rattle.rd_keys.specs.declared.entry.EntryKey.{EntryKey}
use Rattle.rd_keys.specs.declared.entry.EntryKey.TheVariants as key
use Rattle.rd_graph.specs.Orders as spec
use Rattle.rd_graph.specs.Names.{is_in, next_place, place_of, same_entry}
use Rattle.rd_graph.proofs.Lists.Listing.{Has, Once, cases}
use Rattle.rd_graph.proofs.Lists.Entries.{place_next, place_some, same_entry-sound, same_entry-refl}
use Rattle.rd_graph.proofs.Reaching.Calls.{once_of}
use Rattle.rd_list.specs.EntryNames.{entry_names, kept_leaves}
use Rattle.rd_list.specs.KeptView.{kept_entries}
use Rattle.rd_list.specs.Levels.{keys}
use Rattle.rd_list.specs.declared.kept.Entry.{Entry}
use Rattle.rd_list.specs.declared.kept.Entry.TheVariants as kept
use Rattle.rd_merge.specs.Going.{any_stays, is_untouched}
use Rattle.rd_merge.specs.Looking.{any_goes, gone_places, inner_places, kept_names}
use Rattle.rd_merge.specs.Internal.Looks.{IsLookedTo, LeavesStay, NothingNoted, gone_at, goes_inside, inner_at, is_passed, name_of, noted}
use Rattle.rd_merge.specs.Internal.Marks.{AreMarked, box_mark, box_marks}
use Rattle.rd_merge.proofs.Marked.{mark_small, unmarked}

-- what is found entry by entry
module _ {A B : Type 0} (all : ℕ → List A → List B) (none : (i : ℕ) → all i [] ≡ []) (step : (i : ℕ) (x : A) (xs : List A) → all i (x ∷ xs) ≡ all i (x ∷ []) ++ all (suc i) xs) where
  more : (xs : List A) (i p : ℕ) (y : A) → p ≡ i + length xs → all i (xs ++ y ∷ []) ≡ all i xs ++ all p (y ∷ [])
  more [] i p y e = ap (λ j. all j (y ∷ [])) (let q : i ≡ p = omega (arith, e) in q) ∙ ap (λ bs. bs ++ all p (y ∷ [])) (sym (none i))
  more (x ∷ xs) i p y e =
      step i x (xs ++ y ∷ []) ∙ ap (λ bs. all i (x ∷ []) ++ bs) (more xs (suc i) p y (omega (arith, e))) ∙ sym (append_assoc (all i (x ∷ [])) (all (suc i) xs) (all p (y ∷ [])))
      ∙ ap (λ bs. bs ++ all p (y ∷ [])) (sym (step i x xs))

  found_next : (es : List A) (i : ℕ) (x : A) (now then : List B) → i < length es → x ≡ get_or es i x → now ≡ all 0 (take i es) → then ≡ now ++ all i (x ∷ []) → then ≡ all 0 (take (i + 1) es)
  found_next es i x now then l is was new =
      new ∙ ap (λ bs. bs ++ all i (x ∷ [])) was ∙ sym (more (take i es) 0 i x (let n = length-take-le i es (omega (arith, l)) in omega (arith, n)))
      ∙ ap (all 0) (ap (λ z. take i es ++ z ∷ []) is ∙ sym (take_more es i x l))

placed-in : (ks : List EntryKey) (k : EntryKey) → is_some (place_of same_entry ks k) ≡ is_in same_entry ks k
placed-in [] k = refl
placed-in (x ∷ xs) k = elim (same_entry x k) as (λ b. is_some (cond b (Some 0) (next_place (place_of same_entry xs k))) ≡ cond b true (is_in same_entry xs k)) [
  | true ↦ refl
  | false ↦ further (place_of same_entry xs k) ∙ placed-in xs k
]
  where
    further : (o : Option ℕ) → is_some (next_place o) ≡ is_some o
    further None = refl
    further (Some n) = refl

pub ends : (a b : Bool) → (a && b && false) ≡ false
ends true true = refl
ends true false = refl
ends false b = refl

module _ {A : Type 0} (touched : BoxKey → Bool) where
  abbrev all_gone : ℕ → List (Entry A) → List ℕ
  all_gone i es = gone_places entry_names (is_untouched touched) i (kept_leaves (kept_entries es))

  gone_step : (i : ℕ) (x : Entry A) (xs : List (Entry A)) → all_gone i (x ∷ xs) ≡ all_gone i (x ∷ []) ++ all_gone (suc i) xs
  gone_step i (kept.Leaf m) xs = elim (is_untouched touched m.leaf) as (λ b. cond b (all_gone (suc i) xs) (i ∷ all_gone (suc i) xs) ≡ cond b [] (i ∷ []) ++ all_gone (suc i) xs) [ true ↦ refl | false ↦ refl ]
  gone_step i (kept.Group g) xs =
      elim (any_stays entry_names (is_untouched touched) (kept_leaves g.inner.entries)) as (λ b. cond b (all_gone (suc i) xs) (i ∷ all_gone (suc i) xs) ≡ cond b [] (i ∷ []) ++ all_gone (suc i) xs) [ true ↦ refl | false ↦ refl ]

  pub gone_next : (es : List (Entry A)) (i : ℕ) (x : Entry A) (now then : List ℕ) → i < length es → x ≡ get_or es i x → now ≡ gone_places entry_names (is_untouched touched) 0 (kept_leaves (kept_entries (take i es)))
      → then ≡ now ++ gone_at touched i x → then ≡ gone_places entry_names (is_untouched touched) 0 (kept_leaves (kept_entries (take (i + 1) es)))
  gone_next es i x now then l is was new = found_next all_gone (λ i. refl) gone_step es i x now then l is was new

  pub gone_one : (x : Entry A) (i : ℕ) (s : Bool) → s ≡ any_stays entry_names (is_untouched touched) (kept_leaves (kept_entries (x ∷ []))) → cond (not s) (i ∷ []) [] ≡ gone_at touched i x
  gone_one (kept.Leaf m) i s e = rw e (elim (is_untouched touched m.leaf) as (λ b. cond (not (cond b true false)) (i ∷ []) [] ≡ cond b [] (i ∷ [])) [ true ↦ refl | false ↦ refl ])
  gone_one (kept.Group g) i s e =
      rw e (elim (any_stays entry_names (is_untouched touched) (kept_leaves g.inner.entries)) as (λ b. cond (not (cond b true false)) (i ∷ []) [] ≡ cond b [] (i ∷ [])) [ true ↦ refl | false ↦ refl ])

  module _ (names : List EntryKey) where
    abbrev all_inner : ℕ → List (Entry A) → List ℕ
    all_inner i es = inner_places entry_names (is_untouched touched) names i (kept_leaves (kept_entries es))

    inner_step : (i : ℕ) (x : Entry A) (xs : List (Entry A)) → all_inner i (x ∷ xs) ≡ all_inner i (x ∷ []) ++ all_inner (suc i) xs
    inner_step i (kept.Leaf m) xs = refl
    inner_step i (kept.Group g) xs =
        elim (any_stays entry_names (is_untouched touched) (kept_leaves g.inner.entries) && not (is_in same_entry names (key.Group g.key)) && any_goes entry_names (is_untouched touched) (kept_leaves g.inner.entries))
        as (λ b. cond b (i ∷ all_inner (suc i) xs) (all_inner (suc i) xs) ≡ cond b (i ∷ []) [] ++ all_inner (suc i) xs) [ true ↦ refl | false ↦ refl ]

    pub inner_next : (es : List (Entry A)) (i : ℕ) (x : Entry A) (now then : List ℕ) → i < length es → x ≡ get_or es i x
        → now ≡ inner_places entry_names (is_untouched touched) names 0 (kept_leaves (kept_entries (take i es)))
        → then ≡ now ++ inner_at touched names i x → then ≡ inner_places entry_names (is_untouched touched) names 0 (kept_leaves (kept_entries (take (i + 1) es)))
    inner_next es i x now then l is was new = found_next all_inner (λ i. refl) inner_step es i x now then l is was new

    pub inner_one : (x : Entry A) (i : ℕ) (s n w : Bool) → s ≡ any_stays entry_names (is_untouched touched) (kept_leaves (kept_entries (x ∷ []))) → n ≡ is_some (place_of same_entry names (name_of x))
        → w ≡ (s && not n && goes_inside touched x) → cond w (i ∷ []) [] ≡ inner_at touched names i x
    inner_one (kept.Leaf m) i s n w es en ew = rw (ew, ends s (not n)) refl
    inner_one (kept.Group g) i s n w es en ew =
        ap (λ b. cond b (i ∷ []) []) (
        ew ∙ ap (λ b. b && not n && any_goes entry_names (is_untouched touched) (kept_leaves g.inner.entries)) (es ∙ alone (any_stays entry_names (is_untouched touched) (kept_leaves g.inner.entries)))
        ∙ ap (λ b. any_stays entry_names (is_untouched touched) (kept_leaves g.inner.entries) && not b && any_goes entry_names (is_untouched touched) (kept_leaves g.inner.entries)) (en ∙ placed-in names (key.Group g.key))
        )
      where
        alone : (b : Bool) → cond b true false ≡ b
        alone true = refl
        alone false = refl

pub none_more : (xs : List EntryKey) (i p : ℕ) → i < length xs → p ≡ suc i → map {B = Option ℕ} (λ k. None) (take p xs) ≡ map (λ k. None) (take i xs) ++ None ∷ []
none_more [] i p l e = absurd (omega arith)
none_more (x ∷ xs) zero p l e = rw e refl
none_more (x ∷ xs) (suc i) p l e = rw e (ap (λ os. None ∷ os) (none_more xs i (suc i) (omega arith) refl))

pub place_within : (o : Option ℕ) (names : List EntryKey) (k : EntryKey) (n : ℕ) → o ≡ place_of same_entry names k → n ≡ length names → IfSome o (λ j. j < n)
place_within None names k n e l = tt
place_within (Some j) names k n e l = let r = place_some same_entry same_entry-sound same_entry-refl names k j (sym e) in let w = r.0 in omega (arith, w, l)

module _ {A : Type 0} where
  pub name_is : (x : Entry A) (k : EntryKey) → keys entry_names (kept_leaves (kept_entries (x ∷ []))) ≡ k ∷ [] → k ≡ name_of x
  name_is (kept.Leaf m) k e = cc
  name_is (kept.Group g) k e = cc

  pub names_length : (es : List (Entry A)) → length (kept_names (kept_entries es)) ≡ length es
  names_length [] = refl
  names_length (kept.Leaf m ∷ es) = ap suc (names_length es)
  names_length (kept.Group g ∷ es) = ap suc (names_length es)

  name_at : (es : List (Entry A)) (i : ℕ) (x : Entry A) (d : EntryKey) → i < length es → x ≡ get_or es i x → get_or (kept_names (kept_entries es)) i d ≡ name_of x
  name_at [] i x d l e = absurd (omega arith)
  name_at (kept.Leaf m ∷ es) zero x d l e = ap name_of (sym e)
  name_at (kept.Group g ∷ es) zero x d l e = ap name_of (sym e)
  name_at (kept.Leaf m ∷ es) (suc i) x d l e = name_at es i x d (omega arith) e
  name_at (kept.Group g ∷ es) (suc i) x d l e = name_at es i x d (omega arith) e

noted-next : (o : Option ℕ) (i : ℕ) (a : Option ℕ) (rest : List (Option ℕ)) → noted (next_place o) i (a ∷ rest) ≡ a ∷ noted o i rest
noted-next None i a rest = refl
noted-next (Some m) i a rest = let e : m + 1 ≡ suc m = omega arith in rw e refl

-- one more name of the level is known
module _ (y : EntryKey) (i : ℕ) (old new : EntryKey → Option ℕ) (is : (k : EntryKey) → new k ≡ cond (same_entry y k) (Some i) (old k)) where
  others : (names : List EntryKey) → (Has names y → ⊥) → map old names ≡ map new names
  others [] away = refl
  others (x ∷ xs) away = elim (cases (same_entry y x)) [
    | inl t ↦ absurd (away (inl (sym (same_entry-sound y x t))))
    | inr f ↦ let e : new x ≡ old x = let h = is x in rw f at h in rw (e, others xs (λ h. away (inr h))) refl
  ]

  noted-map : (names : List EntryKey) → Once names → noted (place_of same_entry names y) i (map old names) ≡ map new names
  noted-map [] o = refl
  noted-map (x ∷ xs) o = elim (cases (same_entry x y)) [
    | inl t ↦
        let q = same_entry-sound x y t in
        let r : same_entry y x ≡ true = subst (λ (z : EntryKey). same_entry y z ≡ true) (sym q) (same_entry-refl y) in
        let e : new x ≡ Some i = let h = is x in rw r at h in
        rw t (rw (e, others xs (subst (λ (z : EntryKey). Has xs z → ⊥) q o.0)) refl)
    | inr f ↦
        let g : same_entry y x ≡ false = elim (cases (same_entry y x)) [
          | inl t ↦ let u : same_entry x y ≡ true = subst (λ (z : EntryKey). same_entry z y ≡ true) (same_entry-sound y x t) (same_entry-refl y) in absurd (let no : true ≡ false = sym u ∙ f in cc)
          | inr g ↦ g
        ] in
        let e : new x ≡ old x = let h = is x in rw g at h in
        rw f (noted-next (place_of same_entry xs y) i (old x) (map old xs) ∙ rw (e, noted-map xs o.1) refl)
  ]

module _ {A : Type 0} (es : List (Entry A)) (names : List EntryKey) where
  abbrev places_of : ℕ → EntryKey → Option ℕ
  places_of i k = place_of same_entry (take i (kept_names (kept_entries es))) k

  pub named_next : (i : ℕ) (x : Entry A) (now then : List (Option ℕ)) → spec.Once names → spec.Once (kept_names (kept_entries es)) → i < length es → x ≡ get_or es i x
      → now ≡ map (λ k. place_of same_entry (take i (kept_names (kept_entries es))) k) names → then ≡ noted (place_of same_entry names (name_of x)) i now
      → then ≡ map (λ k. place_of same_entry (take (i + 1) (kept_names (kept_entries es))) k) names
  named_next i x now then o ok l e was new =
      new ∙ ap (noted (place_of same_entry names (name_of x)) i) was
      ∙ noted-map (name_of x) i (places_of i) (places_of (i + 1))
      (λ k. sym (place_next (kept_names (kept_entries es)) i (name_of x) (places_of i) (λ j. cond (same_entry (get_or (kept_names (kept_entries es)) i (name_of x)) j) (Some i) (places_of i j)) ok (subst (λ n. i < n) (sym (names_length es)) l) (λ j. refl) (λ j. refl) k)
      ∙ ap (λ z. cond (same_entry z k) (Some i) (places_of i k)) (name_at es i x (name_of x) l e))
      names (once_of names o)

-- ---- entries of which nothing is noted

both : (a b : Bool) → (a && b) ≡ true → (a ≡ true) × (b ≡ true)
both true true e = (refl, refl)
both true false e = absurd (cc)
both false b e = absurd (cc)

pub add_none : {B : Type 0} (xs ys : List B) → ys ≡ [] → xs ≡ xs ++ ys
add_none xs ys e = sym (append-nil xs) ∙ ap (λ zs. xs ++ zs) (sym e)

unset : (b : Bool) → not b ≡ true → b ≡ false
unset true e = absurd (cc)
unset false e = refl

module _ {A : Type 0} (touched : BoxKey → Bool) (wide : Bool) (names : List EntryKey) (marks : List Bool) (are : AreMarked wide names marks) where
  passed_gone : (x : Entry A) (i : ℕ) (now : List ℕ) → is_passed touched wide marks x ≡ true → now ≡ now ++ gone_at touched i x
  passed_gone (kept.Leaf m) i now p = add_none now (gone_at {A = A} touched i (kept.Leaf m)) (let u = (both (not (get_or marks (box_mark wide m.leaf.owner) false)) (is_untouched touched m.leaf) p).1 in rw u refl)
  passed_gone (kept.Group g) i now p = absurd (let no : false ≡ true = p in cc)

  passed_found : (x : Entry A) (i : ℕ) (now : List (Option ℕ)) → is_passed touched wide marks x ≡ true → now ≡ noted (place_of same_entry names (name_of x)) i now
  passed_found (kept.Leaf m) i now p =
      let f = unset (get_or marks (box_mark wide m.leaf.owner) false) (both (not (get_or marks (box_mark wide m.leaf.owner) false)) (is_untouched touched m.leaf) p).0 in
      ap (λ o. noted o i now) (sym (unmarked (box_mark wide) (box_marks wide) (mark_small wide) names marks are (name_of {A = A} (kept.Leaf m)) f))
  passed_found (kept.Group g) i now p = absurd (let no : false ≡ true = p in cc)

  passed_inner : (x : Entry A) (i : ℕ) (now : List ℕ) → is_passed touched wide marks x ≡ true → now ≡ now ++ inner_at touched names i x
  passed_inner (kept.Leaf m) i now p = add_none now [] refl
  passed_inner (kept.Group g) i now p = absurd (let no : false ≡ true = p in cc)

  -- nothing is noted of an entry that is passed over
  pub passes_one : (es : List (Entry A)) (i : ℕ) (x : Entry A) → spec.Once names → spec.Once (kept_names (kept_entries es)) → i < length es → x ≡ get_or es i x → is_passed touched wide marks x ≡ true
      → NothingNoted touched es names i (i + 1)
  passes_one es i x o ok l e p = record {
    gone = sym (gone_next touched es i x _ _ l e refl (passed_gone x i _ p));
    found = sym (named_next es names i x _ _ o ok l e refl (passed_found x i _ p));
    inner = sym (inner_next touched names es i x _ _ l e refl (passed_inner x i _ p));
  }

module _ {A : Type 0} (touched : BoxKey → Bool) (es : List (Entry A)) (names : List EntryKey) where
  abbrev Nothing : ℕ → ℕ → Type 0
  Nothing i j = NothingNoted touched es names i j

  pub nothing_itself : (i : ℕ) → Nothing i i
  nothing_itself i = record { gone = refl; found = refl; inner = refl }

  pub nothing_joined : (i j k : ℕ) → Nothing i j → Nothing j k → Nothing i k
  nothing_joined i j k n m = record { gone = m.gone ∙ n.gone; found = m.found ∙ n.found; inner = m.inner ∙ n.inner }

  pub nothing_more : (i j k : ℕ) → Nothing i j → Nothing j (j + 1) → k ≡ j + 1 → Nothing i k
  nothing_more i j k n m e = subst (λ (z : ℕ). Nothing i z) (sym e) (nothing_joined i j (j + 1) n m)

  -- and then one need not look there
  pub looked_on : (i j : ℕ) (gone : List ℕ) (found : List (Option ℕ)) (inner : List ℕ) → IsLookedTo touched es names i gone found inner → Nothing i j → IsLookedTo touched es names j gone found inner
  looked_on i j gone found inner l n = record { gone_are = l.gone_are ∙ sym n.gone; found_are = l.found_are ∙ sym n.found; inner_are = l.inner_are ∙ sym n.inner }

  -- leaves that stay do so in a part too
  pub leaves_within : (from end i j : ℕ) → LeavesStay touched es from end → from ≤ i → j ≤ end → LeavesStay touched es i j
  leaves_within from end i j s l h = λ p lower upper x e. s p (omega (arith, l, lower)) (omega (arith, h, upper)) x e
