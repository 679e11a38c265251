-- Names of entries: whether two are one.
use Rattle.std.proofs.Common.{◌≡◌, zero, suc, refl, ap, ◌∙◌, sym, subst, ℕ, ◌+◌, ◌<◌, Bool, true, false, cond, ◌&&◌, List, [], ◌∷◌, ◌++◌, inl, inr, length, take, get_or, arith, Option, Some, None, is_some, append_assoc}
use Rattle.std.proofs.lemmas.List.{take_more, append-nil}
use Rattle.rd_keys.specs.Keys.{same_key}
use Rattle.rd_keys.proofs.Keys.{same_key-sound, same_key-refl}
use Rattle.rd_keys.specs.declared.entry.EntryKey.{EntryKey}
use Rattle.rd_keys.specs.declared.entry.EntryKey.TheVariants as key
use Rattle.rd_keys.specs.declared.entry.Part.{Part}
use Rattle.rd_keys.specs.declared.entry.Part.TheVariants.{Back, Border, Content, Outline}
use Rattle.rd_graph.specs.Orders as spec
use Rattle.rd_graph.specs.Names.{is_in}
use Rattle.rd_graph.specs.Names.{next_place, place_of}
use Rattle.rd_graph.specs.Internal.Passes.{pushed, all_pushed, resolved}
use Rattle.rd_graph.specs.Names.{same_part, same_entry}
use Rattle.rd_graph.proofs.Reaching.Calls.{once_of}
use Rattle.rd_graph.proofs.Lists.Listing.{Has, Once, cases, never}

same_part-sound : (p q : Part) → same_part p q ≡ true → p ≡ q
same_part-sound Back Back h = refl
same_part-sound Border Border h = refl
same_part-sound Content Content h = refl
same_part-sound Outline Outline h = refl
same_part-sound _ _ h = absurd (cc)

pub same_part-refl : (p : Part) → same_part p p ≡ true
same_part-refl Back = refl
same_part-refl Border = refl
same_part-refl Content = refl
same_part-refl Outline = refl

both_true : (a b : Bool) → (a && b) ≡ true → (a ≡ true) × (b ≡ true)
both_true true true h = (refl, refl)
both_true true false h = absurd (cc)
both_true false b h = absurd (cc)

pub same_entry-sound : (a b : EntryKey) → same_entry a b ≡ true → a ≡ b
same_entry-sound (key.Leaf k p) (key.Leaf j q) h = let t = both_true (same_key k j) (same_part p q) h in ap (λ x. key.Leaf x p) (same_key-sound k j t.0) ∙ ap (key.Leaf j) (same_part-sound p q t.1)
same_entry-sound (key.Leaf k p) (key.Group j) h = absurd (let no : false ≡ true = h in cc)
same_entry-sound (key.Group k) (key.Leaf j q) h = absurd (let no : false ≡ true = h in cc)
same_entry-sound (key.Group k) (key.Group j) h = ap key.Group (same_key-sound k j h)

pub same_entry-refl : (a : EntryKey) → same_entry a a ≡ true
same_entry-refl (key.Leaf k p) = rw (same_key-refl k, same_part-refl p) refl
same_entry-refl (key.Group k) = same_key-refl k

module _ {E : Type 0} where
  pub has_get : (xs : List E) (k : ℕ) (d : E) → k < length xs → Has xs (get_or xs k d)
  has_get [] k d l = absurd (omega arith)
  has_get (x ∷ xs) zero d l = inl refl
  has_get (x ∷ xs) (suc k) d l = inr (has_get xs k d (omega arith))

  pub not_yet : (xs : List E) (i : ℕ) (d : E) → Once xs → i < length xs → Has (take i xs) (get_or xs i d) → ⊥
  not_yet [] i d o l h = absurd (omega arith)
  not_yet (x ∷ xs) zero d o l h = h
  not_yet (x ∷ xs) (suc i) d o l (inl e) = o.0 (subst (λ (z : E). Has xs z) (sym e) (has_get xs i d (omega arith)))
  not_yet (x ∷ xs) (suc i) d o l (inr h) = not_yet xs i d o.1 (omega arith) h

module _ {E : Type 0} (same : E → E → Bool) where
  -- one more element
  pub is_in-more : (xs : List E) (x k : E) → is_in same (xs ++ x ∷ []) k ≡ cond (same x k) true (is_in same xs k)
  is_in-more [] x k = refl
  is_in-more (y ∷ ys) x k = elim (cases (same y k)) [
    | inl t ↦ rw (t) (elim (same x k) as (λ b. true ≡ cond b true true) [ true ↦ refl | false ↦ refl ])
    | inr f ↦ rw f (is_in-more ys x k)
  ]

  pub all_pushed-append : (xs ks more : List E) → all_pushed same xs (ks ++ more) ≡ all_pushed same (all_pushed same xs ks) more
  all_pushed-append xs [] more = refl
  all_pushed-append xs (k ∷ ks) more = all_pushed-append (pushed same xs k) ks more

  pub resolved-more : (gone : E → Bool) (notes : E → List E) (ps : List E) (p : E) → resolved same gone notes (ps ++ p ∷ []) ≡ resolved same gone notes ps ++ cond (gone p) (notes p) (p ∷ [])
  resolved-more gone notes [] p = append-nil _
  resolved-more gone notes (q ∷ qs) p = rw (resolved-more gone notes qs p) (sym (append_assoc (cond (gone q) (notes q) (q ∷ [])) _ _))

  -- pointwise the same notes
  pub resolved-same : (gone : E → Bool) (notes other : E → List E) → ((p : E) → notes p ≡ other p) → (ps : List E) → resolved same gone notes ps ≡ resolved same gone other ps
  resolved-same gone notes other h [] = refl
  resolved-same gone notes other h (p ∷ ps) = rw (h p, resolved-same gone notes other h ps) refl

  pub in_has : (sound : (a b : E) → same a b ≡ true → a ≡ b) (xs : List E) (k : E) → is_in same xs k ≡ true → Has xs k
  in_has sound [] k h = cc
  in_has sound (x ∷ xs) k h = elim (cases (same x k)) [
    | inl t ↦ inl (sound x k t)
    | inr f ↦ inr (in_has sound xs k (let u : is_in same xs k ≡ true = rw f at h in u))
  ]

  pub has_in : (reflexive : (a : E) → same a a ≡ true) (xs : List E) (k : E) → Has xs k → is_in same xs k ≡ true
  has_in reflexive [] k h = absurd h
  has_in reflexive (x ∷ xs) k (inl e) = let t : same x k ≡ true = subst (λ (z : E). same x z ≡ true) e (reflexive x) in rw t refl
  has_in reflexive (x ∷ xs) k (inr h) = elim (same x k) as (λ b. cond b true (is_in same xs k) ≡ true) [ true ↦ refl | false ↦ has_in reflexive xs k h ]

  module _ (sound : (a b : E) → same a b ≡ true → a ≡ b) (reflexive : (a : E) → same a a ≡ true) where
    -- places
    pub place-more : (xs : List E) (x k : E) → (Has xs x → ⊥) → place_of same (xs ++ x ∷ []) k ≡ cond (same x k) (Some (length xs)) (place_of same xs k)
    place-more [] x k new = refl
    place-more (y ∷ ys) x k new = by (place-more ys x k (λ h. new (inr h))) (same y k) (same x k) refl refl
      where
        by : place_of same (ys ++ x ∷ []) k ≡ cond (same x k) (Some (length ys)) (place_of same ys k)
            → (b d : Bool) → same y k ≡ b → same x k ≡ d → cond b (Some 0) (next_place (place_of same (ys ++ x ∷ []) k)) ≡ cond d (Some (length (y ∷ ys))) (cond b (Some 0) (next_place (place_of same ys k)))
        by more true true t u = absurd (new (inl (sound y k t ∙ sym (sound x k u))))
        by more true false t u = refl
        by more false true t u = ap next_place (let m : place_of same (ys ++ x ∷ []) k ≡ Some (length ys) = rw u at more in m) ∙ ap Some (omega arith)
        by more false false t u = ap next_place (let m : place_of same (ys ++ x ∷ []) k ≡ place_of same ys k = rw u at more in m)

    some_next : (o : Option ℕ) (n : ℕ) → next_place o ≡ Some n → (m : ℕ) × (o ≡ Some m) × (m + 1 ≡ n)
    some_next None n u = absurd (cc)
    some_next (Some m) n u = (m, refl, cc)

    not_none : (n : ℕ) → Some n ≡ None → ⊥
    not_none n u = cc

    none_next : (o : Option ℕ) → next_place o ≡ None → o ≡ None
    none_next None u = refl
    none_next (Some m) u = absurd (cc)

    pub place_some : (xs : List E) (k : E) (n : ℕ) → place_of same xs k ≡ Some n → (n < length xs) × ((d : E) → get_or xs n d ≡ k)
    place_some [] k n h = absurd (cc)
    place_some (x ∷ xs) k n h = elim (cases (same x k)) [
      | inl t ↦ let u : Some 0 ≡ Some n = rw t at h in let e : 0 ≡ n = cc in (omega (arith, e), λ d. subst (λ (m : ℕ). get_or (x ∷ xs) m d ≡ k) e (sound x k t))
      | inr f ↦
          let u : next_place (place_of same xs k) ≡ Some n = rw f at h in
          let m = some_next (place_of same xs k) n u in
          let r = place_some xs k m.0 m.1 in
          let l = r.0 in
          let v = m.2 in
          let w : suc m.0 ≡ n = omega (arith, v) in
          (omega (arith, l, v), λ d. subst (λ (i : ℕ). get_or (x ∷ xs) i d ≡ k) w (r.1 d))
    ]

    pub place_none : (xs : List E) (k : E) → place_of same xs k ≡ None → Has xs k → ⊥
    place_none [] k h m = m
    place_none (x ∷ xs) k h m = elim (cases (same x k)) [
      | inl t ↦ let u : Some 0 ≡ None = rw t at h in absurd (not_none 0 u)
      | inr f ↦
          let u : next_place (place_of same xs k) ≡ None = rw f at h in
          elim m [ inl e ↦ never (same x k) (subst (λ (z : E). same x z ≡ true) e (reflexive x)) f | inr n ↦ place_none xs k (none_next (place_of same xs k) u) n ]
    ]

    pub place_has : (xs : List E) (i : ℕ) (d : E) → Once xs → i < length xs → place_of same xs (get_or xs i d) ≡ Some i
    place_has [] i d o l = absurd (omega arith)
    place_has (x ∷ xs) zero d o l = let t = reflexive x in rw t refl
    place_has (x ∷ xs) (suc i) d o l =
        let f : same x (get_or xs i d) ≡ false = elim (cases (same x (get_or xs i d))) [
          | inl t ↦ absurd (o.0 (subst (λ (z : E). Has xs z) (sym (sound x (get_or xs i d) t)) (has_get xs i d (omega arith))))
          | inr f ↦ f
        ] in
        rw (f, place_has xs i d o.1 (omega arith)) (ap Some (omega arith))

module _ {E : Type 0} where
  length_take : (xs : List E) (i : ℕ) → i < length xs → length (take i xs) ≡ i
  length_take [] i h = absurd (omega arith)
  length_take (x ∷ xs) zero h = refl
  length_take (x ∷ xs) (suc i) h = let l = length_take xs i (omega arith) in omega (arith, l)

-- the loops over keys; d stands for a key past the end
pub place_next : (keys : List EntryKey) (i : ℕ) (d : EntryKey) (old new : EntryKey → Option ℕ) → spec.Once keys → i < length keys → ((k : EntryKey) → old k ≡ place_of same_entry (take i keys) k)
    → ((k : EntryKey) → new k ≡ cond (same_entry (get_or keys i d) k) (Some i) (old k)) → (k : EntryKey) → new k ≡ place_of same_entry (take (i + 1) keys) k
place_next keys i d old new once h was is k =
    rw (is k, was k, take_more keys i d h, place-more same_entry same_entry-sound same_entry-refl (take i keys) (get_or keys i d) k (not_yet keys i d (once_of keys once) h), length_take keys i h) refl

pub name_next : {V : Type 0} (keys : List EntryKey) (i : ℕ) (d : EntryKey) (v : V) (old new : EntryKey → Option V) → i < length keys → ((k : EntryKey) → is_some (old k) ≡ is_in same_entry (take i keys) k)
    → ((k : EntryKey) → new k ≡ cond (same_entry (get_or keys i d) k) (Some v) (old k)) → (k : EntryKey) → is_some (new k) ≡ is_in same_entry (take (i + 1) keys) k
name_next keys i d v old new h was is k =
    rw (is k, take_more keys i d h, is_in-more same_entry (take i keys) (get_or keys i d) k)
    (elim (same_entry (get_or keys i d) k) as (λ b. is_some (cond b (Some v) (old k)) ≡ cond b true (is_in same_entry (take i keys) k)) [ true ↦ refl | false ↦ was k ])

pub named_one : {V : Type 0} (xs ys : List EntryKey) (x : EntryKey) (v : V) (old new : EntryKey → Option V) → ((k : EntryKey) → is_some (old k) ≡ is_in same_entry xs k)
    → ((k : EntryKey) → new k ≡ cond (same_entry x k) (Some v) (old k)) → ys ≡ xs ++ x ∷ [] → (k : EntryKey) → is_some (new k) ≡ is_in same_entry ys k
named_one xs ys x v old new was is e k =
    rw (is k, e, is_in-more same_entry xs x k)
    (elim (same_entry x k) as (λ b. is_some (cond b (Some v) (old k)) ≡ cond b true (is_in same_entry xs k)) [ true ↦ refl | false ↦ was k ])

pub pushes_next : (start more : List EntryKey) (i : ℕ) (d : EntryKey) (now then : List EntryKey) → i < length more → now ≡ all_pushed same_entry start (take i more) → then ≡ pushed same_entry now (get_or more i d)
    → then ≡ all_pushed same_entry start (take (i + 1) more)
pushes_next start more i d now then h was is = rw (is, was, take_more more i d h, all_pushed-append same_entry start (take i more) (get_or more i d ∷ [])) refl
