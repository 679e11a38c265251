-- Whether something goes, entry by entry.
use Rattle.std.proofs.Common.{◌≡◌, refl, ap, ◌∙◌, sym, ℕ, zero, suc, ◌+◌, ◌<◌, ◌==◌, Bool, true, false, cond, List, [], ◌∷◌, ◌++◌, length, take, drop, get_or, arith, rules, inl, inr, take-add}
use Rattle.std.proofs.lemmas.List.{take_more, take-append-drop}
use Rattle.rd_keys.specs.Keys.{BoxKey}
use Rattle.rd_graph.proofs.Lists.Listing.{cases}
use Rattle.rd_list.specs.EntryNames.{kept_leaves}
use Rattle.rd_list.specs.Entries.{is_empty}
use Rattle.rd_list.specs.KeptView.{kept_entries}
use Rattle.rd_list.specs.declared.kept.Entry.{Entry}
use Rattle.rd_list.specs.declared.kept.Entry.TheVariants as kept
use Rattle.rd_merge.specs.Going.{is_untouched}
use Rattle.rd_merge.specs.Internal.Looks.{has_touched}

module _ {A : Type 0} (any : List A → Bool) (step : (x : A) (xs : List A) → any (x ∷ xs) ≡ cond (any (x ∷ [])) true (any xs)) where
  one_of : (es : List A) (i : ℕ) (x : A) → i < length es → x ≡ get_or es i x → any (x ∷ []) ≡ true → any es ≡ true
  one_of [] i x l e t = absurd (omega arith)
  one_of (y ∷ ys) zero x l e t = step y ys ∙ ap (λ b. cond b true (any ys)) (ap (λ z. any (z ∷ [])) (sym e) ∙ t)
  one_of (y ∷ ys) (suc i) x l e t =
      step y ys ∙ elim (any (y ∷ [])) as (λ b. cond b true (any ys) ≡ true) [ true ↦ refl | false ↦ one_of ys i x (omega arith) e t ]

  none_after : (xs : List A) (x : A) → any xs ≡ false → any (x ∷ []) ≡ false → any (xs ++ x ∷ []) ≡ false
  none_after [] x f g = g
  none_after (y ∷ ys) x f g = elim (cases (any (y ∷ []))) [
    | inl t ↦ let no : true ≡ false = sym (ap (λ b. cond b true (any ys)) t) ∙ sym (step y ys) ∙ f in absurd (cc)
    | inr u ↦ step y (ys ++ x ∷ []) ∙ ap (λ b. cond b true (any (ys ++ x ∷ []))) u ∙ none_after ys x (sym (ap (λ b. cond b true (any ys)) u) ∙ sym (step y ys) ∙ f) g
  ]

  none_next : (es : List A) (i : ℕ) (x : A) → i < length es → x ≡ get_or es i x → any (take i es) ≡ false → any (x ∷ []) ≡ false → any (take (i + 1) es) ≡ false
  none_next es i x l e f g = ap any (take_more es i x l ∙ ap (λ z. take i es ++ z ∷ []) (sym e)) ∙ none_after (take i es) x f g

  any_append : (xs ys : List A) → any [] ≡ false → any (xs ++ ys) ≡ cond (any xs) true (any ys)
  any_append [] ys e = sym (ap (λ b. cond b true (any ys)) e)
  any_append (x ∷ xs) ys e =
      step x (xs ++ ys) ∙ (ap (cond (any (x ∷ [])) true) (any_append xs ys e)
      ∙ (elim (any (x ∷ [])) as (λ b. cond b true (cond (any xs) true (any ys)) ≡ cond (cond b true (any xs)) true (any ys)) [ true ↦ refl | false ↦ refl ]
      ∙ ap (λ b. cond b true (any ys)) (sym (step x xs))))

module _ {A : Type 0} (touched : BoxKey → Bool) where
  abbrev has : List (Entry A) → Bool
  has es = has_touched touched (kept_entries es)

  pub touched_step : (x : Entry A) (xs : List (Entry A)) → has (x ∷ xs) ≡ cond (has (x ∷ [])) true (has xs)
  touched_step (kept.Leaf m) xs = elim (is_untouched touched m.leaf) as (λ b. cond b (has xs) true ≡ cond (cond b false true) true (has xs)) [ true ↦ refl | false ↦ refl ]
  touched_step (kept.Group g) xs = elim (is_empty (kept_leaves g.inner.entries)) as (λ e. cond e true (cond (has_touched touched g.inner.entries) true (has xs)) ≡ cond (cond e true (cond (has_touched touched g.inner.entries) true false)) true (has xs)) [
    | true ↦ refl
    | false ↦ elim (has_touched touched g.inner.entries) as (λ b. cond b true (has xs) ≡ cond (cond b true false) true (has xs)) [ true ↦ refl | false ↦ refl ]
  ]

  pub touched_at : (es : List (Entry A)) (i : ℕ) (x : Entry A) → i < length es → x ≡ get_or es i x → has_touched touched (kept_entries (x ∷ [])) ≡ true → has_touched touched (kept_entries es) ≡ true
  touched_at es i x l e t = one_of has touched_step es i x l e t

  pub untouched_next : (es : List (Entry A)) (i : ℕ) (x : Entry A) → i < length es → x ≡ get_or es i x → has_touched touched (kept_entries (take i es)) ≡ false → has_touched touched (kept_entries (x ∷ [])) ≡ false
      → has_touched touched (kept_entries (take (i + 1) es)) ≡ false
  untouched_next es i x l e f g = none_next has touched_step es i x l e f g

  has_parts : (xs ys zs : List (Entry A)) → zs ≡ xs ++ ys → has zs ≡ cond (has xs) true (has ys)
  has_parts xs ys zs e = ap has e ∙ any_append has touched_step xs ys refl

  -- something goes of a part
  pub touched_part : (es : List (Entry A)) (p n : ℕ) → has (take n (drop p es)) ≡ true → has es ≡ true
  touched_part es p n t =
      has_parts (take p es) (drop p es) es (sym (take-append-drop p es)) ∙ (ap (cond (has (take p es)) true) rest ∙ always (has (take p es)))
    where
      always : (b : Bool) → cond b true true ≡ true
      always true = refl
      always false = refl

      rest : has (drop p es) ≡ true
      rest = has_parts (take n (drop p es)) (drop n (drop p es)) (drop p es) (sym (take-append-drop n (drop p es))) ∙ ap (λ b. cond b true (has (drop n (drop p es)))) t

  -- nothing goes of the first entries, nor of the part after them
  pub untouched_on : (es : List (Entry A)) (p n : ℕ) → has (take p es) ≡ false → has (take n (drop p es)) ≡ false → has (take (p + n) es) ≡ false
  untouched_on es p n f g = has_parts (take p es) (take n (drop p es)) (take (p + n) es) (take-add p n es) ∙ (ap (λ b. cond b true (has (take n (drop p es)))) f ∙ g)

  -- nothing goes of the first entries
  pub touched_rest : (es : List (Entry A)) (p : ℕ) → has (take p es) ≡ false → has es ≡ has (drop p es)
  touched_rest es p f = has_parts (take p es) (drop p es) es (sym (take-append-drop p es)) ∙ ap (λ b. cond b true (has (drop p es))) f

not_none : (k : ℕ) → (suc k == 0) ≡ false
not_none k = search rules

pub none_is_empty : {A : Type 0} (es : List (Entry A)) → (length es == 0) ≡ is_empty (kept_leaves (kept_entries es))
none_is_empty [] = refl
none_is_empty (kept.Leaf m ∷ es) = not_none (length es)
none_is_empty (kept.Group g ∷ es) = not_none (length es)
