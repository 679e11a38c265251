-- Lists with the same elements, each once, are the same but for their order.
use Rattle.std.proofs.Common.{◌≡◌, List, [], ◌∷◌, ◌++◌, refl, sym, ap, subst, inl, inr, IsPermutation}
use Rattle.std.proofs.lemmas.List.Sorted.{IsPermutation-refl, IsPermutation-sym, IsPermutation-cons, IsPermutation-trans, IsPermutation-middle}
use Rattle.rd_graph.proofs.Lists.Listing.{Has, Once, has_right}

module _ {A : Type 0} where
  -- a list in two parts, with an element between them
  record IsSplit (xs : List A) (x : A) : Type 0 where
    front : List A
    back : List A
    whole : xs ≡ front ++ x ∷ back

  split : (xs : List A) (x : A) → Has xs x → IsSplit xs x
  split [] x h = absurd h
  split (y ∷ ys) x (inl e) = record { front = []; back = ys; whole = ap (λ (z : A). z ∷ ys) e }
  split (y ∷ ys) x (inr h) = let r = split ys x h in record { front = y ∷ r.front; back = r.back; whole = ap (λ (zs : List A). y ∷ zs) r.whole }

  further : (us bs : List A) (x y : A) → Has (us ++ bs) y → Has (us ++ x ∷ bs) y
  further [] bs x y h = inr h
  further (a ∷ us) bs x y (inl e) = inl e
  further (a ∷ us) bs x y (inr h) = inr (further us bs x y h)

  without : (us bs : List A) (x : A) → Once (us ++ x ∷ bs) → Once (us ++ bs) × (Has (us ++ bs) x → ⊥)
  without [] bs x o = (o.1, o.0)
  without (a ∷ us) bs x o =
      let r = without us bs x o.1 in (
        ((λ h. o.0 (further us bs x a h)), r.0),
        λ h. elim h [
          | inl e ↦ o.0 (subst (λ (z : A). Has (us ++ x ∷ bs) z) (sym e) (has_right us (x ∷ bs) x (inl refl)))
          | inr k ↦ r.1 k
        ],
      )

  nearer : (us bs : List A) (x y : A) → Has (us ++ x ∷ bs) y → (x ≡ y → ⊥) → Has (us ++ bs) y
  nearer [] bs x y (inl e) n = absurd (n e)
  nearer [] bs x y (inr h) n = h
  nearer (a ∷ us) bs x y (inl e) n = inl e
  nearer (a ∷ us) bs x y (inr h) n = inr (nearer us bs x y h n)

  pub permuted : (xs ys : List A) → Once xs → Once ys → ((x : A) → Has xs x → Has ys x) → ((x : A) → Has ys x → Has xs x) → IsPermutation xs ys
  permuted [] [] o p f g = IsPermutation-refl []
  permuted [] (y ∷ ys) o p f g = absurd (g y (inl refl))
  permuted (x ∷ xs) ys o p f g =
      let s = split ys x (f x (inl refl)) in
      let left : List A = s.front ++ s.back in
      let w = without s.front s.back x (subst (λ (z : List A). Once z) s.whole p) in
      let forth : (y : A) → Has xs y → Has left y = λ y h.
      nearer s.front s.back x y (subst (λ (z : List A). Has z y) s.whole (f y (inr h))) (λ e. o.0 (subst (λ (z : A). Has xs z) (sym e) h)) in
      let back : (y : A) → Has left y → Has xs y = λ y h.
      elim (g y (subst (λ (z : List A). Has z y) (sym s.whole) (further s.front s.back x y h))) [
        | inl e ↦ absurd (w.1 (subst (λ (z : A). Has left z) (sym e) h))
        | inr k ↦ k
      ] in
      let rest : IsPermutation (x ∷ xs) (x ∷ left) = IsPermutation-cons x xs left (permuted xs left o.1 w.0 forth back) in
      let whole : IsPermutation ys (x ∷ left) = subst (λ (z : List A). IsPermutation z (x ∷ left)) (sym s.whole) (IsPermutation-middle s.front x s.back) in
      IsPermutation-trans (x ∷ xs) (x ∷ left) ys rest (IsPermutation-sym ys (x ∷ left) whole)
