-- Lists with the edge of a chain, which they may have already.
use Rattle.std.proofs.Common.{◌≡◌, ◌∙◌, ap, subst, ℕ, ◌+◌, ◌<◌, Bool, true, false, List, [], ◌∷◌, ◌++◌, length, take, get_or, inl, inr, ◌⊎◌}
use Rattle.std.proofs.lemmas.List.{take_more}
use Rattle.rd_graph.specs.Names.{is_in}
use Rattle.rd_graph.specs.Internal.Relisting.{has_all, joined}
use Rattle.rd_graph.proofs.Lists.Listing.{Has, cases, has_left, has_right, has_either}
use Rattle.rd_graph.proofs.Lists.Entries.{is_in-more, in_has, has_in, has_get}

module _ {E : Type 0} (same : E → E → Bool) (sound : (a b : E) → same a b ≡ true → a ≡ b) (reflexive : (a : E) → same a a ≡ true) where
  -- the loop over the elements of a list
  pub in_at : (xs : List E) (i : ℕ) (d k : E) → i < length xs → same (get_or xs i d) k ≡ true → is_in same xs k ≡ true
  in_at xs i d k l t = has_in same reflexive xs k (subst (λ (z : E). Has xs z) (sound (get_or xs i d) k t) (has_get xs i d l))

  pub in_next : (xs : List E) (i : ℕ) (d k : E) → i < length xs → is_in same (take i xs) k ≡ false → same (get_or xs i d) k ≡ false → is_in same (take (i + 1) xs) k ≡ false
  in_next xs i d k l n f = ap (λ ks. is_in same ks k) (take_more xs i d l) ∙ is_in-more same (take i xs) (get_or xs i d) k ∙ (rw f n)

  -- a list that has all of another
  pub has_each : (xs ks : List E) (a : E) → has_all same xs ks ≡ true → Has ks a → Has xs a
  has_each xs [] a h m = absurd m
  has_each xs (k ∷ ks) a h m = elim (cases (is_in same xs k)) [
    | inl t ↦
        let u : has_all same xs ks ≡ true = rw t at h in
        elim m [ inl e ↦ subst (λ (z : E). Has xs z) e (in_has same sound xs k t) | inr n ↦ has_each xs ks a u n ]
    | inr f ↦ let u : false ≡ true = rw f at h in absurd (cc)
  ]

  pub joined_either : (xs ks : List E) (a : E) → Has (joined same xs ks) a → Has xs a ⊎ Has ks a
  joined_either xs ks a h = elim (cases (has_all same xs ks)) [
    | inl t ↦ let u : Has xs a = rw t at h in inl u
    | inr f ↦ let u : Has (xs ++ ks) a = rw f at h in has_either xs ks a u
  ]

  pub joined_left : (xs ks : List E) (a : E) → Has xs a → Has (joined same xs ks) a
  joined_left xs ks a h = elim (cases (has_all same xs ks)) [
    | inl t ↦ rw t h
    | inr f ↦ rw f (has_left xs ks a h)
  ]

  pub joined_right : (xs ks : List E) (a : E) → Has ks a → Has (joined same xs ks) a
  joined_right xs ks a h = elim (cases (has_all same xs ks)) [
    | inl t ↦ rw t (has_each xs ks a t h)
    | inr f ↦ rw f (has_right xs ks a h)
  ]
