-- Lists with the same leaves, each once, in which each two stand in the same order, are the same.
use Rattle.std.proofs.Common.{◌≡◌, refl, ap, ◌∙◌, sym, subst, Bool, true, false, ◌||◌, List, [], ◌∷◌, map, ◌⊎◌, inl, inr}
use Rattle.std.specs.List.{IsDistinct, AllByRecursion}
use Rattle.std.proofs.lemmas.Map.Keys.{IsDistinct-head, IsDistinct-tail}
use Rattle.rd_keys.proofs.Keys.{same_key-refl}
use Rattle.rd_item.specs.declared.leaf.Leaf.{Leaf}
use Rattle.rd_graph.proofs.Lists.Listing.{Has}
use Rattle.rd_list.specs.Lists.{same_leaf, pair_in_order}
use Rattle.rd_graph.proofs.Lists.Entries.{same_part-refl}
use Rattle.rd_stack.proofs.Orders.Members.{first_kept, later_kept}

pub same_leaf-refl : (l : Leaf) → same_leaf l l ≡ true
same_leaf-refl l = rw (same_key-refl l.owner, same_part-refl l.part) refl

true_or : (a b : Bool) → b ≡ true → (a || b) ≡ true
true_or true b h = refl
true_or false b h = h

none_of : {A : Type 0} (p : A → Bool) (xs : List A) (x : A) → AllByRecursion (λ y. p y ≡ false) xs → Has xs x → p x ≡ false
none_of p [] x a h = absurd h
none_of p (y ∷ ys) x a (inl e) = ap p (sym e) ∙ a.0
none_of p (y ∷ ys) x a (inr h) = none_of p ys x a.1 h

module _ {R : Type 0} (g : R → Leaf) where
  abbrev pub same : R → R → Bool
  same a b = same_leaf (g a) (g b)

  -- none later in the list has the first one's leaf
  not_later : {P : Type 0} (k x : R) (ks : List R) → IsDistinct same (k ∷ ks) → g k ≡ g x → Has ks x → P
  not_later {P = P} k x ks d e h =
      let n : same_leaf (g k) (g x) ≡ false = none_of (λ y. same k y) ks x (IsDistinct-head same k ks d) h in
      let t : same_leaf (g k) (g x) ≡ true = subst (λ l. same_leaf (g k) l ≡ true) e (same_leaf-refl (g k)) in
      cc

  pub in_order : (ks fs : List R) → IsDistinct same ks → IsDistinct same fs → ((x : R) → Has ks x → Has fs x) → ((x : R) → Has fs x → Has ks x)
      → ((a b : R) → Has fs a → Has fs b → pair_in_order (g a) (g b) (map g ks) ≡ pair_in_order (g a) (g b) (map g fs)) → ks ≡ fs
  in_order [] [] d c m n o = refl
  in_order [] (f ∷ fs) d c m n o = absurd (n f (inl refl))
  in_order (k ∷ ks) [] d c m n o = absurd (m k (inl refl))
  in_order (k ∷ ks) (f ∷ fs) d c m n o =
      let at : (f ≡ k) ⊎ Has fs k = m k (inl refl) in
      let heads : g k ≡ g f =
      first_kept (λ l. same_leaf (g k) l || same_leaf (g f) l) (g k) (g f) (map g ks) (map g fs) (rw (same_leaf-refl (g k)) refl) (true_or _ _ (same_leaf-refl (g f))) (o k f at (inl refl)) in
      let is : f ≡ k = elim at [ inl e ↦ e | inr h ↦ not_later f k fs c (sym heads) h ] in
      let later : (x : R) → Has ks x → Has fs x = λ x h. elim (m x (inr h)) [ inl e ↦ not_later k x ks d (heads ∙ ap g e) h | inr i ↦ i ] in
      let back : (x : R) → Has fs x → Has ks x = λ x h. elim (n x (inr h)) [ inl e ↦ not_later f x fs c (sym heads ∙ ap g e) h | inr i ↦ i ] in
      let rest : ks ≡ fs = in_order ks fs (IsDistinct-tail same k ks d) (IsDistinct-tail same f fs c) later back
      (λ a b h i. later_kept (λ l. same_leaf (g a) l || same_leaf (g b) l) (g k) (g f) (map g ks) (map g fs) heads (o a b (inr h) (inr i))) in
      cc
