-- New lists of predecessors, by the places of their nodes.
use Rattle.std.proofs.Common.{◌≡◌, refl, ap, ◌∙◌, sym, subst, ℕ, zero, suc, ◌<◌, ◌==◌, true, false, cond, List, [], ◌∷◌, ◌++◌, length, get_or, arith, inl, inr}
use Rattle.std.specs.Prelude.{Contains, ◌↔◌}
use Rattle.std.proofs.lemmas.Bool.Decides.{nat_tests}
use Rattle.rd_graph.specs.Graphs.{Graph, nodes, Precedes}
use Rattle.rd_graph.specs.Patches.{with_list, with_lists}
use Rattle.rd_graph.specs.Internal.Relisting.{list_at, IsAt}
use Rattle.rd_graph.proofs.Lists.Listing.{Has, cases, has_from, contains_from}

pub same_place : (i k : ℕ) → (i == k) ≡ true → i ≡ k
same_place i k h = grind (arith, nat_tests)

pub other_place : (i k : ℕ) → (i == k) ≡ false → i ≡ k → ⊥
other_place i k h e = grind (arith, nat_tests)

pub place_is : (i k : ℕ) → i ≡ k → (i == k) ≡ true
place_is i k e = grind (arith, nat_tests)

pub place_is_not : (i k : ℕ) → (i ≡ k → ⊥) → (i == k) ≡ false
place_is_not i k d = elim (cases (i == k)) [ inl t ↦ absurd (d (same_place i k t)) | inr f ↦ f ]

module _ {A : Type 0} where
  pub get_same : (xs : List A) (k : ℕ) (d e : A) → k < length xs → get_or xs k d ≡ get_or xs k e
  get_same [] k d e l = absurd (omega arith)
  get_same (x ∷ xs) zero d e l = refl
  get_same (x ∷ xs) (suc k) d e l = get_same xs k d e (omega arith)

module _ {E : Type 0} where
  pub list_at-append : (ls ms : List (ℕ × List E)) (k : ℕ) (ps : List E) → list_at (ls ++ ms) k ps ≡ list_at ms k (list_at ls k ps)
  list_at-append [] ms k ps = refl
  list_at-append (l ∷ ls) ms k ps = list_at-append ls ms k (cond (l.0 == k) l.1 ps)

  -- one more list
  pub list_at-here : (ls : List (ℕ × List E)) (k : ℕ) (qs ps : List E) → list_at (ls ++ (k, qs) ∷ []) k ps ≡ qs
  list_at-here ls k qs ps = list_at-append ls ((k, qs) ∷ []) k ps ∙ (let t = place_is k k refl in rw t refl)

  pub list_at-there : (ls : List (ℕ × List E)) (i k : ℕ) (qs ps : List E) → (i ≡ k → ⊥) → list_at (ls ++ (i, qs) ∷ []) k ps ≡ list_at ls k ps
  list_at-there ls i k qs ps d = list_at-append ls ((i, qs) ∷ []) k ps ∙ (let f = place_is_not i k d in rw f refl)

  with_list-length : (i : ℕ) (ps : List E) (g : Graph E) → length (with_list i ps g) ≡ length g
  with_list-length i ps [] = refl
  with_list-length zero ps (x ∷ xs) = refl
  with_list-length (suc i) ps (x ∷ xs) = ap suc (with_list-length i ps xs)

  with_lists-length : (ls : List (ℕ × List E)) (g : Graph E) → length (with_lists ls g) ≡ length g
  with_lists-length [] g = refl
  with_lists-length (l ∷ ls) g = with_lists-length ls (with_list l.0 l.1 g) ∙ with_list-length l.0 l.1 g

  at_here : (k : ℕ) (ps : List E) (g : Graph E) (x : E × List E) → IsAt g k x → get_or (with_list k ps g) k (x.0, ps) ≡ (x.0, ps)
  at_here k ps [] x h = refl
  at_here zero ps (y ∷ g) x h = ap (λ q. (q.0, ps)) h.1
  at_here (suc k) ps (y ∷ g) x h = at_here k ps g x ((let l = h.0 in omega (arith, l)), h.1)

  at_there : (i k : ℕ) (ps : List E) (g : Graph E) (x : E × List E) → (i ≡ k → ⊥) → IsAt g k x → get_or (with_list i ps g) k x ≡ x
  at_there i k ps [] x d h = refl
  at_there zero zero ps (y ∷ g) x d h = absurd (d refl)
  at_there zero (suc k) ps (y ∷ g) x d h = h.1
  at_there (suc i) zero ps (y ∷ g) x d h = h.1
  at_there (suc i) (suc k) ps (y ∷ g) x d h = at_there i k ps g x (λ e. d (ap suc e)) ((let l = h.0 in omega (arith, l)), h.1)

  with_list-at : (i k : ℕ) (ps : List E) (g : Graph E) (x : E × List E) → IsAt g k x → IsAt (with_list i ps g) k (x.0, cond (i == k) ps x.1)
  with_list-at i k ps g x h = (
    subst (λ n. k < n) (sym (with_list-length i ps g)) h.0,
    elim (cases (i == k)) [
      | inl t ↦ rw t (subst (λ j. get_or (with_list j ps g) k (x.0, ps) ≡ (x.0, ps)) (sym (same_place i k t)) (at_here k ps g x h))
      | inr f ↦ rw f (at_there i k ps g x (other_place i k f) h)
    ],
  )

  pub with_lists-at : (ls : List (ℕ × List E)) (g : Graph E) (k : ℕ) (x : E × List E) → IsAt g k x → IsAt (with_lists ls g) k (x.0, list_at ls k x.1)
  with_lists-at [] g k x h = h
  with_lists-at (l ∷ ls) g k x h = with_lists-at ls (with_list l.0 l.1 g) k (x.0, cond (l.0 == k) l.1 x.1) (with_list-at l.0 k l.1 g x h)

  -- the node at a place
  pub is_at : (g : Graph E) (k : ℕ) (d : E × List E) → k < length g → IsAt g k (get_or g k d)
  is_at g k d l = (l, get_same g k (get_or g k d) d l)

  pub node_at : (g : Graph E) (b : E) → Contains (nodes g) b → (k : ℕ) × (x : E × List E) × IsAt g k x × (x.0 ≡ b)
  node_at g b c = by g (has_from (nodes g) b c)
    where
      by : (xs : Graph E) → Has (nodes xs) b → (k : ℕ) × (x : E × List E) × IsAt xs k x × (x.0 ≡ b)
      by [] h = absurd h
      by (x ∷ xs) (inl e) = (0, x, (omega arith, refl), e)
      by (x ∷ xs) (inr h) = let r = by xs h in (suc r.0, r.1, ((let l = r.2.0 in omega (arith, l)), r.2.1), r.3)

  pub at_has : (g : Graph E) (k : ℕ) (x : E × List E) → IsAt g k x → Has g x
  at_has g k x h = has_from g x (k, h.0, h.1)

  -- the edges by place
  module _ (step : E → E → Type 0) (wanted : E → Type 0) (ls : List (ℕ × List E)) (g : Graph E)
      (is : (k : ℕ) (x : E × List E) → IsAt g k x → wanted x.0 → (a : E) → Has (list_at ls k x.1) a ↔ step a x.0) where
    pub edges_by : (a b : E) → Contains (nodes g) b → wanted b → Precedes (with_lists ls g) a b ↔ step a b
    edges_by a b c w = (
      (λ s.
          let k : ℕ = s.1.0 in
          let l : k < length g = subst (λ n. k < n) (with_lists-length ls g) s.1.1 in
          let x : E × List E = get_or g k (b, s.0) in
          let t = with_lists-at ls g k x (is_at g k (b, s.0) l) in
          let e : (x.0, list_at ls k x.1) ≡ (b, s.0) = sym t.1 ∙ get_same (with_lists ls g) k (x.0, list_at ls k x.1) (b, s.0) s.1.1 ∙ s.1.2 in
          let n : x.0 ≡ b = ap (λ q. q.0) e in
          subst (λ z. step a z) n ((is k x (is_at g k (b, s.0) l) (subst wanted (sym n) w) a).0 (subst (λ (z : List E). Has z a) (sym (ap (λ q. q.1) e)) (has_from s.0 a s.2)))),
      (λ s.
          let r = node_at g b c in
          let k : ℕ = r.0 in
          let x : E × List E = r.1 in
          let t = with_lists-at ls g k x r.2 in
          let m : Has (list_at ls k x.1) a = (is k x r.2 (subst wanted (sym r.3) w) a).1 (subst (λ z. step a z) (sym r.3) s) in
          let e : (x.0, list_at ls k x.1) ≡ (b, list_at ls k x.1) = ap (λ z. (z, list_at ls k x.1)) r.3 in
          (list_at ls k x.1, subst (λ (z : E × List E). Contains (with_lists ls g) z) e (k, t.0, t.1), contains_from (list_at ls k x.1) a m)),
    )
