-- Links that stand for a forest, and what leaves them standing.
use Rattle.std.proofs.Common.{◌≡◌, refl, ap, ◌∙◌, sym, subst, ℕ, zero, suc, ◌≤◌, Bool, true, false, ◌||◌, cond, arith, ◌⊎◌, inl, inr}
use Rattle.std.specs.Prelude.{Option, Some, None, option_map}
use Rattle.rd_tree.specs.Forest.{Forest, empty, tree, size, ◌▷◌, has, children, with_children, AreApart, IsApart}
use Rattle.rd_tree.specs.Internal.Links.{Node, node, with_prev, with_next, with_ends, Stands, read, edit, edit_if, put}

pub cases : (b : Bool) → (b ≡ true) ⊎ (b ≡ false)
cases true = inl refl
cases false = inr refl

pub either : (a b : Bool) → (a || b) ≡ false → (a ≡ false) × (b ≡ false)
either true b h = absurd (cc)
either false b h = (refl, h)

pub from_left : (a b : Bool) → a ≡ true → (a || b) ≡ true
from_left a b h = rw h refl

pub from_right : (a b : Bool) → b ≡ true → (a || b) ≡ true
from_right true b h = refl
from_right false b h = h

-- not both
pub never : (b : Bool) → b ≡ true → b ≡ false → ⊥
never b h k = cc

pub refute : (b : Bool) → (b ≡ true → ⊥) → b ≡ false
refute true f = absurd (f refl)
refute false f = refl

-- A test of sameness does not mind the order.
pub flip : {K : Type 0} (same : K → K → Bool) (sound : (a b : K) → same a b ≡ true → a ≡ b) (reflexive : (a : K) → same a a ≡ true) (i j : K) → same i j
    ≡ same j i
flip same sound reflexive i j = elim (cases (same i j)) [
  | inl e ↦ subst (λ x. same i x ≡ same x i) (sound i j e) refl
  | inr e ↦ elim (cases (same j i)) [ inl f ↦ absurd (never (same i j) (subst (λ x. same x j ≡ true) (sound j i f) (reflexive j)) e) | inr f ↦ e ∙ sym f ]
]

assoc : (a b c d : Bool) → (a || (b || (c || d))) ≡ ((a || (b || c)) || d)
assoc true b c d = refl
assoc false true c d = refl
assoc false false c d = refl

module _ {K D : Type 0} where
  -- What is read is the forest for which the links stand.
  pub read-stands : (n : ℕ) (at : K → Option (Node K D)) (up prev : Option K) (f : Forest K D) (first last : Option K) →
      Stands at up prev f first last None → size f ≤ n → read n at first ≡ f
  read-stands zero at up prev empty first last s h = refl
  read-stands (suc n) at up prev empty first last s h = rw s.0 refl
  read-stands zero at up prev (tree k d below rest) first last s h = absurd (omega arith)
  read-stands (suc n) at up prev (tree k d below rest) first last s h =
      let b : size below ≤ n = omega arith in
      let r : size rest ≤ n = omega arith in
      let l : read n at s.0 ≡ below = read-stands n at (Some k) None below s.0 s.1 s.5 b in
      let m : read n at s.2 ≡ rest = read-stands n at up (Some k) rest s.2 last s.6 r in
      rw (s.3, s.4, l, m) refl

  -- The same is found at each key of the forest.
  abbrev pub Agree : (K → Option (Node K D)) → (K → Option (Node K D)) → Forest K D → Type 0
  Agree at new empty = Unit {0}
  Agree at new (tree k d below rest) = (new k ≡ at k) × Agree at new below × Agree at new rest

  pub frame : (at new : K → Option (Node K D)) (up prev : Option K) (f : Forest K D) (first last after : Option K) →
      Agree at new f → Stands at up prev f first last after → Stands new up prev f first last after
  frame at new up prev empty first last after h s = s
  frame at new up prev (tree k d below rest) first last after h s =
      (s.0, s.1, s.2, s.3, h.0 ∙ s.4, frame at new (Some k) None below s.0 s.1 None h.1 s.5, frame at new up (Some k) rest s.2 last after h.2 s.6)

  -- Siblings after siblings.
  pub join : (at : K → Option (Node K D)) (up prev : Option K) (f g : Forest K D) (first between middle last after : Option K) →
      Stands at up prev f first between middle → Stands at up between g middle last after → Stands at up prev (f ▷ g) first last after
  join at up prev empty g first between middle last after s t =
      rw s.0 (subst (λ x. Stands at up x g middle last after) s.1 t)
  join at up prev (tree k d below rest) g first between middle last after s t =
      (s.0, s.1, s.2, s.3, s.4, s.5, join at up (Some k) rest g s.2 between middle last after s.6 t)

  pub split : (at : K → Option (Node K D)) (up prev : Option K) (f g : Forest K D) (first last after : Option K) →
      Stands at up prev (f ▷ g) first last after →
      (between : Option K) × (middle : Option K) × Stands at up prev f first between middle × Stands at up between g middle last after
  split at up prev empty g first last after s = (prev, first, (refl, refl), s)
  split at up prev (tree k d below rest) g first last after s =
      let t : (between : Option K) × (middle : Option K) × Stands at up (Some k) rest s.2 between middle × Stands at up between g middle last after =
      split at up (Some k) rest g s.2 last after s.6 in
      (t.0, t.1, (s.0, s.1, s.2, s.3, s.4, s.5, t.2), t.3)

  pub agree_then : (at middle new : K → Option (Node K D)) (f : Forest K D) → Agree at middle f → Agree middle new f → Agree at new f
  agree_then at middle new empty h k = tt
  agree_then at middle new (tree j d below rest) h k = (k.0 ∙ h.0, agree_then at middle new below h.1 k.1, agree_then at middle new rest h.2 k.2)

  pub join-empty : (f : Forest K D) → f ▷ empty ≡ f
  join-empty empty = refl
  join-empty (tree k d below rest) = ap (tree k d below) (join-empty rest)

  module _ (same : K → K → Bool) (sound : (a b : K) → same a b ≡ true → a ≡ b) (reflexive : (a : K) → same a a ≡ true) where
    pub apart_back : (f g : Forest K D) → AreApart same f g → (j : K) → has same j g ≡ true → has same j f ≡ false
    apart_back f g h j k = elim (cases (has same j f)) [ inl e ↦ absurd (never (has same j g) k (h j e)) | inr e ↦ e ]

    -- one that is in the forest is no key that is not
    pub differs : (f : Forest K D) (a b : K) → has same a f ≡ true → has same b f ≡ false → same a b ≡ false
    differs f a b h k =
        elim (cases (same a b)) [ inl e ↦ absurd (never (has same b f) (subst (λ x. has same x f ≡ true) (sound a b e) h) k) | inr e ↦ e ]

    pub differs_back : (f : Forest K D) (a b : K) → has same a f ≡ false → has same b f ≡ true → same a b ≡ false
    differs_back f a b h k =
        elim (cases (same a b)) [ inl e ↦ absurd (never (has same a f) (subst (λ x. has same x f ≡ true) (sym (sound a b e)) k) h) | inr e ↦ e ]

    pub agree_edit : (p : K) (e : Node K D → Node K D) (at : K → Option (Node K D)) (f : Forest K D) → has same p f ≡ false → Agree at (edit same p e at) f
    agree_edit p e at empty h = tt
    agree_edit p e at (tree k d below rest) h =
        let s : (same p k ≡ false) × ((has same p below || has same p rest) ≡ false) = either (same p k) (has same p below || has same p rest) h in
        let t : (has same p below ≡ false) × (has same p rest ≡ false) = either (has same p below) (has same p rest) s.1 in
        (rw s.0 refl, agree_edit p e at below t.0, agree_edit p e at rest t.1)

    pub agree_put : (p : K) (n : Node K D) (at : K → Option (Node K D)) (f : Forest K D) → has same p f ≡ false → Agree at (put same p n at) f
    agree_put p n at empty h = tt
    agree_put p n at (tree k d below rest) h =
        let s : (same p k ≡ false) × ((has same p below || has same p rest) ≡ false) = either (same p k) (has same p below || has same p rest) h in
        let t : (has same p below ≡ false) × (has same p rest ≡ false) = either (has same p below) (has same p rest) s.1 in
        (rw s.0 refl, agree_put p n at below t.0, agree_put p n at rest t.1)

    pub agree_at : (at new : K → Option (Node K D)) (f : Forest K D) → ((j : K) → has same j f ≡ true → new j ≡ at j) → Agree at new f
    agree_at at new empty h = tt
    agree_at at new (tree k d below rest) h = (
      h k (from_left (same k k) (has same k below || has same k rest) (reflexive k)),
      agree_at at new below (λ j e. h j (from_right (same j k) (has same j below || has same j rest) (from_left (has same j below) (has same j rest) e))),
      agree_at at new rest (λ j e. h j (from_right (same j k) (has same j below || has same j rest) (from_right (has same j below) (has same j rest) e))),
    )

    -- the last of some siblings is one of them
    pub last_of : (at : K → Option (Node K D)) (up prev : Option K) (k : K) (d : D) (below rest : Forest K D) (first last after : Option K) →
        Stands at up prev (tree k d below rest) first last after → (l : K) × (last ≡ Some l) × (has same l (tree k d below rest) ≡ true)
    last_of at up prev k d below empty first last after s = (k, s.6.1, from_left (same k k) (has same k below || false) (reflexive k))
    last_of at up prev k d below (tree k2 d2 below2 rest2) first last after s =
        let t : (l : K) × (last ≡ Some l) × (has same l (tree k2 d2 below2 rest2) ≡ true) = last_of at up (Some k) k2 d2 below2 rest2 s.2 last after s.6 in (
          t.0,
          t.1,
          from_right (same t.0 k) (has same t.0 below || has same t.0 (tree k2 d2 below2 rest2)) (from_right (has same t.0 below) (has same t.0
              (tree k2 d2 below2 rest2)) t.2),
        )

    -- The last of some siblings gets another next one.
    pub stands_next : (v : Option K) (at : K → Option (Node K D)) (up prev : Option K) (k : K) (d : D) (below rest : Forest K D) (first last after : Option K) →
        IsApart same (tree k d below rest) → Stands at up prev (tree k d below rest) first last after →
        Stands (edit_if same last (with_next v) at) up prev (tree k d below rest) first last v
    stands_next v at up prev k d below empty first last after h s =
        subst (λ l. Stands (edit_if same l (with_next v) at) up prev (tree k d below empty) first l v) (sym s.6.1) (
          s.0,
          s.1,
          v,
          s.3,
          rw (reflexive k, s.4) refl,
          frame at (edit same k (with_next v) at) (Some k) None below s.0 s.1 None (agree_edit k (with_next v)
              at below h.0) s.5,
          (refl, refl),
        )
    stands_next v at up prev k d below (tree k2 d2 below2 rest2) first last after h s =
        let t : (l : K) × (last ≡ Some l) × (has same l (tree k2 d2 below2 rest2) ≡ true) = last_of at up (Some k) k2 d2 below2 rest2 s.2 last after s.6 in
        let r : Stands (edit_if same last (with_next v) at) up (Some k) (tree k2 d2 below2 rest2) s.2 last v = stands_next v at up (Some k) k2 d2 below2
        rest2 s.2 last after h.4 s.6 in
        let r2 : Stands (edit same t.0 (with_next v) at) up (Some k) (tree k2 d2 below2 rest2) s.2 last v = subst (λ l. Stands (edit_if same l
        (with_next v) at) up (Some k) (tree k2 d2 below2 rest2) s.2 last v) t.1 r in
        let out : has same t.0 below ≡ false = apart_back below (tree k2 d2 below2 rest2) h.2 t.0 t.2 in
        let e : same t.0 k ≡ false = differs (tree k2 d2 below2 rest2) t.0 k t.2 h.1 in
        subst (λ l. Stands (edit_if same l (with_next v) at) up prev (tree k d below (tree k2 d2 below2 rest2)) first last v) (sym t.1) (
          s.0,
          s.1,
          s.2,
          s.3,
          rw e s.4,
          frame at (edit same t.0 (with_next v) at) (Some k) None below s.0 s.1 None (agree_edit t.0 (with_next v) at below
              out) s.5,
          r2,
        )

    -- The first of some siblings gets another one before it.
    pub stands_prev : (v : Option K) (at : K → Option (Node K D)) (up prev : Option K) (k : K) (d : D) (below rest : Forest K D) (first last after : Option K) →
        IsApart same (tree k d below rest) → Stands at up prev (tree k d below rest) first last after →
        Stands (edit same k (with_prev v) at) up v (tree k d below rest) first last after
    stands_prev v at up prev k d below rest first last after h s = (
      s.0,
      s.1,
      s.2,
      s.3,
      rw (reflexive k, s.4) refl,
      frame at (edit same k (with_prev v) at) (Some k) None below s.0 s.1 None (agree_edit k (with_prev v) at below h.0) s.5,
      frame at (edit same k (with_prev v) at) up (Some k) rest s.2 last after (agree_edit k (with_prev v) at rest h.1) s.6,
    )

    pub has-join : (j : K) (f g : Forest K D) → has same j (f ▷ g) ≡ (has same j f || has same j g)
    has-join j empty g = refl
    has-join j (tree k d below rest) g =
        rw (has-join j rest g) (assoc (same j k) (has same j below) (has same j rest) (has same j g))

    pub out_of_children : (j p : K) (f : Forest K D) → has same j f ≡ false → has same j (children same p f) ≡ false
    out_of_children j p empty h = refl
    out_of_children j p (tree k d below rest) h =
        let s : (same j k ≡ false) × ((has same j below || has same j rest) ≡ false) = either (same j k) (has same j below || has same j rest) h in
        let t : (has same j below ≡ false) × (has same j rest ≡ false) = either (has same j below) (has same j rest) s.1 in
        elim (same p k) as (λ b. has same j (cond b below (children same p below ▷ children same p rest)) ≡ false) [
          | true ↦ t.0
          | false ↦ rw (has-join j (children same p below) (children same p rest), out_of_children j p below t.0, out_of_children j p rest t.1) refl
        ]

    -- nothing is below a key that is not there
    pub no_children : (p : K) (f : Forest K D) → has same p f ≡ false → children same p f ≡ empty
    no_children p empty h = refl
    no_children p (tree k d below rest) h =
        let s : (same p k ≡ false) × ((has same p below || has same p rest) ≡ false) = either (same p k) (has same p below || has same p rest) h in
        let t : (has same p below ≡ false) × (has same p rest ≡ false) = either (has same p below) (has same p rest) s.1 in
        rw (s.0, no_children p below t.0, no_children p rest t.1) refl

    -- Only what is below p changes, and p's own links to it.
    pub stands_under : (at new : K → Option (Node K D)) (p : K) (g : Forest K D) (a b up prev : Option K) (f : Forest K D) (first last after : Option K) →
        Stands new (Some p) None g a b None → new p ≡ option_map (with_ends a b) (at p) →
        IsApart same f → Stands at up prev f first last after →
        ((j : K) → has same j f ≡ true → same p j ≡ false → has same j (children same p f) ≡ false → new j ≡ at j) →
        Stands new up prev (with_children same p g f) first last after
    stands_under at new p g a b up prev empty first last after sg sp h s others = s
    stands_under at new p g a b up prev (tree k d below rest) first last after sg sp h s others =
        elim (cases (same p k)) [
          | inl e ↦
              let is : p ≡ k = sound p k e in
              let kept : (j : K) → has same j rest ≡ true → new j ≡ at j =
              λ j m. others j (from_right (same j k) (has same j below || has same j rest) (from_right (has same j below) (has same j rest) m))
              (differs_back rest p j (subst (λ x. has same x rest ≡ false) (sym is) h.1) m)
              (rw e (apart_back below rest h.2 j m)) in
              let found : new k ≡ Some (node d up prev a b s.2) = subst (λ x. new x ≡ option_map (with_ends a b) (at x)) is sp ∙ ap (option_map
              (with_ends a b)) s.4 in
              rw e (
                a,
                b,
                s.2,
                s.3,
                found,
                subst (λ x. Stands new (Some x) None g a b None) is sg,
                frame at new up (Some k) rest s.2 last after
                    (agree_at at new rest kept) s.6,
              )
          | inr e ↦
              let both : (j : K) → has same j (children same p below) ≡ false → has same j (children same p rest) ≡ false → has same j (children same p
              (tree k d below rest)) ≡ false =
              λ j m n. rw (e, has-join j (children same p below) (children same p rest), m, n) refl in
              let here : new k ≡ at k = others k (from_left (same k k) (has same k below || has same k rest) (reflexive k)) e (both k (out_of_children k p
              below h.0) (out_of_children k p rest h.1)) in
              let low : Stands new (Some k) None (with_children same p g below) s.0 s.1 None = stands_under at new p g a b (Some k) None below s.0 s.1 None
              sg sp h.3 s.5
              (λ j m n o. others j (from_right (same j k) (has same j below || has same j rest) (from_left (has same j below) (has same j rest) m)) n
              (both j o (out_of_children j p rest (h.2 j m)))) in
              let later : Stands new up (Some k) (with_children same p g rest) s.2 last after = stands_under at new p g a b up (Some k) rest s.2 last after
              sg sp h.4 s.6
              (λ j m n o. others j (from_right (same j k) (has same j below || has same j rest) (from_right (has same j below) (has same j rest) m)) n
              (both j (out_of_children j p below (apart_back below rest h.2 j m)) o)) in
              rw e (s.0, s.1, s.2, s.3, here ∙ s.4, low, later)
        ]
