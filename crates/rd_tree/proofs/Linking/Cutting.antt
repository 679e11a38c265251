-- A box is cut out from among its siblings.
use Rattle.std.proofs.Common.{◌≡◌, refl, ap, ◌∙◌, sym, subst, Bool, true, false, ◌||◌, ◌⊎◌, inl, inr}
use Rattle.std.specs.Prelude.{Option, Some, None, option_map}
use Rattle.rd_tree.specs.Forest.{Forest, empty, tree, ◌▷◌, has, children, with_children, without_branch, AreApart, IsApart}
use Rattle.rd_tree.specs.Internal.Links.{Node, node, with_prev, with_next, with_ends, Stands, edit, edit_if, end_after, cut}
use Rattle.rd_tree.proofs.Linking.Standing.{cases, never, either, from_left, from_right, Agree, frame, join, split, agree_edit, agree_at, join-empty, last_of, stands_next, stands_prev, stands_under, has-join, out_of_children, no_children, differs, apart_back}
use Rattle.rd_tree.proofs.Linking.Children.{stands_children}
use Rattle.rd_tree.proofs.Forests.Under.{which, no_under}

-- k is one of the siblings
pub record Among {K D : Type 0} (k : K) (f : Forest K D) : Type 0 where
  pub item : D
  pub before : Forest K D
  pub below : Forest K D
  pub after : Forest K D
  pub is : f ≡ before ▷ tree k item below after

module _ {K D : Type 0} (same : K → K → Bool) (sound : (a b : K) → same a b ≡ true → a ≡ b) (reflexive : (a : K) → same a a ≡ true) where
  pub agree_edit_if : (o : Option K) (e : Node K D → Node K D) (at : K → Option (Node K D)) (f : Forest K D) → ((l : K) → o ≡ Some l → has same l f
      ≡ false) → Agree at (edit_if same o e at) f
  agree_edit_if None e at f h = agree_at same sound reflexive at at f (λ j _. refl)
  agree_edit_if (Some l) e at f h = agree_edit same sound reflexive l e at f (h l refl)

  pub edit_if_off : (o : Option K) (e : Node K D → Node K D) (m : K → Option (Node K D)) (j : K) → ((l : K) → o ≡ Some l → same l j ≡ false)
      → edit_if same o e m j ≡ m j
  edit_if_off None e m j h = refl
  edit_if_off (Some l) e m j h = rw (h l refl) refl

  pub last_in : (at : K → Option (Node K D)) (up : Option K) (xs : Forest K D) (first last after : Option K) → Stands at up None xs first last after
      → (l : K) → last ≡ Some l → has same l xs ≡ true
  last_in at up empty first last after s l h = cc (s.1, h)
  last_in at up (tree k d below rest) first last after s l h =
      let t : (m : K) × (last ≡ Some m) × (has same m (tree k d below rest) ≡ true) = last_of same sound reflexive at up None k d below rest first last
      after s in
      let e : t.0 ≡ l = cc (t.1, h) in
      subst (λ m. has same m (tree k d below rest) ≡ true) e t.2

  pub first_in : (at : K → Option (Node K D)) (up prev : Option K) (ys : Forest K D) (first last : Option K) → Stands at up prev ys first last None
      → (l : K) → first ≡ Some l → has same l ys ≡ true
  first_in at up prev empty first last s l h = cc (s.0, h)
  first_in at up prev (tree k d below rest) first last s l h =
      let e : k ≡ l = cc (s.3, h) in
      subst (λ m. has same m (tree k d below rest) ≡ true) e (from_left (same k k) (has same k below || has same k rest) (reflexive k))

  pub cut_left : (at : K → Option (Node K D)) (up : Option K) (xs : Forest K D) (first between middle c : Option K) → IsApart same xs
      → Stands at up None xs first between middle →
      Stands (edit_if same between (with_next c) at) up None xs (end_after between c first) between c
  cut_left at up empty first between middle c a s = (rw s.1 refl, s.1)
  cut_left at up (tree k d below rest) first between middle c a s =
      let t : (l : K) × (between ≡ Some l) × (has same l (tree k d below rest) ≡ true) = last_of same sound reflexive at up None k d below rest first
      between middle s in
      let e : first ≡ end_after between c first = rw t.1 refl in
      subst (λ z. Stands (edit_if same between (with_next c) at) up None (tree k d below rest) z between c) e (stands_next same sound reflexive c at up
      None k d below rest first between middle a s)

  pub cut_right : (at : K → Option (Node K D)) (up prev v : Option K) (ys : Forest K D) (c last : Option K) → IsApart same ys → Stands at up prev ys c last
      None →
      Stands (edit_if same c (with_prev v) at) up v ys c (end_after c v last) None
  cut_right at up prev v empty c last a s = (s.0, rw s.0 refl)
  cut_right at up prev v (tree k d below rest) c last a s =
      let r : Stands (edit same k (with_prev v) at) up v (tree k d below rest) c last None = stands_prev same sound reflexive v at up prev k d below rest c
      last None a s in
      let e : last ≡ end_after c v last = rw s.3 refl in
      subst (λ z. Stands (edit_if same c (with_prev v) at) up v (tree k d below rest) c z None) e
      (subst (λ o. Stands (edit_if same o (with_prev v) at) up v (tree k d below rest) c last None) (sym s.3) r)

  pub apart_left : (f g : Forest K D) → IsApart same (f ▷ g) → IsApart same f
  apart_left empty g a = tt
  apart_left (tree k d below rest) g a =
      let o : (has same k rest ≡ false) × (has same k g ≡ false) = either (has same k rest) (has same k g) (sym (has-join same sound reflexive k rest g)
      ∙ a.1) in
      let br : AreApart same below rest = λ j u. (either (has same j rest) (has same j g) (sym (has-join same sound reflexive j rest g) ∙ a.2 j u)).0 in
      (a.0, o.0, br, a.3, apart_left rest g a.4)

  pub apart_right : (f g : Forest K D) → IsApart same (f ▷ g) → IsApart same g
  apart_right empty g a = a
  apart_right (tree k d below rest) g a = apart_right rest g a.4

  pub apart_between : (f g : Forest K D) → IsApart same (f ▷ g) → AreApart same f g
  apart_between empty g a j u = absurd (never false u refl)
  apart_between (tree k d below rest) g a j u =
      elim (which (same j k) (has same j below || has same j rest) u) [
        | inl e ↦ subst (λ i. has same i g ≡ false) (sym (sound j k e)) (either (has same k rest) (has same k g) (sym (has-join same sound reflexive k rest
            g) ∙ a.1)).1
        | inr e ↦ elim (which (has same j below) (has same j rest) e) [
          | inl i ↦ (either (has same j rest) (has same j g) (sym (has-join same sound reflexive j rest g) ∙ a.2 j i)).1
          | inr i ↦ apart_between rest g a.4 j i
        ]
      ]

  -- The siblings stand without k once their links say so.
  cut_children : (at : K → Option (Node K D)) (p k : K) (d : D) (xs below ys : Forest K D) (first last : Option K) (x : Node K D) →
      IsApart same (xs ▷ tree k d below ys) → Stands at (Some p) None (xs ▷ tree k d below ys) first last None → at k ≡ Some x → has same p (xs ▷ tree k d
      below ys) ≡ false →
      Stands (cut same p x first last at) (Some p) None (xs ▷ ys) (end_after x.prev x.next first) (end_after x.next x.prev last) None
  cut_children at p k d xs below ys first last x a s found out =
      let t : (between : Option K) × (middle : Option K) × Stands at (Some p) None xs first between middle × Stands at (Some p) between (tree k d below ys)
      middle last None = split at (Some p) None xs (tree k d below ys) first last None s in
      let v : Option K = t.0 in
      let c : Option K = t.3.2 in
      let e : node d (Some p) t.0 t.3.0 t.3.1 t.3.2 ≡ x = cc (t.3.4, found) in
      let ax : IsApart same xs = apart_left xs (tree k d below ys) a in
      let ay : IsApart same ys = (apart_right xs (tree k d below ys) a).4 in
      let away : AreApart same xs (tree k d below ys) = apart_between xs (tree k d below ys) a in
      let xy : AreApart same xs ys = λ j u. (either (has same j below) (has same j ys) (either (same j k) (has same j below || has same j ys)
      (away j u)).1).1 in
      let o : (has same p xs ≡ false) × (has same p (tree k d below ys) ≡ false) = either (has same p xs) (has same p (tree k d below ys)) (sym
      (has-join same sound reflexive p xs (tree k d below ys)) ∙ out) in
      let oy : has same p ys ≡ false = (either (has same p below) (has same p ys) (either (same p k) (has same p below || has same p ys) o.1).1).1 in
      let at1 : K → Option (Node K D) = edit_if same v (with_next c) at in
      let at2 : K → Option (Node K D) = edit_if same c (with_prev v) at1 in
      let at3 : K → Option (Node K D) = edit same p (with_ends (end_after v c first) (end_after c v last)) at2 in
      let x1 : Stands at1 (Some p) None xs (end_after v c first) v c = cut_left at (Some p) xs first v t.1 c ax t.2 in
      let y0 : Stands at1 (Some p) (Some k) ys c last None = frame at at1 (Some p) (Some k) ys c last None
      (agree_edit_if v (with_next c) at ys (λ l h. xy l (last_in at (Some p) xs first v t.1 t.2 l h))) t.3.6 in
      let y2 : Stands at2 (Some p) v ys c (end_after c v last) None = cut_right at1 (Some p) (Some k) v ys c last ay y0 in
      let x2 : Stands at2 (Some p) None xs (end_after v c first) v c = frame at1 at2 (Some p) None xs (end_after v c first) v c
      (agree_edit_if c (with_prev v) at1 xs (λ l h. apart_back same sound reflexive xs ys xy l (first_in at1 (Some p) (Some k) ys c last y0 l h))) x1 in
      let x3 : Stands at3 (Some p) None xs (end_after v c first) v c = frame at2 at3 (Some p) None xs (end_after v c first) v c (agree_edit same sound
      reflexive p (with_ends (end_after v c first) (end_after c v last)) at2 xs o.0) x2 in
      let y3 : Stands at3 (Some p) v ys c (end_after c v last) None = frame at2 at3 (Some p) v ys c (end_after c v last) None (agree_edit same sound
      reflexive p (with_ends (end_after v c first) (end_after c v last)) at2 ys oy) y2 in
      let all : Stands at3 (Some p) None (xs ▷ ys) (end_after v c first) (end_after c v last) None = join at3 (Some p) None xs ys (end_after v c first) v c
      (end_after c v last) None x3 y3 in
      subst (λ z. Stands (cut same p z first last at) (Some p) None (xs ▷ ys) (end_after z.prev z.next first) (end_after z.next z.prev last) None) e all

  -- Whose child a box is, and where it stands.
  pub place : (at : K → Option (Node K D)) (up prev : Option K) (f : Forest K D) (first last after : Option K) (k : K) (x : Node K D) →
      IsApart same f → Stands at up prev f first last after → has same k f ≡ true → at k ≡ Some x →
      ((a : Among k f) × (x.up ≡ up) × (children same k f ≡ a.below)) ⊎ ((p : K) × (x.up ≡ Some p) × (has same p f ≡ true) × ((a : Among k (children same p
      f)) × (children same k f ≡ a.below)))
  place at up prev empty first last after k x a s m found = absurd (never false m refl)
  place at up prev (tree j d below rest) first last after k x a s m found =
      elim (cases (same k j)) [
        | inl e ↦
            let is : k ≡ j = sound k j e in
            let n : x ≡ node d up prev s.0 s.1 s.2 = cc (found, s.4, ap at is) in
            inl (
              record {
                item = d;
                before = empty;
                below = below;
                after = rest;
                is = subst (λ i. tree j d below rest ≡ tree i d below rest) (sym is) refl;
              },
              ap (λ y. y.up) n,
              rw e refl,
            )
        | inr e ↦
            elim (cases (has same k below)) [
              | inl i ↦
                  let none : children same k rest ≡ empty = no_children same sound reflexive k rest (a.2 k i) in
                  let low : children same k (tree j d below rest) ≡ children same k below = rw (e, none) (join-empty (children same k below)) in
                  elim (place at (Some j) None below s.0 s.1 None k x a.3 s.5 i found) [
                    | inl t ↦
                        let here : below ≡ children same j (tree j d below rest) = rw (reflexive j) refl in
                        inr (
                          j,
                          t.1,
                          from_left (same j j) (has same j below || has same j rest) (reflexive j),
                          (record { item = t.0.item; before = t.0.before; below = t.0.below; after = t.0.after; is = sym here ∙ t.0.is }, low ∙ t.2),
                        )
                    | inr t ↦
                        let pj : same t.0 j ≡ false = differs same sound reflexive below t.0 j t.2 a.0 in
                        let pr : children same t.0 rest ≡ empty = no_children same sound reflexive t.0 rest (a.2 t.0 t.2) in
                        let here : children same t.0 (tree j d below rest) ≡ children same t.0 below = rw (pj, pr) (join-empty (children same t.0 below)) in
                        inr (
                          t.0,
                          t.1,
                          from_right (same t.0 j) (has same t.0 below || has same t.0 rest) (from_left (has same t.0 below) (has same t.0 rest) t.2),
                          (record { item = t.3.0.item; before = t.3.0.before; below = t.3.0.below; after = t.3.0.after; is = here ∙ t.3.0.is }, low ∙ t.3.1),
                        )
                  ]
              | inr o ↦
                  let i : has same k rest ≡ true = rw (e, o) at m in
                  let none : children same k below ≡ empty = no_children same sound reflexive k below o in
                  let low : children same k (tree j d below rest) ≡ children same k rest = rw (e, none) refl in
                  elim (place at up (Some j) rest s.2 last after k x a.4 s.6 i found) [
                    | inl t ↦
                        inl (
                          record {
                            item = t.0.item;
                            before = tree j d below t.0.before;
                            below = t.0.below;
                            after = t.0.after;
                            is = ap (tree j d below)
                                t.0.is;
                          },
                          t.1,
                          low ∙ t.2,
                        )
                    | inr t ↦
                        let pj : same t.0 j ≡ false = differs same sound reflexive rest t.0 j t.2 a.1 in
                        let pb : children same t.0 below ≡ empty = no_children same sound reflexive t.0 below (apart_back same sound reflexive below rest
                        a.2 t.0 t.2) in
                        let here : children same t.0 (tree j d below rest) ≡ children same t.0 rest = rw (pj, pb) refl in
                        inr (
                          t.0,
                          t.1,
                          from_right (same t.0 j) (has same t.0 below || has same t.0 rest) (from_right (has same t.0 below) (has same t.0 rest) t.2),
                          (record { item = t.3.0.item; before = t.3.0.before; below = t.3.0.below; after = t.3.0.after; is = here ∙ t.3.0.is }, low ∙ t.3.1),
                        )
                  ]
            ]
      ]

  -- Once the links say so, the forest stands with k cut out from below p.
  pub stands_cut : (at : K → Option (Node K D)) (up prev : Option K) (f : Forest K D) (first last after : Option K) (p k : K) (x y : Node K D) (w : Among k
      (children same p f)) →
      IsApart same f → Stands at up prev f first last after → has same p f ≡ true → at k ≡ Some x → at p ≡ Some y →
      Stands (cut same p x y.first y.last at) up prev (with_children same p (w.before ▷ w.after) f) first last after
  stands_cut at up prev f first last after p k x y w a s m found at_p =
      let c : Forest K D = w.before ▷ tree k w.item w.below w.after in
      let t : (z : Node K D) × (at p ≡ Some z) × Stands at (Some p) None (children same p f) z.first z.last None × IsApart same (children same p f)
      × (has same p (children same p f) ≡ false) = stands_children same sound reflexive at up prev f first last after p a s m in
      let e : t.0 ≡ y = cc (t.1, at_p) in
      let s0 : Stands at (Some p) None (children same p f) y.first y.last None = subst (λ z. Stands at (Some p) None (children same p f) z.first z.last
      None) e t.2 in
      let s1 : Stands at (Some p) None c y.first y.last None = subst (λ g. Stands at (Some p) None g y.first y.last None) w.is s0 in
      let ac : IsApart same c = subst (λ g. IsApart same g) w.is t.3 in
      let pc : has same p c ≡ false = subst (λ g. has same p g ≡ false) w.is t.4 in
      let sg : Stands (cut same p x y.first y.last at) (Some p) None (w.before ▷ w.after) (end_after x.prev x.next y.first) (end_after x.next x.prev
      y.last) None =
      cut_children at p k w.item w.before w.below w.after y.first y.last x ac s1 found pc in
      let u : (between : Option K) × (middle : Option K) × Stands at (Some p) None w.before y.first between middle × Stands at (Some p) between
      (tree k w.item w.below w.after) middle y.last None = split at (Some p) None w.before (tree k w.item w.below w.after) y.first y.last None s1 in
      let n : node w.item (Some p) u.0 u.3.0 u.3.1 u.3.2 ≡ x = cc (u.3.4, found) in
      let left : (l : K) → x.prev ≡ Some l → has same l c ≡ true = λ l h.
      has-join same sound reflexive l w.before (tree k w.item w.below w.after) ∙ from_left (has same l w.before) (has same l (tree k w.item w.below w.after))
      (last_in at (Some p) w.before y.first u.0 u.1 u.2 l (ap (λ z. z.prev) n ∙ h)) in
      let right : (l : K) → x.next ≡ Some l → has same l c ≡ true = λ l h.
      has-join same sound reflexive l w.before (tree k w.item w.below w.after) ∙ from_right (has same l w.before) (has same l (tree k w.item w.below w.after))
      (from_right (same l k) (has same l w.below || has same l w.after) (from_right (has same l w.below) (has same l w.after)
      (first_in at (Some p) (Some k) w.after u.3.2 y.last u.3.6 l (ap (λ z. z.next) n ∙ h)))) in
      let kept : (j : K) → has same j c ≡ false → edit_if same x.next (with_prev x.prev) (edit_if same x.prev (with_next x.next) at) j ≡ at j = λ j o.
      edit_if_off x.next (with_prev x.prev) (edit_if same x.prev (with_next x.next) at) j (λ l h. differs same sound reflexive c l j (right l h) o)
      ∙ edit_if_off x.prev (with_next x.next) at j (λ l h. differs same sound reflexive c l j (left l h) o) in
      let here : cut same p x y.first y.last at p ≡ option_map (with_ends (end_after x.prev x.next y.first) (end_after x.next x.prev y.last))
      (at p) = rw (reflexive p, kept p pc) refl in
      stands_under same sound reflexive at (cut same p x y.first y.last at) p (w.before ▷ w.after) (end_after x.prev x.next y.first) (end_after x.next
      x.prev y.last) up prev f first last after sg here a s
      (λ j i o q. rw o (kept j (subst (λ g. has same j g ≡ false) w.is q)))

  pub no_without : (k : K) (f : Forest K D) → has same k f ≡ false → without_branch same k f ≡ f
  no_without k empty h = refl
  no_without k (tree j d below rest) h =
      let s : (same k j ≡ false) × ((has same k below || has same k rest) ≡ false) = either (same k j) (has same k below || has same k rest) h in
      let t : (has same k below ≡ false) × (has same k rest ≡ false) = either (has same k below) (has same k rest) s.1 in
      rw (s.0, no_without k below t.0, no_without k rest t.1) refl

  without_branch-among : (k : K) (d : D) (xs below ys : Forest K D) → has same k xs ≡ false → without_branch same k (xs ▷ tree k d below ys) ≡ xs ▷ ys
  without_branch-among k d empty below ys h = rw (reflexive k) refl
  without_branch-among k d (tree j e low rest) below ys h =
      let s : (same k j ≡ false) × ((has same k low || has same k rest) ≡ false) = either (same k j) (has same k low || has same k rest) h in
      let t : (has same k low ≡ false) × (has same k rest ≡ false) = either (has same k low) (has same k rest) s.1 in
      rw (s.0, no_without k low t.0, without_branch-among k d rest below ys t.1) refl

  pub among-in : (k : K) (f : Forest K D) (w : Among k f) → has same k f ≡ true
  among-in k f w = subst (λ g. has same k g ≡ true) (sym w.is) (has-join same sound reflexive k w.before (tree k w.item w.below w.after) ∙ from_right
      (has same k w.before) (has same k (tree k w.item w.below w.after)) (from_left (same k k) (has same k w.below || has same k w.after) (reflexive k)))

  -- what is below a box is in the forest
  pub in_children : (j p : K) (f : Forest K D) → has same j (children same p f) ≡ true → has same j f ≡ true
  in_children j p f h = elim (cases (has same j f)) [
    | inl e ↦ e
    | inr e ↦ absurd (never (has same j (children same p f)) h (out_of_children same sound
        reflexive j p f e))
  ]

  pub among-apart : (k : K) (f : Forest K D) (w : Among k f) → IsApart same f → has same k w.before ≡ false
  among-apart k f w a =
      apart_back same sound reflexive w.before (tree k w.item w.below w.after) (apart_between w.before (tree k w.item w.below w.after) (subst (λ g. IsApart
      same g) w.is a)) k
      (from_left (same k k) (has same k w.below || has same k w.after) (reflexive k))

  pub without_branch-with_children : (p k : K) (f : Forest K D) (w : Among k (children same p f)) → IsApart same f → has same p f ≡ true
      → without_branch same k f ≡ with_children same p (w.before ▷ w.after) f
  without_branch-with_children p k empty w a m = refl
  without_branch-with_children p k (tree j d below rest) w a m =
      elim (cases (same p j)) [
        | inl e ↦
            let c : children same p (tree j d below rest) ≡ below = rw e refl in
            let is : below ≡ w.before ▷ tree k w.item w.below w.after = sym c ∙ w.is in
            let v : Among k below = record { item = w.item; before = w.before; below = w.below; after = w.after; is = is } in
            let i : has same k below ≡ true = among-in k below v in
            let kj : same k j ≡ false = differs same sound reflexive below k j i a.0 in
            let low : without_branch same k below ≡ w.before ▷ w.after = ap (without_branch same k) is ∙ without_branch-among k w.item w.before w.below
            w.after (among-apart k below v a.3) in
            rw (e, kj, no_without k rest (a.2 k i)) (ap (λ b. tree j d b rest) low)
        | inr e ↦
            elim (which (has same p below) (has same p rest) (rw e at m)) [
              | inl i ↦
                  let o : has same p rest ≡ false = a.2 p i in
                  let c : children same p (tree j d below rest) ≡ children same p below = rw (e, no_children same sound reflexive p rest o) (join-empty
                  (children same p below)) in
                  let v : Among k (children same p below) = record { item = w.item; before = w.before; below = w.below; after = w.after; is = sym c ∙ w.is } in
                  let ki : has same k below ≡ true = in_children k p below (among-in k (children same p below) v) in
                  let kj : same k j ≡ false = differs same sound reflexive below k j ki a.0 in
                  rw (e, kj, no_without k rest (a.2 k ki), no_under same sound reflexive p (w.before ▷ w.after) rest o) (ap (λ b. tree j d b rest)
                  (without_branch-with_children p k below v a.3 i))
              | inr i ↦
                  let o : has same p below ≡ false = apart_back same sound reflexive below rest a.2 p i in
                  let c : children same p (tree j d below rest) ≡ children same p rest = rw (e, no_children same sound reflexive p below o) refl in
                  let v : Among k (children same p rest) = record { item = w.item; before = w.before; below = w.below; after = w.after; is = sym c ∙ w.is } in
                  let ki : has same k rest ≡ true = in_children k p rest (among-in k (children same p rest) v) in
                  let kj : same k j ≡ false = differs same sound reflexive rest k j ki a.1 in
                  rw (
                    e,
                    kj,
                    no_without k below (apart_back same sound reflexive below rest a.2 k ki),
                    no_under same sound reflexive p (w.before ▷ w.after)
                        below o,
                  ) (ap (tree j d below) (without_branch-with_children p k rest v a.4 i))
            ]
      ]

  pub gone : (k : K) (f : Forest K D) → IsApart same f → has same k (without_branch same k f) ≡ false
  gone k empty a = refl
  gone k (tree j d below rest) a =
      elim (cases (same k j)) [
        | inl e ↦ rw e (subst (λ i. has same i rest ≡ false) (sym (sound k j e)) a.1)
        | inr e ↦ rw e (rw (e, gone k below a.3, gone k rest a.4) refl)
      ]
