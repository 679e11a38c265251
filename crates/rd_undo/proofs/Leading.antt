-- The inverse of an edit, done by ids, leads back.
use Rattle.std.proofs.Common.{◌≡◌, refl, ◌∙◌, sym, subst, ℕ, ◌+◌, ◌<◌, ◌≤◌, Bool, true, false, ◌||◌, arith, List, ◌∷◌, ◌++◌, inl, inr, bytes_eq, append_assoc, []}
use Rattle.std.specs.Prelude.{Some, None}
use Rattle.rd_tree.specs.Figures.{max_depth}
use Rattle.rd_tree.specs.Forest.{Forest, empty, tree, size, height, depth, head, has, children, is_among, without_branch, branch, item_of, AllItems, AreApart, IsApart}
use Rattle.rd_tree.specs.Places.{parent_of, next_of}
use Rattle.rd_tree.specs.ByIds.{Looks, IdForest}
use Rattle.rd_tree.proofs.Linking.Standing.{cases, never, refute, from_left, from_right, has-join, differs, apart_back}
use Rattle.rd_tree.proofs.Nodes.Naming.{bytes_same, bytes_refl}
use Rattle.rd_edits.specs.declared.edit.Edit.{Edit}
use Rattle.rd_edits.specs.declared.edit.Edit.TheVariants.{Insert, Remove, Move, SetStyle, SetRect, Shift, Scroll}
use Rattle.rd_undo.specs.Inverse.{insertions}
use Rattle.rd_undo.proofs.Put.{put, put_nothing, put_put, among-join, among_has, has-put}
use Rattle.rd_undo.proofs.Putting.{apart-put, size-put, there-put}
use Rattle.rd_undo.proofs.Restoring.{Kin, kin, depth-put, depth-new, fill}
use Rattle.rd_undo.proofs.Found.{LooksFit}
use Rattle.rd_undo.proofs.Acting.{new_looks, acted, IsAdmitted}

-- Only an insertion and another scroll offset are followed by others, so that slots are left by the last edit alone.
abbrev pub StaysRoomy : Edit → List Edit → Type 0
StaysRoomy (Insert i parent before rect style) es = Unit {0}
StaysRoomy (Remove i) es = es ≡ []
StaysRoomy (Move i parent before) es = es ≡ []
StaysRoomy (SetStyle i c) es = es ≡ []
StaysRoomy (SetRect i r) es = es ≡ []
StaysRoomy (Shift i dx dy) es = es ≡ []
StaysRoomy (Scroll i x y) es = Unit {0}

-- The edits are admitted one after another, where there is room for so many boxes, and lead from one tree to another.
abbrev pub Leads : ℕ → List Edit → IdForest → IdForest → Type 0
Leads n [] f g = f ≡ g
Leads n (e ∷ es) f g = IsAdmitted n e f × StaysRoomy e es × Leads n es (acted e f) g

-- ---- the place of a box, once it is gone

module _ {K D : Type 0} (same : K → K → Bool) (sound : (a b : K) → same a b ≡ true → a ≡ b) (reflexive : (a : K) → same a a ≡ true) where
  -- the parent stays
  pub parent_stays : (i p : K) (f : Forest K D) → IsApart same f → parent_of same i f ≡ Some p → has same p (without_branch same i f) ≡ true
  parent_stays i p empty a h = cc
  parent_stays i p (tree k d below rest) a h =
      elim (cases (is_among same i below)) [
        | inl u ↦
            let e : Some k ≡ Some p = rw u at h in
            let n : p ≡ k = cc (e) in
            let ik : same i k ≡ false = differs same sound reflexive below i k (among_has same i below u) a.0 in
            let pk : same p k ≡ true = subst (λ z. same p z ≡ true) n (reflexive p) in
            rw (ik, pk) refl
        | inr u ↦ elim (cases (has same i below)) [
          | inl v ↦
              let g : parent_of same i below ≡ Some p = rw (u, v) at h in
              let ik : same i k ≡ false = differs same sound reflexive below i k v a.0 in
              let w : has same p (without_branch same i below) ≡ true = parent_stays i p below a.3 g in
              rw ik (from_right (same p k) (has same p (without_branch same i below) || has same p (without_branch same i rest)) (from_left (has same p (without_branch same i below)) (has same p (without_branch same i rest)) w))
          | inr v ↦
              let g : parent_of same i rest ≡ Some p = rw (u, v) at h in
              let q : Kin same sound reflexive i p rest = kin same sound reflexive i p rest g in
              let ik : same i k ≡ false = differs same sound reflexive rest i k q.child a.1 in
              let w : has same p (without_branch same i rest) ≡ true = parent_stays i p rest a.4 g in
              rw ik (from_right (same p k) (has same p (without_branch same i below) || has same p (without_branch same i rest)) (from_right (has same p (without_branch same i below)) (has same p (without_branch same i rest)) w))
        ]
      ]

  next-left : (i x : K) (f : Forest K D) → IsApart same f → is_among same i f ≡ true → next_of same i f ≡ Some x → is_among same x (without_branch same i f) ≡ true
  next-left i x empty a m h = absurd (never false m refl)
  next-left i x (tree k d below rest) a m h =
      elim (cases (same i k)) [
        | inl u ↦ rw u (first rest (rw u at h))
        | inr u ↦
            let v : is_among same i rest ≡ true = rw u at m in
            let w : has same i below ≡ false = apart_back same sound reflexive below rest a.2 i (among_has same i rest v) in
            rw u (from_right (same x k) (is_among same x (without_branch same i rest)) (next-left i x rest a.4 v (rw (u, w) at h)))
      ]
    where
      first : (f : Forest K D) → head f ≡ Some x → is_among same x f ≡ true
      first empty h = cc
      first (tree j e low later) h =
          let n : j ≡ x = cc (h) in
          from_left (same x j) (is_among same x later) (subst (λ z. same x z ≡ true) (sym n) (reflexive x))

  -- the next sibling stays a child
  pub next_stays : (i p x : K) (f : Forest K D) → IsApart same f → parent_of same i f ≡ Some p → next_of same i f ≡ Some x → is_among same x (children same p (without_branch same i f)) ≡ true
  next_stays i p x empty a h n = cc
  next_stays i p x (tree k d below rest) a h n =
      elim (cases (is_among same i below)) [
        | inl u ↦
            let e : Some k ≡ Some p = rw u at h in
            let pk : p ≡ k = cc (e) in
            let v : has same i below ≡ true = among_has same i below u in
            let ik : same i k ≡ false = differs same sound reflexive below i k v a.0 in
            let t : same p k ≡ true = subst (λ z. same p z ≡ true) pk (reflexive p) in
            rw (ik, t) (next-left i x below a.3 u (rw (ik, v) at n))
        | inr u ↦ elim (cases (has same i below)) [
          | inl v ↦
              let g : parent_of same i below ≡ Some p = rw (u, v) at h in
              let q : Kin same sound reflexive i p below = kin same sound reflexive i p below g in
              let ik : same i k ≡ false = differs same sound reflexive below i k v a.0 in
              let pk : same p k ≡ false = differs same sound reflexive below p k q.parent a.0 in
              let w : is_among same x (children same p (without_branch same i below)) ≡ true = next_stays i p x below a.3 g (rw (ik, v) at n) in
              rw (ik, pk) (among-join same x (children same p (without_branch same i below)) (children same p (without_branch same i rest))
              ∙ from_left (is_among same x (children same p (without_branch same i below))) (is_among same x (children same p (without_branch same i rest))) w)
          | inr v ↦
              let g : parent_of same i rest ≡ Some p = rw (u, v) at h in
              let q : Kin same sound reflexive i p rest = kin same sound reflexive i p rest g in
              let ik : same i k ≡ false = differs same sound reflexive rest i k q.child a.1 in
              let pk : same p k ≡ false = differs same sound reflexive rest p k q.parent a.1 in
              let w : is_among same x (children same p (without_branch same i rest)) ≡ true = next_stays i p x rest a.4 g (rw (ik, v) at n) in
              rw (ik, pk) (among-join same x (children same p (without_branch same i below)) (children same p (without_branch same i rest))
              ∙ from_right (is_among same x (children same p (without_branch same i below))) (is_among same x (children same p (without_branch same i rest))) w)
        ]
      ]

  -- No box is below itself.
  pub not_below : (i : K) (f : Forest K D) → IsApart same f → has same i (children same i f) ≡ false
  not_below i empty a = refl
  not_below i (tree k d below rest) a =
      elim (cases (same i k)) [
        | inl u ↦ rw u (subst (λ z. has same z below ≡ false) (sym (sound i k u)) a.0)
        | inr u ↦ rw (u, has-join same sound reflexive i (children same i below) (children same i rest), not_below i below a.3, not_below i rest a.4) refl
      ]

  pub item_there : (i : K) (f : Forest K D) → has same i f ≡ true → (d : D) × (item_of same i f ≡ Some d)
  item_there i empty m = absurd (never false m refl)
  item_there i (tree k d below rest) m =
      elim (cases (same i k)) [
        | inl u ↦ (d, rw u refl)
        | inr u ↦ elim (cases (has same i below)) [
          | inl v ↦ let w : (d : D) × (item_of same i below ≡ Some d) = item_there i below v in (w.0, from-below u v ∙ w.1)
          | inr v ↦ let w : (d : D) × (item_of same i rest ≡ Some d) = item_there i rest (beside u v m) in (w.0, from-beside u v ∙ w.1)
        ]
      ] where
        from-below : same i k ≡ false → has same i below ≡ true → item_of same i (tree k d below rest) ≡ item_of same i below
        from-below u v = rw (u, v) refl

        from-beside : same i k ≡ false → has same i below ≡ false → item_of same i (tree k d below rest) ≡ item_of same i rest
        from-beside u v = rw (u, v) refl

        beside : same i k ≡ false → has same i below ≡ false → has same i (tree k d below rest) ≡ true → has same i rest ≡ true
        beside u v m = rw (u, v) at m

  pub item_holds : (P : D → Type 0) (i : K) (d : D) (f : Forest K D) → AllItems P f → item_of same i f ≡ Some d → P d
  item_holds P i d empty a h = cc
  item_holds P i d (tree k e below rest) a h =
      elim (cases (same i k)) [
        | inl u ↦
            let q : Some e ≡ Some d = rw u at h in
            let n : e ≡ d = cc (q) in
            subst P n a.0
        | inr u ↦ elim (cases (has same i below)) [
          | inl v ↦ item_holds P i d below a.1 (rw (u, v) at h)
          | inr v ↦ item_holds P i d rest a.2 (rw (u, v) at h)
        ]
      ]

  pub branch_holds : (P : D → Type 0) (i : K) (f : Forest K D) → AllItems P f → AllItems P (branch same i f)
  branch_holds P i empty a = tt
  branch_holds P i (tree k e below rest) a =
      elim (cases (same i k)) [
        | inl u ↦ rw u (a.0, a.1, tt)
        | inr u ↦ elim (cases (has same i below)) [
          | inl v ↦ rw (u, v) (branch_holds P i below a.1)
          | inr v ↦ rw (u, v) (branch_holds P i rest a.2)
        ]
      ]

-- ---- siblings that come one after another

-- a box that is not scrolled
abbrev pub stilled : Looks → Looks
stilled l = new_looks l.rect l.style

abbrev pub IsStill : Looks → Type 0
IsStill l = stilled l ≡ l

abbrev id_has : List ℕ → IdForest → Bool
id_has i f = has bytes_eq i f

-- What is asked where siblings are to come below a box, none of them scrolled.
pub record Comes (n : ℕ) (parent : List ℕ) (g f : IdForest) : Type 0 where
  pub there : has bytes_eq parent f ≡ true
  pub apart : IsApart bytes_eq f
  pub own : IsApart bytes_eq g
  pub away : AreApart bytes_eq g f
  pub deep : depth bytes_eq parent f + height g ≤ max_depth
  pub room : size f + size g ≤ n
  pub fit : AllItems LooksFit g
  pub still : AllItems IsStill g

module _ (i : List ℕ) (d : Looks) (low f : IdForest) (own : IsApart bytes_eq low) (n : has bytes_eq i low ≡ false) (away : AreApart bytes_eq (tree i d low empty) f) where
  one_apart : IsApart bytes_eq (tree i d low empty)
  one_apart = (n, refl, (λ j u. refl), own, tt)

  one_off : AreApart bytes_eq f (tree i d low empty)
  one_off j u = apart_back bytes_eq bytes_same bytes_refl (tree i d low empty) f away j u

pub build : (n : ℕ) (parent : List ℕ) (g f h : IdForest) (es : List Edit) → Comes n parent g f → Leads n es (put bytes_eq parent None g f) h → Leads n (insertions parent g ++ es) f h
build n parent empty f h es c l = subst (λ z. Leads n es z h) (put_nothing bytes_eq parent f) l
build n parent (tree i d low rest) f h es c l =
    let alone : IdForest = tree i d empty empty in
    let whole : IdForest = tree i d low empty in
    let g : IdForest = tree i d low rest in
    let f1 : IdForest = put bytes_eq parent None alone f in
    let f2 : IdForest = put bytes_eq parent None whole f in
    let in_g : has bytes_eq i g ≡ true = from_left (bytes_eq i i) (id_has i low || id_has i rest) (bytes_refl i) in
    let i_out : has bytes_eq i f ≡ false = c.away i in_g in
    let low_in : (j : List ℕ) → has bytes_eq j low ≡ true → has bytes_eq j g ≡ true = λ j u. from_right (bytes_eq j i) (id_has j low || id_has j rest) (from_left (id_has j low) (id_has j rest) u) in
    let rest_in : (j : List ℕ) → has bytes_eq j rest ≡ true → has bytes_eq j g ≡ true = λ j u. from_right (bytes_eq j i) (id_has j low || id_has j rest) (from_right (id_has j low) (id_has j rest) u) in
    let alone_off : AreApart bytes_eq f alone = λ j u. rw (differs bytes_eq bytes_same bytes_refl f j i u i_out) refl in
    let whole_off : AreApart bytes_eq f whole = λ j u.
    rw (differs bytes_eq bytes_same bytes_refl f j i u i_out, refute (id_has j low) (λ v. never (has bytes_eq j f) u (c.away j (low_in j v)))) refl in
    let alone_apart : IsApart bytes_eq alone = (refl, refl, (λ j u. refl), tt, tt) in
    let whole_apart : IsApart bytes_eq whole = (c.own.0, refl, (λ j u. refl), c.own.3, tt) in
    let s1 : size f1 ≡ size f + size alone = size-put bytes_eq bytes_same bytes_refl parent None alone f c.apart alone_apart alone_off c.there in
    let s2 : size f2 ≡ size f + size whole = size-put bytes_eq bytes_same bytes_refl parent None whole f c.apart whole_apart whole_off c.there in
    let d1 : depth bytes_eq i f1 ≡ 1 + depth bytes_eq parent f = depth-new bytes_eq bytes_same bytes_refl i parent d empty None f c.there i_out in
    let d2 : depth bytes_eq parent f2 ≡ depth bytes_eq parent f = depth-put bytes_eq bytes_same bytes_refl parent parent None whole f c.there (whole_off parent c.there) in
    let deep : depth bytes_eq parent f + height g ≤ max_depth = c.deep in
    let room : size f + size g ≤ n = c.room in
    let below : Comes n i low f1 = record {
      there = there-put bytes_eq bytes_same bytes_refl i parent d empty None f c.there;
      apart = apart-put bytes_eq bytes_same bytes_refl parent None alone f c.apart alone_apart alone_off;
      own = c.own.3;
      away = λ j u. has-put bytes_eq bytes_same bytes_refl j parent None alone f c.there ∙ rw (c.away j (low_in j u), differs bytes_eq bytes_same bytes_refl low j i u c.own.0) refl;
      deep = omega (arith, d1, deep);
      room = omega (arith, s1, room);
      fit = c.fit.1;
      still = c.still.1;
    } in
    let after : Comes n parent rest f2 = record {
      there = has-put bytes_eq bytes_same bytes_refl parent parent None whole f c.there ∙ from_left (has bytes_eq parent f) (has bytes_eq parent whole) c.there;
      apart = apart-put bytes_eq bytes_same bytes_refl parent None whole f c.apart whole_apart whole_off;
      own = c.own.4;
      away = λ j u. has-put bytes_eq bytes_same bytes_refl j parent None whole f c.there
          ∙ rw (c.away j (rest_in j u), differs bytes_eq bytes_same bytes_refl rest j i u c.own.1, apart_back bytes_eq bytes_same bytes_refl low rest c.own.2 j u) refl;
      deep = omega (arith, d2, deep);
      room = omega (arith, s2, room);
      fit = c.fit.2;
      still = c.still.2;
    } in
    let last : Leads n es (put bytes_eq parent None rest f2) h = subst (λ z. Leads n es z h) (sym (put_put bytes_eq parent whole rest f)) l in
    let later : Leads n (insertions parent rest ++ es) f2 h = build n parent rest f2 h es after last in
    let filled : Leads n (insertions parent rest ++ es) (put bytes_eq i None low f1) h = subst (λ z. Leads n (insertions parent rest ++ es) z h) (sym (fill bytes_eq bytes_same bytes_refl i parent d low None f i_out)) later in
    let all : Leads n (insertions i low ++ (insertions parent rest ++ es)) f1 h = build n i low f1 h (insertions parent rest ++ es) below filled in
    let deep1 : depth bytes_eq parent f + 1 ≤ max_depth = omega (arith, deep) in
    let room1 : size f < n = omega (arith, room) in (
      (c.there, tt, i_out, deep1, room1, c.fit.0.0, c.fit.0.1),
      tt,
      subst (λ z. Leads n ((insertions i low ++ insertions parent rest) ++ es) (put bytes_eq parent None (tree i z empty empty) f) h) (sym c.still.0)
          (subst (λ z. Leads n z f1 h) (sym (append_assoc (insertions i low) (insertions parent rest) es)) all),
    )
