-- A standing box, with what is below it, is put among the children of another.
use Rattle.std.proofs.Common.{◌≡◌, refl, ◌∙◌, sym, subst, Bool, true, false}
use Rattle.std.specs.Prelude.{Option, Some, None, option_map}
use Rattle.rd_tree.specs.Forest.{Forest, empty, tree, ◌▷◌, has, children, with_children, AreApart, IsApart}
use Rattle.rd_tree.specs.Internal.Links.{Node, with_prev, with_next, with_ends, Stands, edit, edit_if, end_after, grafted}
use Rattle.rd_tree.proofs.Linking.Standing.{either, from_left, from_right, Agree, frame, join, agree_edit, agree_then, stands_under, has-join, differs, apart_back}
use Rattle.rd_tree.proofs.Linking.Children.{stands_children}
use Rattle.rd_tree.proofs.Linking.Cutting.{agree_edit_if, edit_if_off, last_in, first_in, cut_left, cut_right, apart_left, apart_right, apart_between, in_children}

module _ {K D : Type 0} (same : K → K → Bool) (sound : (a b : K) → same a b ≡ true → a ≡ b) (reflexive : (a : K) → same a a ≡ true) where
  graft_children : (at : K → Option (Node K D)) (p k : K) (d : D) (below xs ys : Forest K D) (first v m last : Option K) →
      IsApart same (xs ▷ ys) → Stands at (Some p) None xs first v m → Stands at (Some p) v ys m last None →
      Stands at (Some p) v (tree k d below empty) (Some k) (Some k) m →
      AreApart same (xs ▷ ys) (tree k d below empty) → has same p (xs ▷ ys) ≡ false → has same p (tree k d below empty) ≡ false →
      Stands (grafted same p k v m first last at) (Some p) None (xs ▷ tree k d below ys) (end_after v (Some k) first) (end_after m (Some k) last) None
  graft_children at p k d below xs ys first v m last a sx sy sk strange px pk =
      let one : Forest K D = tree k d below empty in
      let at1 : K → Option (Node K D) = edit_if same v (with_next (Some k)) at in
      let at2 : K → Option (Node K D) = edit_if same m (with_prev (Some k)) at1 in
      let e3 : Node K D → Node K D = with_ends (end_after v (Some k) first) (end_after m (Some k) last) in
      let at3 : K → Option (Node K D) = edit same p e3 at2 in
      let ax : IsApart same xs = apart_left same sound reflexive xs ys a in
      let ay : IsApart same ys = apart_right same sound reflexive xs ys a in
      let xy : AreApart same xs ys = apart_between same sound reflexive xs ys a in
      let o : (has same p xs ≡ false) × (has same p ys ≡ false) = either (has same p xs) (has same p ys) (sym (has-join same sound reflexive p xs ys) ∙ px) in
      let vx : (l : K) → v ≡ Some l → has same l xs ≡ true = last_in same sound reflexive at (Some p) xs first v m sx in
      let my : (l : K) → m ≡ Some l → has same l ys ≡ true = first_in same sound reflexive at (Some p) v ys m last sy in
      let vk : (l : K) → v ≡ Some l → has same l one ≡ false = λ l h. strange l (has-join same sound reflexive l xs ys ∙ from_left (has same l xs)
      (has same l ys) (vx l h)) in
      let mk : (l : K) → m ≡ Some l → has same l one ≡ false = λ l h. strange l (has-join same sound reflexive l xs ys ∙ from_right (has same l xs)
      (has same l ys) (my l h)) in
      -- before
      let x1 : Stands at1 (Some p) None xs (end_after v (Some k) first) v (Some k) = cut_left same sound reflexive at (Some p) xs first v m (Some k) ax sx in
      let x2 : Stands at2 (Some p) None xs (end_after v (Some k) first) v (Some k) = frame at1 at2 (Some p) None xs (end_after v (Some k) first) v (Some k)
      (agree_edit_if same sound reflexive m (with_prev (Some k)) at1 xs (λ l h. apart_back same sound reflexive xs ys xy l (my l h))) x1 in
      let x3 : Stands at3 (Some p) None xs (end_after v (Some k) first) v (Some k) = frame at2 at3 (Some p) None xs (end_after v (Some k) first) v (Some k)
      (agree_edit same sound reflexive p e3 at2 xs o.0) x2 in
      -- after
      let y1 : Stands at1 (Some p) v ys m last None = frame at at1 (Some p) v ys m last None (agree_edit_if same sound reflexive v (with_next (Some k)) at
      ys (λ l h. xy l (vx l h))) sy in
      let y2 : Stands at2 (Some p) (Some k) ys m (end_after m (Some k) last) None = cut_right same sound reflexive at1 (Some p) v (Some k) ys m last ay y1 in
      let y3 : Stands at3 (Some p) (Some k) ys m (end_after m (Some k) last) None = frame at2 at3 (Some p) (Some k) ys m (end_after m (Some k) last) None
      (agree_edit same sound reflexive p e3 at2 ys o.1) y2 in
      -- the box
      let k1 : Agree at at1 one = agree_edit_if same sound reflexive v (with_next (Some k)) at one vk in
      let k2 : Agree at1 at2 one = agree_edit_if same sound reflexive m (with_prev (Some k)) at1 one mk in
      let k3 : Agree at2 at3 one = agree_edit same sound reflexive p e3 at2 one pk in
      let kk : Stands at3 (Some p) v one (Some k) (Some k) m = frame at at3 (Some p) v one (Some k) (Some k) m (agree_then at at2 at3 one (agree_then at
      at1 at2 one k1 k2) k3) sk in
      let right : Stands at3 (Some p) v (one ▷ ys) (Some k) (end_after m (Some k) last) None = join at3 (Some p) v one ys (Some k) (Some k) m (end_after m
      (Some k) last) None kk y3 in
      join at3 (Some p) None xs (tree k d below ys) (end_after v (Some k) first) v (Some k) (end_after m (Some k) last) None x3 right

  -- Once the links say so, k stands between xs and ys below p.
  pub stands_grafted : (at : K → Option (Node K D)) (up prev : Option K) (f : Forest K D) (first last after : Option K) (p k : K) (d : D) (y : Node K D)
      (below xs ys : Forest K D) (v m : Option K) →
      IsApart same f → Stands at up prev f first last after → has same p f ≡ true → at p ≡ Some y → children same p f ≡ xs ▷ ys →
      Stands at (Some p) None xs y.first v m → Stands at (Some p) v ys m y.last None →
      Stands at (Some p) v (tree k d below empty) (Some k) (Some k) m → AreApart same f (tree k d below empty) →
      Stands (grafted same p k v m y.first y.last at) up prev (with_children same p (xs ▷ tree k d below ys) f) first last after
  stands_grafted at up prev f first last after p k d y below xs ys v m a s has_p at_p is sx sy sk strange =
      let one : Forest K D = tree k d below empty in
      let t : (z : Node K D) × (at p ≡ Some z) × Stands at (Some p) None (children same p f) z.first z.last None × IsApart same (children same p f)
      × (has same p (children same p f) ≡ false) = stands_children same sound reflexive at up prev f first last after p a s has_p in
      let ac : IsApart same (xs ▷ ys) = subst (λ g. IsApart same g) is t.3 in
      let pc : has same p (xs ▷ ys) ≡ false = subst (λ g. has same p g ≡ false) is t.4 in
      let inside : (l : K) → has same l (xs ▷ ys) ≡ true → has same l f ≡ true = λ l h. in_children same sound reflexive l p f (subst (λ g. has same l g
      ≡ true) (sym is) h) in
      let sg : Stands (grafted same p k v m y.first y.last at) (Some p) None (xs ▷ tree k d below ys) (end_after v (Some k) y.first) (end_after m
      (Some k) y.last) None =
      graft_children at p k d below xs ys y.first v m y.last ac sx sy sk (λ l h. strange l (inside l h)) pc (strange p has_p) in
      let vx : (l : K) → v ≡ Some l → has same l (xs ▷ ys) ≡ true = λ l h. has-join same sound reflexive l xs ys ∙ from_left (has same l xs) (has same l
      ys) (last_in same sound reflexive at (Some p) xs y.first v m sx l h) in
      let my : (l : K) → m ≡ Some l → has same l (xs ▷ ys) ≡ true = λ l h. has-join same sound reflexive l xs ys ∙ from_right (has same l xs) (has same l
      ys) (first_in same sound reflexive at (Some p) v ys m y.last sy l h) in
      let kept : (j : K) → has same j (xs ▷ ys) ≡ false → edit_if same m (with_prev (Some k)) (edit_if same v (with_next (Some k)) at) j ≡ at j = λ j o.
      edit_if_off same sound reflexive m (with_prev (Some k)) (edit_if same v (with_next (Some k)) at) j (λ l h. differs same sound reflexive (xs ▷ ys) l j
      (my l h) o)
      ∙ edit_if_off same sound reflexive v (with_next (Some k)) at j (λ l h. differs same sound reflexive (xs ▷ ys) l j (vx l h) o) in
      let here : grafted same p k v m y.first y.last at p ≡ option_map (with_ends (end_after v (Some k) y.first) (end_after m (Some k) y.last))
      (at p) = rw (reflexive p, kept p pc) refl in
      stands_under same sound reflexive at (grafted same p k v m y.first y.last at) p (xs ▷ tree k d below ys) (end_after v (Some k) y.first) (end_after m
      (Some k) y.last) up prev f first last after sg here a s
      (λ j i o q. rw o (kept j (subst (λ g. has same j g ≡ false) is q)))
