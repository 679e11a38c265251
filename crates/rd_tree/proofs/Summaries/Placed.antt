-- What is told of each box once a new box is a child of another, or a branch is moved.
use Rattle.std.proofs.Common.{◌≡◌, refl, ap, ◌∙◌, sym, subst, Bool, true, false, ◌||◌, cond, inl, inr}
use Rattle.std.specs.Prelude.{Option, Some, None}
use Rattle.rd_geom.specs.Plane.{no_pixels, hull_of}
use Rattle.rd_keys.specs.Keys.{same_key}
use Rattle.rd_keys.proofs.Keys.{same_key-sound, same_key-refl}
use Rattle.rd_tree.specs.Forest.{Forest, empty, tree, ◌▷◌, has, children, in_subtree, with_children, insert_among, without_branch, branch, IsPlaceIn, AreApart, IsApart}
use Rattle.rd_tree.specs.Document.{BoxKey, Item, BoxForest, with_child}
use Rattle.rd_tree.specs.Changes.{put_elsewhere}
use Rattle.rd_tree.specs.Hulls.{extent}
use Rattle.rd_tree.specs.Internal.Summaries.{summary_of}
use Rattle.rd_tree.proofs.Linking.Standing.{cases, either, join-empty, differs, from_left}
use Rattle.rd_tree.proofs.Forests.Without.{apart_without, stays}
use Rattle.rd_tree.proofs.Forests.Staying.{place_stays}
use Rattle.rd_tree.proofs.Forests.Restoring.{branch_there, branch_off}
use Rattle.rd_tree.proofs.Summaries.Put.{more_near, summary-put, summary-put_new, has-put, subtree-put, not_above_old}

module _ {K D : Type 0} (same : K → K → Bool) (sound : (a b : K) → same a b ≡ true → a ≡ b) (reflexive : (a : K) → same a a ≡ true) where
  -- siblings at both sides of a place
  pub record Divided (before : Option K) (c : Forest K D) : Type 0 where
    pub xs : Forest K D
    pub ys : Forest K D
    pub is : c ≡ xs ▷ ys
    pub amid_is : (g : Forest K D) → insert_among same before g c ≡ xs ▷ (g ▷ ys)

  pub divided : (before : Option K) (c : Forest K D) → Divided before c
  divided None c = record { xs = c; ys = empty; is = sym (join-empty c); amid_is = λ g. ap (λ z. c ▷ z) (sym (join-empty g)) }
  divided (Some b) empty = record { xs = empty; ys = empty; is = refl; amid_is = λ g. sym (join-empty g) }
  divided (Some b) (tree m e below rest) =
      elim (cases (same b m)) [
        | inl h ↦ record { xs = empty; ys = tree m e below rest; is = refl; amid_is = λ g. rw h refl }
        | inr h ↦
            let s : Divided (Some b) rest = divided (Some b) rest in
            record { xs = tree m e below s.xs; ys = s.ys; is = ap (tree m e below) s.is; amid_is = λ g. rw h (ap (tree m e below) (s.amid_is g)) }
      ]

module _ (p : BoxKey) (before : Option BoxKey) (k : BoxKey) (d : Item) (below g : BoxForest) (a : IsApart same_key g) (m : has same_key p g
    ≡ true) (place : IsPlaceIn same_key before (children same_key p g)) (w : AreApart same_key g (tree k d below empty)) where
  abbrev one : BoxForest
  one = tree k d below empty

  abbrev placed : BoxForest
  placed = with_children same_key p (insert_among same_key before one (children same_key p g)) g

  v : Divided same_key same_key-sound same_key-refl before (children same_key p g)
  v = divided same_key same_key-sound same_key-refl before (children same_key p g)

  placed_is : placed ≡ with_children same_key p (v.xs ▷ tree k d below v.ys) g
  placed_is = ap (λ z. with_children same_key p z g) (v.amid_is one)

  pub summary-placed : (j : BoxKey) → has same_key j g ≡ true → summary_of j placed ≡ cond (in_subtree same_key p j g) (more_near (same_key p j) one
      (summary_of j g)) (summary_of j g)
  summary-placed j u = ap (summary_of j) placed_is ∙ summary-put k d below v.xs v.ys p g a m v.is w j u

  pub summary-placed_new : (j : BoxKey) → has same_key j one ≡ true → summary_of j placed ≡ summary_of j one
  summary-placed_new j u = ap (summary_of j) placed_is ∙ summary-put_new k d below v.xs v.ys p g a m v.is w j u

  pub subtree-placed : (q j : BoxKey) → has same_key j g ≡ true → has same_key q one ≡ false → in_subtree same_key q j placed ≡ in_subtree same_key q j g
  subtree-placed q j u o = ap (in_subtree same_key q j) placed_is ∙ subtree-put k d below v.xs v.ys p g a m v.is w j q u o

  pub has-placed : (j : BoxKey) → has same_key j placed ≡ (has same_key j g || has same_key j one)
  has-placed j = ap (has same_key j) placed_is ∙ has-put k d below v.xs v.ys p g a m v.is w j

  pub not_above_placed : (q j : BoxKey) → has same_key j one ≡ true → has same_key q g ≡ true → in_subtree same_key q j placed ≡ false
  not_above_placed q j u i = ap (in_subtree same_key q j) placed_is ∙ not_above_old k d below v.xs v.ys p g a m v.is w j q u i

-- a new box
module _ (p : BoxKey) (before : Option BoxKey) (k : BoxKey) (d : Item) (g : BoxForest) (a : IsApart same_key g) (m : has same_key p g
    ≡ true) (place : IsPlaceIn same_key before (children same_key p g)) (n : has same_key k g ≡ false) where
  strange : AreApart same_key g (tree k d empty empty)
  strange j u = rw (differs same_key same_key-sound same_key-refl g j k u n) refl

  pub summary-with_child : (j : BoxKey) → has same_key j g ≡ true → summary_of j (with_child p before k d g) ≡ cond (in_subtree same_key p j g) (more_near
      (same_key p j) (tree k d empty empty) (summary_of j g)) (summary_of j g)
  summary-with_child j u = summary-placed p before k d empty g a m place strange j u

  pub summary-child : summary_of k (with_child p before k d g) ≡ record { children = 0; touched = 0; hull = hull_of (extent d) no_pixels }
  summary-child = summary-placed_new p before k d empty g a m place strange k (from_left (same_key k k) false (same_key-refl k)) ∙ rw (same_key-refl k) refl

  pub subtree-with_child : (q j : BoxKey) → has same_key j g ≡ true → same_key q k ≡ false → in_subtree same_key q j (with_child p before k d g)
      ≡ in_subtree same_key q j g
  subtree-with_child q j u o = subtree-placed p before k d empty g a m place strange q j u (rw o refl)

  pub has-with_child : (j : BoxKey) → has same_key j (with_child p before k d g) ≡ (has same_key j g || same_key j k)
  has-with_child j = has-placed p before k d empty g a m place strange j ∙ ap (λ b. has same_key j g || b) (no_more (same_key j k)) where
    no_more : (b : Bool) → (b || false) ≡ b
    no_more true = refl
    no_more false = refl

  pub not_above_child : (q : BoxKey) → has same_key q g ≡ true → in_subtree same_key q k (with_child p before k d g) ≡ false
  not_above_child q i = not_above_placed p before k d empty g a m place strange q k (from_left (same_key k k) false (same_key-refl k)) i

-- a branch that is moved below q
module _ (k q : BoxKey) (before : Option BoxKey) (f : BoxForest) (a : IsApart same_key f) (m : has same_key k f ≡ true) (there : has same_key q f
    ≡ true) (outside : in_subtree same_key q k f ≡ false)
    (place : IsPlaceIn same_key before (children same_key q f)) (other : before ≡ Some k → ⊥) where
  abbrev g : BoxForest
  g = without_branch same_key k f

  out : (same_key q k ≡ false) × (has same_key q (children same_key k f) ≡ false)
  out = either (same_key q k) (has same_key q (children same_key k f)) outside

  t : (d : Item) × (branch same_key k f ≡ tree k d (children same_key k f) empty)
  t = branch_there same_key same_key-sound same_key-refl k f a m

  ga : IsApart same_key g
  ga = apart_without same_key same_key-sound same_key-refl k f a

  gq : has same_key q g ≡ true
  gq = stays same_key same_key-sound same_key-refl q k f there out.0 out.1

  gplace : IsPlaceIn same_key before (children same_key q g)
  gplace = place_stays same_key same_key-sound same_key-refl before q k f a out.0 out.1 other place

  off : AreApart same_key g (tree k t.0 (children same_key k f) empty)
  off = subst (λ z. AreApart same_key g z) t.1 (branch_off same_key same_key-sound same_key-refl k f a m)

  pub summary-elsewhere : (j : BoxKey) → has same_key j g ≡ true → summary_of j (put_elsewhere k q before f) ≡ cond (in_subtree same_key q j g) (more_near
      (same_key q j) (branch same_key k f) (summary_of j g)) (summary_of j g)
  summary-elsewhere j u =
      subst (λ b. summary_of j (with_children same_key q (insert_among same_key before b (children same_key q g)) g) ≡ cond (in_subtree same_key q j g)
      (more_near (same_key q j) b (summary_of j g)) (summary_of j g)) (sym t.1)
      (summary-placed q before k t.0 (children same_key k f) g ga gq gplace off j u)

  pub summary-elsewhere_branch : (j : BoxKey) → has same_key j (branch same_key k f) ≡ true → summary_of j (put_elsewhere k q before f) ≡ summary_of j
      (branch same_key k f)
  summary-elsewhere_branch j u =
      subst (λ b. summary_of j (with_children same_key q (insert_among same_key before b (children same_key q g)) g) ≡ summary_of j b) (sym t.1)
      (summary-placed_new q before k t.0 (children same_key k f) g ga gq gplace off j (subst (λ b. has same_key j b ≡ true) t.1 u))

  pub subtree-elsewhere : (i j : BoxKey) → has same_key j g ≡ true → has same_key i (branch same_key k f) ≡ false → in_subtree same_key i j (put_elsewhere
      k q before f) ≡ in_subtree same_key i j g
  subtree-elsewhere i j u o =
      subst (λ b. in_subtree same_key i j (with_children same_key q (insert_among same_key before b (children same_key q g)) g) ≡ in_subtree same_key i j
      g) (sym t.1)
      (subtree-placed q before k t.0 (children same_key k f) g ga gq gplace off i j u (subst (λ b. has same_key i b ≡ false) t.1 o))

  pub has-elsewhere : (j : BoxKey) → has same_key j (put_elsewhere k q before f) ≡ (has same_key j g || has same_key j (branch same_key k f))
  has-elsewhere j =
      subst (λ b. has same_key j (with_children same_key q (insert_among same_key before b (children same_key q g)) g) ≡ (has same_key j g || has same_key
      j b)) (sym t.1)
      (has-placed q before k t.0 (children same_key k f) g ga gq gplace off j)

  pub not_above_elsewhere : (i j : BoxKey) → has same_key j (branch same_key k f) ≡ true → has same_key i g ≡ true → in_subtree same_key i j (put_elsewhere
      k q before f) ≡ false
  not_above_elsewhere i j u o =
      subst (λ b. in_subtree same_key i j (with_children same_key q (insert_among same_key before b (children same_key q g)) g) ≡ false) (sym t.1)
      (not_above_placed q before k t.0 (children same_key k f) g ga gq gplace off i j (subst (λ b. has same_key j b ≡ true) t.1 u) o)
