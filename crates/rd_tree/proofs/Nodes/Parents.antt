-- The parent of a box, as its links and the forest tell it.
use Rattle.std.proofs.Common.{◌≡◌, refl, ap, ◌∙◌, sym, subst, Bool, true, false, ◌||◌, ◌⊎◌, inl, inr}
use Rattle.std.specs.Prelude.{◌↔◌, Option, Some, None}
use Rattle.rd_keys.specs.Keys.{same_key}
use Rattle.rd_keys.specs.Arena.{Arena}
use Rattle.rd_keys.proofs.Keys.{same_key-sound, same_key-refl}
use Rattle.rd_tree.specs.declared.node.Node as inner
use Rattle.rd_tree.specs.Forest.{Forest, empty, tree, has, children, is_among, IsApart}
use Rattle.rd_tree.specs.Places as places
use Rattle.rd_tree.specs.Internal.Links.{Node, node, Stands, parent_of}
use Rattle.rd_tree.specs.Internal.Linked.{linked, IsTree, seen}
use Rattle.rd_tree.specs.Document.{BoxKey, Item, BoxForest}
use Rattle.rd_tree.proofs.Linking.Standing.{cases, never, refute, either, from_left, from_right, apart_back}
use Rattle.rd_tree.proofs.Linking.Children.{stands_children}
use Rattle.rd_tree.proofs.Forests.Under.{which}
use Rattle.rd_tree.proofs.Nodes.Grow.{seen_is}

module _ {K D : Type 0} (same : K → K → Bool) where
  among_there : (j : K) (f : Forest K D) → is_among same j f ≡ true → has same j f ≡ true
  among_there j empty h = h
  among_there j (tree k d below rest) h =
      elim (which (same j k) (is_among same j rest) h) [
        | inl u ↦ from_left (same j k) (has same j below || has same j rest) u
        | inr u ↦ from_right (same j k) (has same j below || has same j rest) (from_right (has same j below) (has same j rest) (among_there j rest u))
      ]

  not_among : (j : K) (f : Forest K D) → has same j f ≡ false → is_among same j f ≡ false
  not_among j f h = refute (is_among same j f) (λ u. never (has same j f) (among_there j f u) h)

module _ {K D : Type 0} (same : K → K → Bool) (sound : (a b : K) → same a b ≡ true → a ≡ b) (reflexive : (a : K) → same a a ≡ true) where
  -- A box is one of the first, with their parent, or has the parent that the forest tells.
  abbrev Is : K → Option K → Option K → Forest K D → Type 0
  Is k parent up f = ((is_among same k f ≡ true) × (parent ≡ up)) ⊎ ((is_among same k f ≡ false) × (places.parent_of same k f ≡ parent))

  parent_is : (at : K → Option (Node K D)) (up prev : Option K) (f : Forest K D) (first last after : Option K) (k : K) (x : Node K D) → IsApart same f
      → Stands at up prev f first last after → has same k f ≡ true → at k ≡ Some x → Is k x.up up f
  parent_is at up prev empty first last after k x a s m found = absurd (never false m refl)
  parent_is at up prev (tree j d below rest) first last after k x a s m found =
      elim (cases (same k j)) [
        | inl e ↦
            let n : x ≡ node d up prev s.0 s.1 s.2 = cc (found, s.4, ap at (sound k j e)) in
            inl (from_left (same k j) (is_among same k rest) e, ap (λ y. y.up) n)
        | inr e ↦ elim (cases (has same k below)) [
          | inl u ↦
              let out : is_among same k rest ≡ false = not_among same k rest (a.2 k u) in
              let off : is_among same k (tree j d below rest) ≡ false = rw (e, out) refl in
              elim (parent_is at (Some j) None below s.0 s.1 None k x a.3 s.5 u found) [
                | inl t ↦ inr (off, here j below rest d t.0 ∙ sym t.1)
                | inr t ↦ inr (off, inner j below rest d t.0 u ∙ t.1)
              ]
          | inr u ↦
              let v : has same k rest ≡ true = rw (e, u) at m in
              elim (parent_is at up (Some j) rest s.2 last after k x a.4 s.6 v found) [
                | inl t ↦ inl (from_right (same k j) (is_among same k rest) t.0, t.1)
                | inr t ↦ inr (neither (same k j) (is_among same k rest) e t.0, later j below rest d (not_among same k below u) u ∙ t.1)
              ]
        ]
      ]
    where
      neither : (a b : Bool) → a ≡ false → b ≡ false → (a || b) ≡ false
      neither a b h q = rw (h, q) refl

      here : (j : K) (below rest : Forest K D) (d : D) → is_among same k below ≡ true → places.parent_of same k (tree j d below rest) ≡ Some j
      here j below rest d h = rw h refl

      inner : (j : K) (below rest : Forest K D) (d : D) → is_among same k below ≡ false → has same k below ≡ true → places.parent_of same k (tree j d below rest) ≡ places.parent_of same k below
      inner j below rest d h u = rw (h, u) refl

      later : (j : K) (below rest : Forest K D) (d : D) → is_among same k below ≡ false → has same k below ≡ false → places.parent_of same k (tree j d below rest) ≡ places.parent_of same k rest
      later j below rest d h u = rw (h, u) refl

  no_parent : (k : K) (f : Forest K D) → has same k f ≡ false → places.parent_of same k f ≡ None
  no_parent k empty h = refl
  no_parent k (tree j d below rest) h =
      let s : (same k j ≡ false) × ((has same k below || has same k rest) ≡ false) = either (same k j) (has same k below || has same k rest) h in
      let t : (has same k below ≡ false) × (has same k rest ≡ false) = either (has same k below) (has same k rest) s.1 in
      rw (not_among same k below t.0, t.0) (no_parent k rest t.1)

  -- The first ones have none,
  pub first_parent : (k : K) (f : Forest K D) → IsApart same f → is_among same k f ≡ true → places.parent_of same k f ≡ None
  first_parent k empty a m = refl
  first_parent k (tree j d below rest) a m =
      elim (cases (same k j)) [
        | inl e ↦
            let low : has same k below ≡ false = subst (λ z. has same z below ≡ false) (sym (sound k j e)) a.0 in
            let out : has same k rest ≡ false = subst (λ z. has same z rest ≡ false) (sym (sound k j e)) a.1 in
            rw (not_among same k below low, low) (no_parent k rest out)
        | inr e ↦
            let v : is_among same k rest ≡ true = rw e at m in
            let low : has same k below ≡ false = apart_back same sound reflexive below rest a.2 k (among_there same k rest v) in
            rw (not_among same k below low, low) (first_parent k rest a.4 v)
      ]

  -- and each other one has one.
  pub other_parent : (k : K) (f : Forest K D) → has same k f ≡ true → is_among same k f ≡ false → places.parent_of same k f ≡ None → ⊥
  other_parent k empty m n h = never false m refl
  other_parent k (tree j d below rest) m n h =
      let s : (same k j ≡ false) × (is_among same k rest ≡ false) = either (same k j) (is_among same k rest) n in
      elim (cases (is_among same k below)) [
        | inl u ↦ let q : Some j ≡ None = rw u at h in cc (q)
        | inr u ↦ elim (cases (has same k below)) [
          | inl v ↦ other_parent k below v u (rw (u, v) at h)
          | inr v ↦ other_parent k rest (rw (s.0, v) at m) s.1 (rw (u, v) at h)
        ]
      ]

pub parent_seen : (a : Arena inner.Node) (root k : BoxKey) → IsTree a root → has same_key k (seen a root) ≡ true → parent_of (linked a k) ≡ places.parent_of same_key k (seen a root)
parent_seen a root k t m =
    let i : has same_key k t.boxes ≡ true = subst (λ f. has same_key k f ≡ true) (seen_is a root t) m in
    let u : (y : Node BoxKey Item) × (linked a k ≡ Some y) × Stands (linked a) (Some k) None (children same_key k t.boxes) y.first y.last None
    × IsApart same_key (children same_key k t.boxes) × (has same_key k (children same_key k t.boxes) ≡ false) =
    stands_children same_key same_key-sound same_key-refl (linked a) None None t.boxes (Some root) (Some root) None k t.is.apart t.is.stands i in
    let up : parent_of (linked a k) ≡ u.0.up = ap parent_of u.1 in
    let told : places.parent_of same_key k (seen a root) ≡ places.parent_of same_key k t.boxes = ap (places.parent_of same_key k) (seen_is a root t) in
    elim (parent_is same_key same_key-sound same_key-refl (linked a) None None t.boxes (Some root) (Some root) None k u.0 t.is.apart t.is.stands i u.1) [
      | inl q ↦ up ∙ (q.1 ∙ sym (told ∙ first_parent same_key same_key-sound same_key-refl k t.boxes t.is.apart q.0))
      | inr q ↦ up ∙ sym (told ∙ q.1)
    ]

-- The root alone has no parent.
pub root_alone : (root k : BoxKey) (f : BoxForest) (d : Item) (below : BoxForest) → f ≡ tree root d below empty → IsApart same_key f → has same_key k f ≡ true
    → (places.parent_of same_key k f ≡ None) ↔ (k ≡ root)
root_alone root k f d below is a m = (
  (λ h. elim (cases (is_among same_key k f)) [
    | inl u ↦ same_key-sound k root (plain (same_key k root) (sym (ap (is_among same_key k) is) ∙ u))
    | inr u ↦ absurd (other_parent same_key same_key-sound same_key-refl k f m u h)
  ]),
  λ e. first_parent same_key same_key-sound same_key-refl k f a (ap (is_among same_key k) is ∙ from_left (same_key k root) false (subst (λ z. same_key k z ≡ true) e (same_key-refl k))),
)
  where
    plain : (b : Bool) → (b || false) ≡ true → b ≡ true
    plain true h = refl
    plain false h = h
