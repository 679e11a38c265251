-- The root has no siblings.
use Rattle.std.proofs.Common.{◌≡◌, ap, ◌∙◌, sym, subst, Bool, true}
use Rattle.std.specs.Prelude.{Option, Some, None}
use Rattle.rd_keys.specs.Keys.{same_key}
use Rattle.rd_keys.specs.Arena.{Arena}
use Rattle.rd_keys.proofs.Keys.{same_key-sound, same_key-refl}
use Rattle.rd_tree.specs.declared.node.Node as inner
use Rattle.rd_tree.specs.Forest.{Forest, empty, tree, has, IsApart}
use Rattle.rd_tree.specs.Internal.Links.{Node, Stands}
use Rattle.rd_tree.specs.Document.{BoxKey, Item, BoxForest}
use Rattle.rd_tree.specs.Internal.Linked.{linked, IsTree, seen}
use Rattle.rd_tree.proofs.Linking.Standing.{never, last_of}
use Rattle.rd_tree.proofs.Nodes.Grow.{seen_is}

module _ {K D : Type 0} (same : K → K → Bool) (sound : (a b : K) → same a b ≡ true → a ≡ b) (reflexive : (a : K) → same a a ≡ true) where
  -- Siblings from k to k are k alone.
  pub alone_stands : (at : K → Option (Node K D)) (up prev : Option K) (f : Forest K D) (k : K) →
      IsApart same f → Stands at up prev f (Some k) (Some k) None → (d : D) × (below : Forest K D) × (f ≡ tree k d below empty)
  alone_stands at up prev empty k a s = cc (s.0)
  alone_stands at up prev (tree j d below empty) k a s =
      let e : k ≡ j = cc (s.3) in
      (d, below, ap (λ i. tree i d below empty) (sym e))
  alone_stands at up prev (tree j d below (tree i c b r)) k a s =
      let e : k ≡ j = cc (s.3) in
      let t : (l : K) × (Some k ≡ Some l) × (has same l (tree i c b r) ≡ true) = last_of same sound reflexive at up (Some j) i c b r s.2 (Some k) None s.6 in
      let n : t.0 ≡ j = cc (t.1, e) in
      absurd (never (has same j (tree i c b r)) (subst (λ x. has same x (tree i c b r) ≡ true) n t.2) a.1)

pub rooted_seen : (a : Arena inner.Node) (root : BoxKey) → IsTree a root → (d : Item) × (below : BoxForest) × (seen a root ≡ tree root d below empty)
rooted_seen a root t =
    let r : (d : Item) × (below : BoxForest) × (t.boxes ≡ tree root d below empty) = alone_stands same_key same_key-sound same_key-refl (linked a) None
    None t.boxes root t.is.apart t.is.stands in
    (r.0, r.1, seen_is a root t ∙ r.2)
