-- A step of the climb to the stacking context of a place.
use Rattle.std.proofs.Common.{◌≡◌, refl, ap, ◌∙◌, sym, subst, Bool, true, false, ◌||◌, cond}
use Rattle.std.specs.Prelude.{Option, Some, None, option_map}
use Rattle.rd_keys.specs.Keys.{same_key}
use Rattle.rd_keys.specs.Arena.{Arena}
use Rattle.rd_keys.proofs.Keys.{same_key-sound, same_key-refl}
use Rattle.rd_tree.specs.declared.node.Node as inner
use Rattle.rd_tree.specs.Forest.{empty, tree, has, children, item_of, IsApart}
use Rattle.rd_tree.specs.Document.{BoxKey, Item, BoxForest, or_else}
use Rattle.rd_tree.specs.Contexts.{own_context}
use Rattle.rd_tree.specs.Internal.Links.{Node, parent_of}
use Rattle.rd_tree.specs.Internal.Linked.{linked, IsTree, seen}
use Rattle.rd_tree.specs.Internal.Regrouping.{is_context_under}
use Rattle.rd_tree.proofs.Linking.Standing.{differs}
use Rattle.rd_tree.proofs.Nodes.Looking.{apart_seen}
use Rattle.rd_tree.proofs.Nodes.Naming.{item_seen}
use Rattle.rd_tree.proofs.Nodes.Rooting.{rooted_seen}
use Rattle.rd_tree.proofs.Tables.Climbing.{Stepped, step_up, end_up}
use Rattle.rd_tree.proofs.Contexts.Nearest.{above, round, above-none, round-none, round-above, nearest-same, children-inner}

-- the boxes below the root
abbrev pub low_of : Arena inner.Node → BoxKey → BoxForest
low_of a root = children same_key root (seen a root)

drop_false : (b c : Bool) → (b || (c || false)) ≡ true → (b || c) ≡ true
drop_false true c h = refl
drop_false false true h = refl
drop_false false false h = h

module _ (a : Arena inner.Node) (root k : BoxKey) (t : IsTree a root) (m : has same_key k (seen a root) ≡ true) where
  -- The root stands in no other context.
  pub round_top : None ≡ parent_of (linked a k) → round k (low_of a root) ≡ None
  round_top e = round-none k (low_of a root) ((end_up a root k t m e).below_none root)

  pub above_top : None ≡ parent_of (linked a k) → above k (low_of a root) ≡ None
  above_top e = above-none k (low_of a root) ((end_up a root k t m e).below_none root)

  module _ (up : BoxKey) (e : Some up ≡ parent_of (linked a k)) where
    r : (d : Item) × (low : BoxForest) × (seen a root ≡ tree root d low empty)
    r = rooted_seen a root t

    low_is : low_of a root ≡ r.1
    low_is = ap (children same_key root) r.2 ∙ rw (same_key-refl root) refl

    ra : IsApart same_key (tree root r.0 r.1 empty)
    ra = subst (λ f. IsApart same_key f) r.2 (apart_seen a root t)

    s : Stepped (seen a root) k up
    s = step_up a root k up t m e

    k_low : has same_key k r.1 ≡ true
    k_low = sym (ap (has same_key k) low_is) ∙ (s.below_too root ∙ (ap (λ z. same_key up root || has same_key up z) low_is
        ∙ drop_false (same_key up root) (has same_key up r.1) (sym (ap (has same_key up) r.2) ∙ s.there)))

    -- The context above a box is that of the children of its parent.
    pub above_is : above k (low_of a root) ≡ round up (low_of a root)
    above_is =
        ap (above k) low_is
        ∙ (nearest-same (λ j below. has same_key k below) (λ j below. same_key up j || has same_key up below) r.1 ra.3
        (λ j u.
        let c : children same_key j (seen a root) ≡ children same_key j r.1 = ap (children same_key j) r.2 ∙ children-inner j root r.0 r.1 empty ra u in
        sym (ap (has same_key k) c) ∙ (s.below_too j ∙ ap (λ z. same_key up j || has same_key up z) c))
        ∙ sym (ap (round up) low_is))

    -- what is known of the item
    round_own : (n : Node BoxKey Item) → linked a k ≡ Some n → round k (low_of a root) ≡ or_else (own_context k n.item) (above k (low_of a root))
    round_own n q =
        let off : same_key k root ≡ false = differs same_key same_key-sound same_key-refl r.1 k root k_low ra.0 in
        let inner : item_of same_key k (tree root r.0 r.1 empty) ≡ item_of same_key k r.1 = rw (off, k_low) refl in
        let item : item_of same_key k r.1 ≡ Some n.item = sym inner ∙ (sym (ap (item_of same_key k) r.2) ∙ (sym (item_seen a root k t) ∙ ap (option_map (λ n. n.item)) q)) in
        ap (round k) low_is ∙ (round-above k r.1 ra.3 k_low n.item item ∙ sym (ap (λ z. or_else (own_context k n.item) (above k z)) low_is))

    -- A box that makes a stacking context is the one of its children,
    pub round_here : is_context_under (linked a k) ≡ true → round k (low_of a root) ≡ Some k
    round_here h = by (linked a k) refl h where
      by : (o : Option (Node BoxKey Item)) → linked a k ≡ o → is_context_under o ≡ true → round k (low_of a root) ≡ Some k
      by None q v = cc (v)
      by (Some n) q v = round_own n q ∙ ap (λ b. or_else (cond b (Some k) None) (above k (low_of a root))) v

    -- and else that is the one of its siblings.
    pub round_up : is_context_under (linked a k) ≡ false → round k (low_of a root) ≡ round up (low_of a root)
    round_up h = by (linked a k) refl h where
      by : (o : Option (Node BoxKey Item)) → linked a k ≡ o → is_context_under o ≡ false → round k (low_of a root) ≡ round up (low_of a root)
      by None q v = cc (e, ap parent_of q)
      by (Some n) q v = round_own n q ∙ (ap (λ b. or_else (cond b (Some k) None) (above k (low_of a root))) v ∙ above_is)
