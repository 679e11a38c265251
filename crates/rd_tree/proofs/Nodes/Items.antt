-- What links say of items.
use Rattle.std.proofs.Common.{◌≡◌, refl, ap, ◌∙◌, Bool, true, false, cond}
use Rattle.std.specs.Prelude.{Option, Some, None, option_map}
use Rattle.rd_keys.specs.Keys.{same_key}
use Rattle.rd_keys.specs.Arena.{Arena, Enters}
use Rattle.rd_tree.specs.declared.node.Node as inner
use Rattle.rd_tree.specs.Internal.Links.{Node, edit, edit_if, with_next, with_prev, with_ends, end_after, grafted}
use Rattle.rd_tree.specs.Document.{BoxKey, Item}
use Rattle.rd_tree.specs.Internal.Linked.{plain, linked, Relinks, item_at}
use Rattle.rd_tree.proofs.Nodes.Grow.{linked_put}

module _ {K D : Type 0} (same : K → K → Bool) where
  abbrev pub items : (K → Option (Node K D)) → K → Option D
  items at j = option_map (λ n. n.item) (at j)

  -- links that change leave the items
  pub items-edit : (k : K) (e : Node K D → Node K D) → ((n : Node K D) → (e n).item ≡ n.item) → (at : K → Option (Node K D)) (j : K)
      → items (edit same k e at) j ≡ items at j
  items-edit k e h at j = kept (same k j) (at j) where
    kept : (b : Bool) (o : Option (Node K D)) → option_map (λ n. n.item) (cond b (option_map e o) o) ≡ option_map (λ n. n.item) o
    kept true None = refl
    kept true (Some n) = ap Some (h n)
    kept false o = refl

  pub items-edit_if : (o : Option K) (e : Node K D → Node K D) → ((n : Node K D) → (e n).item ≡ n.item) → (at : K → Option (Node K D)) (j : K)
      → items (edit_if same o e at) j ≡ items at j
  items-edit_if None e h at j = refl
  items-edit_if (Some k) e h at j = items-edit k e h at j

  pub items-grafted : (p k : K) (v m first last : Option K) (at : K → Option (Node K D)) (j : K) → items (grafted same p k v m first last at) j ≡ items at j
  items-grafted p k v m first last at j =
      items-edit p (with_ends (end_after v (Some k) first) (end_after m (Some k) last)) (λ n. refl) (edit_if same m (with_prev (Some k)) (edit_if same v
      (with_next (Some k)) at)) j
      ∙ (items-edit_if m (with_prev (Some k)) (λ n. refl) (edit_if same v (with_next (Some k)) at) j ∙ items-edit_if v (with_next (Some k)) (λ n. refl) at j)

-- the items once one more is stored and linked
pub items_grown : (a0 a1 a2 : Arena inner.Node) (p k : BoxKey) (x : inner.Node) (v m first last : Option BoxKey) →
    Enters a0 a1 k.slot k.generation x → Relinks a1 a2 (grafted same_key p k v m first last (linked a1)) →
    (j : BoxKey) → item_at a2 j ≡ cond (same_key k j) (Some x.item) (item_at a0 j)
items_grown a0 a1 a2 p k x v m first last s r j =
    ap (option_map (λ n. n.item)) (r.links j) ∙ (items-grafted same_key p k v m first last (linked a1) j ∙ (ap (option_map (λ n. n.item)) (linked_put a0 a1
    k x s j) ∙ kept (same_key k j) (linked a0 j))) where
      kept : (b : Bool) (o : Option (Node BoxKey Item)) → option_map (λ n. n.item) (cond b (Some (plain x)) o) ≡ cond b (Some x.item) (option_map
          (λ n. n.item) o)
      kept true o = refl
      kept false o = refl
