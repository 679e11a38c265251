-- The steps that take a box out from among its siblings.
use Rattle.std.proofs.Common.{◌≡◌, refl, ap, ◌∙◌, sym}
use Rattle.std.specs.Prelude.{Option, Some, None}
use Rattle.rd_keys.specs.Keys.{same_key}
use Rattle.rd_keys.specs.Arena.{Arena}
use Rattle.rd_tree.specs.declared.node.Node as inner
use Rattle.rd_tree.specs.Internal.Links.{Node, with_prev, with_next, with_ends, edit, edit_if, end_after, cut_from, cut_node, ends_of, place_of, unlinked}
use Rattle.rd_tree.specs.Document.{BoxKey, Item}
use Rattle.rd_tree.specs.Internal.Linked.{linked, Relinks}
use Rattle.rd_tree.proofs.Nodes.Grow.{edit_if-as}

-- Three steps cut a box out from below its parent.
pub relinks_cut : (a0 a1 a2 a3 : Arena inner.Node) (k p : BoxKey) (up v n : Option BoxKey) (ends : Option BoxKey × Option BoxKey) (first last : Option BoxKey) →
    (up, v, n) ≡ place_of (linked a0 k) → up ≡ Some p → ends ≡ ends_of (linked a0 p) → first ≡ end_after v n ends.0 → last ≡ end_after n v ends.1 →
    Relinks a0 a1 (edit_if same_key v (with_next n) (linked a0)) → Relinks a1 a2 (edit_if same_key n (with_prev v) (linked a1)) → Relinks a2 a3
    (edit same_key p (with_ends first last) (linked a2)) →
    Relinks a0 a3 (unlinked same_key k (linked a0))
relinks_cut a0 a1 a2 a3 k p up v n ends first last place_is up_is ends_is first_is last_is r1 r2 r3 = record {
  links = λ j. all j ∙ ap (λ g. g j) (sym (same (linked a0 k) refl));
  same_slots = r3.same_slots ∙ (r2.same_slots ∙ r1.same_slots);
  same_live = r3.same_live ∙ (r2.same_live ∙ r1.same_live);
  limit = r3.limit ∙ (r2.limit ∙ r1.limit);
  first = r3.first ∙ (r2.first ∙ r1.first);
} where
  at1 : BoxKey → Option (Node BoxKey Item)
  at1 = edit_if same_key v (with_next n) (linked a0)

  at2 : BoxKey → Option (Node BoxKey Item)
  at2 = edit_if same_key n (with_prev v) at1

  at3 : BoxKey → Option (Node BoxKey Item)
  at3 = edit same_key p (with_ends first last) at2

  all : (j : BoxKey) → linked a3 j ≡ at3 j
  all j = r3.links j ∙ edit_if-as same_key (Some p) (with_ends first last) (linked a2) at2 j (r2.links j ∙ edit_if-as same_key n (with_prev v) (linked a1)
      at1 j (r1.links j))

  ends_are : with_ends first last ≡ with_ends {K = BoxKey} {D = Item} (end_after v n (ends_of (linked a0 p)).0) (end_after n v (ends_of (linked a0 p)).1)
  ends_are = rw (first_is, last_is, ends_is) refl

  same : (o : Option (Node BoxKey Item)) → linked a0 k ≡ o → unlinked same_key k (linked a0) ≡ at3
  same None e =
      let u : up ≡ None = ap (λ q. q.0) (place_is ∙ ap place_of e) in
      cc (u, up_is)
  same (Some x) e =
      let h : (up, v, n) ≡ (x.up, x.prev, x.next) = place_is ∙ ap place_of e in
      let up2 : x.up ≡ Some p = sym (ap (λ q. q.0) h) ∙ up_is in
      let v2 : v ≡ x.prev = ap (λ q. q.1) h in
      let n2 : n ≡ x.next = ap (λ q. q.2) h in
      ap (λ o. cut_node same_key o (linked a0)) e ∙ (ap (λ o. cut_from same_key o x (linked a0)) up2 ∙ rw (ends_are, v2, n2) refl)
