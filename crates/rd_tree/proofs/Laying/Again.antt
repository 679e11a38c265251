-- A box that is drawn elsewhere with all below it: what that leaves of a tree.
use Rattle.std.proofs.Common.{◌≡◌, refl, ap, ◌∙◌, sym, subst, ℕ, ◌≤◌, Bool, true, false, cond, List, arith}
use Rattle.std.specs.Prelude.{Option, Some, None, String, is_some, option_map}
use Rattle.std.specs.HashMap.{HashMap}
use Rattle.rd_keys.specs.Keys.{same_key}
use Rattle.rd_keys.specs.Arena.{Arena}
use Rattle.rd_keys.proofs.Keys.{same_key-sound, same_key-refl}
use Rattle.rd_tree.specs.declared.node.Node as inner
use Rattle.rd_tree.specs.declared.handed.ScrollSums.{ScrollSums}
use Rattle.rd_tree.specs.declared.scroll.Scroll.{Scroll}
use Rattle.rd_tree.specs.Figures.{max_depth}
use Rattle.rd_tree.specs.Limits.{IsNear}
use Rattle.rd_tree.specs.Drawn.{AllNear}
use Rattle.rd_tree.specs.Forest.{has, height, item_of, children, at_box}
use Rattle.rd_tree.specs.Document.{BoxKey, Item, BoxForest}
use Rattle.rd_tree.specs.Internal.Links.{Node, with_item, edit, child_and_sibling}
use Rattle.rd_tree.specs.Internal.Linked.{linked, marks, Relinks, IsTree, IsRead, seen, seen_from, IsConsistent}
use Rattle.rd_tree.specs.Internal.Blending.{IsBlending}
use Rattle.rd_tree.specs.Internal.Hands.{hand_at, handed_to}
use Rattle.rd_tree.specs.Internal.Redraws.{drawn_anew, drawn_far, redrawn, redrawn_if, DrawsAt, Redraws}
use Rattle.rd_tree.specs.Internal.Laid.{each_by, drawn_again}
use Rattle.rd_tree.proofs.Linking.Standing.{flip, either}
use Rattle.rd_tree.proofs.Forests.All.{all_item}
use Rattle.rd_tree.proofs.Forests.ByKey.{height-by, item-by}
use Rattle.rd_tree.proofs.Nodes.ByKey.{on_all, tree_by, sound_by, edited_by, blending_by}
use Rattle.rd_tree.proofs.Nodes.Each.{each_tree, is_some-each, Under, under_box}
use Rattle.rd_tree.proofs.Nodes.Editing.{edit_each, still_has}
use Rattle.rd_tree.proofs.Nodes.Looking.{apart_seen}
use Rattle.rd_tree.proofs.Nodes.Naming.{item_seen}
use Rattle.rd_tree.proofs.Summaries.Within.{not_own}
use Rattle.rd_tree.proofs.Tables.Above.{is_live}
use Rattle.rd_tree.proofs.Tables.OneBranch.{Edited, box_kept}
use Rattle.rd_tree.proofs.Tables.TreeRows.{seen_stands}
use Rattle.rd_tree.proofs.Laying.Near.{NearItem, near_items, near_is_placed}

nothing_map : (o : Option (Node BoxKey Item)) → o ≡ option_map (with_item (λ d. d)) o
nothing_map None = refl
nothing_map (Some n) = refl

map_map : (f g : Item → Item) (o : Option (Node BoxKey Item)) → option_map (with_item f) (option_map (with_item g) o) ≡ option_map (with_item (λ d. f (g d))) o
map_map f g None = refl
map_map f g (Some n) = refl

-- one box, and then those below it
both : (f g : Item → Item) (o : Option (Node BoxKey Item)) (x y l : Bool) → x ≡ y → (y ≡ true → l ≡ false)
    → cond l (option_map (with_item f) (cond x (option_map (with_item g) o) o)) (cond x (option_map (with_item g) o) o) ≡ option_map (with_item (λ d. cond y (g d) (cond l (f d) d))) o
both f g o true true true e h = cc (h refl)
both f g o true true false e h = refl
both f g o false false true e h = refl
both f g o false false false e h = nothing_map o
both f g o true false l e h = cc (e)
both f g o false true l e h = cc (e)

-- A box that is drawn near can be drawn there.
pub drawn_near : {Y S : Type 0} (a : Arena inner.Node) (root k : BoxKey) (ids : HashMap (String Y) BoxKey S) (old new : Scroll) (rows : List ScrollSums) (h : ScrollSums) → IsConsistent a root ids
    → AllNear (drawn_again rows k old new h (seen a root)) → DrawsAt old new (linked a k)
drawn_near a root k ids old new rows h s near = at (linked a k) refl where
  how : BoxKey → Item → Item
  how j d = cond (same_key j k) (drawn_far old new d) (cond (has same_key j (children same_key k (seen a root))) (redrawn (hand_at rows j) (handed_to j h (children same_key k (seen a root))) d) d)

  at : (o : Option (Node BoxKey Item)) → linked a k ≡ o → DrawsAt old new o
  at None e = tt
  at (Some n) e =
      let i : item_of same_key k (drawn_again rows k old new h (seen a root)) ≡ Some (how k n.item) =
      item-by how same_key same_key-sound k (seen a root) ∙ ap (option_map (how k)) (sym (item_seen a root k s.tree) ∙ ap (option_map (λ n. n.item)) e) in
      let w : NearItem (how k n.item) = all_item NearItem same_key k (how k n.item) (drawn_again rows k old new h (seen a root)) (near_items (drawn_again rows k old new h (seen a root)) near) i in
      let is : how k n.item ≡ drawn_far old new n.item = rw (same_key-refl k) refl in
      near_is_placed (drawn_anew old new n.item.rect) (subst (λ z. IsNear z.rect) is w.0)

-- one box changed in one way, and all below it drawn anew and touched where that is asked for
abbrev pub anew : (Item → Item) → Bool → List ScrollSums → BoxKey → ScrollSums → BoxForest → BoxKey → Item → Item
anew e asked rows k h f j d = cond (same_key j k) (e d) (cond (has same_key j (children same_key k f)) (redrawn_if asked (hand_at rows j) (handed_to j h (children same_key k f)) d) d)

-- A change of an item that leaves its id and its style.
pub record KeepsStyle (e : Item → Item) : Type 0 where
  pub id : (d : Item) → (e d).id ≡ d.id
  pub style : (d : Item) → (e d).style ≡ d.style

-- One box changes so, and all below it are drawn anew.
module _ {Y S : Type 0} (e : Item → Item) (keeps : KeepsStyle e) (a b : Arena inner.Node) (root k : BoxKey) (ids : HashMap (String Y) BoxKey S) (s : IsConsistent a root ids)
    (m : has same_key k (seen a root) ≡ true) (r1 : Relinks a b (edit same_key k (with_item e) (linked a))) where
  abbrev below : BoxForest
  below = children same_key k (seen a root)

  -- what is below the box is as it was
  first : (t : IsTree b root) × (seen b root ≡ at_box same_key k e (seen a root))
  first = each_tree a b root (λ j. same_key j k) e s.tree (edit_each a b k e r1)

  under : Under b root k (child_and_sibling (linked b k)).0
  under = under_box b root k first.0 (still_has (λ j. same_key j k) e k (seen a root) (seen b root) first.1 m)

  pub again_read : IsRead b (child_and_sibling (linked b k)).0
  again_read = under.read

  pub again_below : seen_from b (child_and_sibling (linked b k)).0 ≡ children same_key k (seen a root)
  again_below = under.told ∙ (ap (children same_key k) first.1 ∙ box_kept e k (seen a root) (apart_seen a root s.tree))

  -- no box dies
  pub again_live : (j : BoxKey) → has same_key j (seen a root) ≡ true → is_some (linked b j) ≡ true
  again_live j u = ap is_some (r1.links j) ∙ (is_some-each (same_key k j) (with_item e) (linked a j) ∙ is_live a root (seen a root) (seen_stands a root s.tree) j u)

  module _ (c : Arena inner.Node) (rows : List ScrollSums) (h : ScrollSums) (asked : Bool) (r2 : Redraws asked b c rows h (seen_from b (child_and_sibling (linked b k)).0))
      (near : AllNear (each_by (anew e asked rows k h (seen a root)) (seen a root))) where
    abbrev how : BoxKey → Item → Item
    how = anew e asked rows k h (seen a root)

    out_of : (j : BoxKey) → same_key j k ≡ true → has same_key j below ≡ false
    out_of j e = ap (λ z. has same_key z below) (same_key-sound j k e) ∙ not_own same_key same_key-sound same_key-refl k (seen a root) (apart_seen a root s.tree)

    links : Relinks a c (on_all how (linked a))
    links = record {
      links = λ j. r2.links j
          ∙ (ap (λ f. cond (has same_key j f) (option_map (with_item (redrawn_if asked (hand_at rows j) (handed_to j h f))) (linked b j)) (linked b j)) again_below
          ∙ (ap (λ o. cond (has same_key j below) (option_map (with_item (redrawn_if asked (hand_at rows j) (handed_to j h below))) o) o) (r1.links j)
          ∙ both (redrawn_if asked (hand_at rows j) (handed_to j h below)) e (linked a j) (same_key k j) (same_key j k) (has same_key j below)
          (flip same_key same_key-sound same_key-refl k j) (out_of j)));
      same_slots = r2.same_slots ∙ r1.same_slots;
      same_live = r2.same_live ∙ r1.same_live;
      limit = r2.limit ∙ r1.limit;
      first = r2.first ∙ r1.first;
    }

    pub again_slots : marks c ≡ marks a
    again_slots = links.same_slots

    pub again_sees : seen c root ≡ each_by how (seen a root)
    again_sees = (tree_by a c root how s.tree links).1

    same_id : (j : BoxKey) (d : Item) → (how j d).id ≡ d.id
    same_id j d = by (same_key j k) (has same_key j below) where
      by : (x y : Bool) → (cond x (e d) (cond y (redrawn_if asked (hand_at rows j) (handed_to j h below) d) d)).id ≡ d.id
      by true y = keeps.id d
      by false true = refl
      by false false = refl

    same_style : (j : BoxKey) (d : Item) → (how j d).style ≡ d.style
    same_style j d = by (same_key j k) (has same_key j below) where
      by : (x y : Bool) → (cond x (e d) (cond y (redrawn_if asked (hand_at rows j) (handed_to j h below) d) d)).style ≡ d.style
      by true y = keeps.style d
      by false true = refl
      by false false = refl

    pub again_sound : IsConsistent c root ids
    again_sound = sound_by a c root ids how s links same_id (λ j d i.
        all_item NearItem same_key j (how j d) (each_by how (seen a root)) (near_items (each_by how (seen a root)) near)
        (item-by how same_key same_key-sound j (seen a root) ∙ ap (option_map (how j)) (sym (item_seen a root j s.tree) ∙ i)))

    pub again_edited : Edited k (seen a root) (seen c root)
    again_edited = subst (Edited k (seen a root)) (sym again_sees) (edited_by how k (seen a root) (λ j d o.
        let p : (same_key j k ≡ false) × (has same_key j below ≡ false) = either (same_key j k) (has same_key j below) o in
        rw (p.0, p.1) refl))

    pub again_blending : (counts : List ℕ) → IsBlending a counts (seen a root) → IsBlending c counts (seen c root)
    again_blending counts near = blending_by a c counts (seen a root) (seen c root) how same_style again_sees again_slots near

    pub again_shallow : height (seen a root) ≤ max_depth → height (seen c root) ≤ max_depth
    again_shallow l = let n : height (seen c root) ≡ height (seen a root) = ap height again_sees ∙ height-by how (seen a root) in omega (arith, n, l)
