-- Nodes whose items change, each in a way that may depend on its key.
use Rattle.std.proofs.Common.{◌≡◌, refl, ap, ◌∙◌, sym, subst, ℕ, ◌+◌, true, false, List, length, arith}
use Rattle.std.specs.Prelude.{Option, Some, None, String, option_map, is_some}
use Rattle.std.specs.HashMap.{HashMap, get_by_text}
use Rattle.rd_keys.specs.Keys.{same_key}
use Rattle.rd_keys.specs.Arena.{Arena}
use Rattle.rd_keys.proofs.Keys.{same_key-sound, same_key-refl}
use Rattle.rd_style.specs.Limits.{Fits}
use Rattle.rd_tree.specs.Limits.{IsNear}
use Rattle.rd_tree.specs.declared.node.Node as inner
use Rattle.rd_tree.specs.Forest.{empty, tree, has, children, in_subtree, without_branch}
use Rattle.rd_tree.specs.Internal.Links.{Node, with_item, Stands}
use Rattle.rd_tree.specs.Document.{BoxKey, Item, BoxForest}
use Rattle.rd_tree.specs.Ids.{is_id}
use Rattle.rd_tree.specs.Internal.Linked.{linked, marks, Relinks, IsTree, seen, item_at, IsIndexed, EachFits, IsConsistent}
use Rattle.rd_tree.specs.Internal.Blending.{IsBlending, AreCounts, given, given_in, count_at}
use Rattle.rd_tree.specs.Internal.Laid.{each_by}
use Rattle.rd_tree.proofs.Linking.Standing.{frame, agree_at}
use Rattle.rd_tree.proofs.Nodes.Grow.{seen_is, same_occupied}
use Rattle.rd_tree.proofs.Forests.Without.{stays_out}
use Rattle.rd_tree.proofs.Forests.ByKey.{size-by, has-by, apart_by, without_branch-by, subtree-by, among_by, by_none}
use Rattle.rd_tree.proofs.Tables.Keeping.{same_slots}
use Rattle.rd_tree.proofs.Tables.OneBranch.{Edited}

-- with the items changed
abbrev pub on_all : (BoxKey → Item → Item) → (BoxKey → Option (Node BoxKey Item)) → BoxKey → Option (Node BoxKey Item)
on_all g at j = option_map (with_item (g j)) (at j)

stands_by : (g : BoxKey → Item → Item) (at : BoxKey → Option (Node BoxKey Item)) (up prev : Option BoxKey) (f : BoxForest) (first last after : Option BoxKey) →
    Stands at up prev f first last after → Stands (on_all g at) up prev (each_by g f) first last after
stands_by g at up prev empty first last after s = s
stands_by g at up prev (tree k d below rest) first last after s = (
  s.0,
  s.1,
  s.2,
  s.3,
  ap (option_map (with_item (g k))) s.4,
  stands_by g at (Some k) None below s.0 s.1 None s.5,
  stands_by g at up (Some k) rest s.2 last after s.6,
)

still_there : (g : Node BoxKey Item → Node BoxKey Item) (o : Option (Node BoxKey Item)) → is_some (option_map g o) ≡ is_some o
still_there g None = refl
still_there g (Some n) = refl

pub tree_by : (a b : Arena inner.Node) (root : BoxKey) (g : BoxKey → Item → Item) → IsTree a root → Relinks a b (on_all g (linked a))
    → (t : IsTree b root) × (seen b root ≡ each_by g (seen a root))
tree_by a b root g t r =
    let f : BoxForest = each_by g t.boxes in
    let stands : Stands (linked b) None None f (Some root) (Some root) None =
    frame (on_all g (linked a)) (linked b) None None f (Some root) (Some root) None (agree_at same_key same_key-sound same_key-refl (on_all g (linked a))
    (linked b) f (λ j _. r.links j))
    (stands_by g (linked a) None None t.boxes (Some root) (Some root) None t.is.stands) in
    let inside : (k : BoxKey) → is_some (linked b k) ≡ true → has same_key k f ≡ true = λ k u. has-by g same_key k t.boxes ∙ t.is.inside k (sym
    (ap is_some (r.links k) ∙ still_there (with_item (g k)) (linked a k)) ∙ u) in
    let n : IsTree b root = record {
      boxes = f;
      is = record {
        stands = stands;
        apart = apart_by g same_key t.boxes t.is.apart;
        inside = inside;
        counted = omega (arith, size-by g t.boxes, t.is.counted, r.same_live);
      };
      most = omega (arith, t.most, same_occupied a b r.same_slots, r.limit);
    } in
    (n, seen_is b root n ∙ ap (each_by g) (sym (seen_is a root t)))

same_there : {A : Type 0} (a b : A) → Some a ≡ Some b → b ≡ a
same_there a b h = cc (h)

nothing_there : {A : Type 0} (a : A) → None ≡ Some a → ⊥
nothing_there a h = cc (h)

item-by : (g : BoxKey → Item → Item) (a b : Arena inner.Node) → Relinks a b (on_all g (linked a)) → (k : BoxKey) → item_at b k ≡ option_map (g k) (item_at a k)
item-by g a b r k = ap (option_map (λ n. n.item)) (r.links k) ∙ kept (linked a k) where
  kept : (o : Option (Node BoxKey Item)) → option_map (λ n. n.item) (option_map (with_item (g k)) o) ≡ option_map (g k) (option_map (λ n. n.item) o)
  kept None = refl
  kept (Some n) = refl

module _ (g : BoxKey → Item → Item) (at bt : BoxKey → Option Item) (more : (k : BoxKey) → bt k ≡ option_map (g k) (at k)) where
  old_item : (k : BoxKey) (o : Option Item) (d : Item) → option_map (g k) o ≡ Some d → (e : Item) × (o ≡ Some e) × (d ≡ g k e)
  old_item k None d h = absurd (nothing_there d h)
  old_item k (Some e) d h = (e, refl, same_there (g k e) d h)

  ids_at : (k : BoxKey) → ((d : Item) → (g k d).id ≡ d.id) → (o : Option Item) → option_map (λ d. d.id) (option_map (g k) o) ≡ option_map (λ d. d.id) o
  ids_at k same_id None = refl
  ids_at k same_id (Some e) = ap Some (same_id e)

  indexed_by : {Y S : Type 0} (ids : HashMap (String Y) BoxKey S) → ((k : BoxKey) (d : Item) → (g k d).id ≡ d.id) → IsIndexed at ids → IsIndexed bt ids
  indexed_by ids same_id x = record {
    named = λ k d h.
        let o : (e : Item) × (at k ≡ Some e) × (d ≡ g k e) = old_item k (at k) d (sym (more k) ∙ h) in
        let i : d.id ≡ o.0.id = ap (λ d. d.id) o.2 ∙ same_id k o.0 in
        ap (get_by_text ids) i ∙ x.named k o.0 o.1;
    live = λ i k h. ap (option_map (λ d. d.id)) (more k) ∙ (ids_at k (same_id k) (at k)) ∙ x.live i k h;
    are = λ k d h.
        let o : (e : Item) × (at k ≡ Some e) × (d ≡ g k e) = old_item k (at k) d (sym (more k) ∙ h) in
        ap is_id (ap (λ d. d.id) o.2 ∙ same_id k o.0) ∙ x.are k o.0 o.1;
  }

  fits_by : ((k : BoxKey) (d : Item) → at k ≡ Some d → IsNear (g k d).rect × Fits (g k d).style) → EachFits bt
  fits_by fit k d h =
      let o : (e : Item) × (at k ≡ Some e) × (d ≡ g k e) = old_item k (at k) d (sym (more k) ∙ h) in
      subst (λ x. IsNear x.rect × Fits x.style) (sym o.2) (fit k o.0 o.1)

-- Changes of items that keep ids and limits keep all that a tree keeps.
pub sound_by : {Y S : Type 0} (a b : Arena inner.Node) (root : BoxKey) (ids : HashMap (String Y) BoxKey S) (g : BoxKey → Item → Item) → IsConsistent a root ids
    → Relinks a b (on_all g (linked a)) → ((k : BoxKey) (d : Item) → (g k d).id ≡ d.id) → ((k : BoxKey) (d : Item) → item_at a k ≡ Some d → IsNear (g k d).rect × Fits (g k d).style)
    → IsConsistent b root ids
sound_by a b root ids g s r same_id fit = record {
  tree = (tree_by a b root g s.tree r).0;
  indexed = indexed_by g (item_at a) (item_at b) (item-by g a b r) ids same_id s.indexed;
  fits = fits_by g (item_at a) (item_at b) (item-by g a b r) fit;
  limit = r.limit ∙ s.limit;
  first = r.first ∙ s.first;
}

-- Items that change in the branch of k alone.
pub edited_by : (g : BoxKey → Item → Item) (k : BoxKey) (f : BoxForest) → ((j : BoxKey) (d : Item) → in_subtree same_key j k f ≡ false → g j d ≡ d) → Edited k f (each_by g f)
edited_by g k f q = record {
  has_same = λ j. has-by g same_key j f;
  in_same = λ i j. subtree-by g same_key i j f;
  replaced = λ p a m w. record {
    apart = apart_by g same_key f a;
    there = has-by g same_key p f ∙ m;
    child = among_by g same_key k p f w;
    same = without_branch-by g same_key k f ∙ by_none g same_key same_key-refl (without_branch same_key k f) (λ j d u.
        let o : (same_key j k ≡ false) × (has same_key j (children same_key k f) ≡ false) = stays_out same_key same_key-sound same_key-refl j k f a u in
        q j d (rw (o.0, o.1) refl));
  };
}

-- The counts of blended layers stay right where no style changes.
module _ (n : BoxKey → ℕ) (g : BoxKey → Item → Item) (keeps : (k : BoxKey) (d : Item) → (g k d).style ≡ d.style) where
  given-by : (f : BoxForest) → given_in n (each_by g f) ≡ given_in n f
  given-by empty = refl
  given-by (tree k d below rest) = λ i. given (keeps k d i) (n k) + given-by rest i

  counts_by : (f : BoxForest) → AreCounts n f → AreCounts n (each_by g f)
  counts_by empty a = tt
  counts_by (tree k d below rest) a = (a.0 ∙ sym (given-by below), counts_by below a.1, counts_by rest a.2)

pub blending_by : (a b : Arena inner.Node) (rows : List ℕ) (f h : BoxForest) (g : BoxKey → Item → Item) → ((k : BoxKey) (d : Item) → (g k d).style ≡ d.style)
    → h ≡ each_by g f → marks b ≡ marks a → IsBlending a rows f → IsBlending b rows h
blending_by a b rows f h g keeps sees slots near = subst (λ z. IsBlending b rows z) (sym sees) (record {
  all_rows = let n : length b.slots ≡ length a.slots = same_slots a b slots in omega (arith, n, near.all_rows);
  right = counts_by (count_at rows) g keeps f near.right;
})
