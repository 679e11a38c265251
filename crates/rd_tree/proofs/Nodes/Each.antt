-- Items that change where they stand.
use Rattle.std.proofs.Common.{◌≡◌, refl, ap, ◌∙◌, sym, subst, Bool, true, false, ◌||◌, cond, arith, inl, inr}
use Rattle.std.specs.Prelude.{Option, Some, None, String, option_map, is_some}
use Rattle.std.specs.HashMap.{HashMap, get_by_text}
use Rattle.rd_keys.specs.Keys.{same_key}
use Rattle.rd_keys.specs.Arena.{Arena}
use Rattle.rd_keys.proofs.Keys.{same_key-sound, same_key-refl}
use Rattle.rd_keys.proofs.Calls.{live_occupied}
use Rattle.rd_style.specs.Limits.{Fits}
use Rattle.rd_tree.specs.Limits.{IsNear}
use Rattle.rd_tree.specs.declared.node.Node as inner
use Rattle.rd_tree.specs.Forest.{Forest, empty, tree, size, ◌▷◌, has, children, map_where, is_among, AllItems, IsPlaceIn, IsApart}
use Rattle.rd_tree.specs.Internal.Links.{Node, node, with_item, Stands, on_each, child_and_sibling}
use Rattle.rd_tree.specs.Document.{BoxKey, Item, BoxForest}
use Rattle.rd_tree.specs.Ids.{is_id}
use Rattle.rd_tree.specs.Internal.Linked.{linked, Relinks, IsTree, IsRead, seen, seen_from, item_at, IsIndexed, EachFits, IsConsistent}
use Rattle.rd_tree.proofs.Linking.Standing.{cases, frame, agree_at, from_left, from_right}
use Rattle.rd_tree.proofs.Linking.Children.{stands_children}
use Rattle.rd_tree.proofs.Nodes.Grow.{seen_is, same_occupied}
use Rattle.rd_tree.proofs.Forests.Under.{size-children}
use Rattle.rd_tree.proofs.Nodes.Works.{seen_read}

module _ {K D : Type 0} (p : K → Bool) (g : D → D) where
  pub size-each : (f : Forest K D) → size (map_where p g f) ≡ size f
  size-each empty = refl
  size-each (tree k d below rest) = omega (arith, size-each below, size-each rest)

  pub stands_each : (at : K → Option (Node K D)) (up prev : Option K) (f : Forest K D) (first last after : Option K) →
      Stands at up prev f first last after → Stands (on_each p g at) up prev (map_where p g f) first last after
  stands_each at up prev empty first last after s = s
  stands_each at up prev (tree k d below rest) first last after s =
      (s.0, s.1, s.2, s.3, here (p k) (at k) s.4, stands_each at (Some k) None below s.0 s.1 None s.5, stands_each at up (Some k) rest s.2 last after s.6) where
        here : (b : Bool) (o : Option (Node K D)) → o ≡ Some (node d up prev s.0 s.1 s.2) → cond b (option_map (with_item g) o) o ≡ Some (node (cond b
            (g d) d) up prev s.0 s.1 s.2)
        here true o e = ap (option_map (with_item g)) e
        here false o e = e

  pub join-each : (f h : Forest K D) → map_where p g (f ▷ h) ≡ map_where p g f ▷ map_where p g h
  join-each empty h = refl
  join-each (tree k d below rest) h = ap (tree k (cond (p k) (g d) d) (map_where p g below)) (join-each rest h)

  module _ (same : K → K → Bool) where
    pub has-each : (j : K) (f : Forest K D) → has same j (map_where p g f) ≡ has same j f
    has-each j empty = refl
    has-each j (tree k d below rest) = rw (has-each j below, has-each j rest) refl

    pub apart_each : (f : Forest K D) → IsApart same f → IsApart same (map_where p g f)
    apart_each empty a = tt
    apart_each (tree k d below rest) a = (
      has-each k below ∙ a.0,
      has-each k rest ∙ a.1,
      (λ j u. has-each j rest ∙ a.2 j (sym (has-each j below) ∙ u)),
      apart_each below a.3,
      apart_each
          rest a.4,
    )

    pub children-each : (j : K) (f : Forest K D) → children same j (map_where p g f) ≡ map_where p g (children same j f)
    children-each j empty = refl
    children-each j (tree k d below rest) =
        elim (cases (same j k)) [
          | inl e ↦ rw e refl
          | inr e ↦ rw (e, children-each j below, children-each j rest) (sym (join-each (children same j below)
              (children same j rest)))
        ]

    among-each : (j : K) (f : Forest K D) → is_among same j (map_where p g f) ≡ is_among same j f
    among-each j empty = refl
    among-each j (tree k d below rest) = ap (λ b. same j k || b) (among-each j rest)

    pub place_each : (o : Option K) (f : Forest K D) → IsPlaceIn same o f → IsPlaceIn same o (map_where p g f)
    place_each None f h = tt
    place_each (Some j) f h = among-each j f ∙ h

-- Only the boxes of the forest are asked.
pub each_same : {K D : Type 0} (same : K → K → Bool) (reflexive : (a : K) → same a a ≡ true) (p q : K → Bool) (g : D → D) (f : Forest K D) → ((j : K)
    → has same j f ≡ true → p j ≡ q j) → map_where p g f ≡ map_where q g f
each_same same reflexive p q g empty h = refl
each_same same reflexive p q g (tree k d below rest) h =
    let here : p k ≡ q k = h k (from_left (same k k) (has same k below || has same k rest) (reflexive k)) in
    let low : map_where p g below ≡ map_where q g below = each_same same reflexive p q g below (λ j u. h j (from_right (same j k) (has same j below || has
    same j rest) (from_left (has same j below) (has same j rest) u))) in
    let later : map_where p g rest ≡ map_where q g rest = each_same same reflexive p q g rest (λ j u. h j (from_right (same j k) (has same j below || has
    same j rest) (from_right (has same j below) (has same j rest) u))) in
    rw (here, low, later) refl

pub is_some-each : (b : Bool) (g : Node BoxKey Item → Node BoxKey Item) (o : Option (Node BoxKey Item)) → is_some (cond b (option_map g o) o) ≡ is_some o
is_some-each true g None = refl
is_some-each true g (Some n) = refl
is_some-each false g o = refl

pub each_tree : (a b : Arena inner.Node) (root : BoxKey) (p : BoxKey → Bool) (g : Item → Item) → IsTree a root → Relinks a b (on_each p g (linked a))
    → (t : IsTree b root) × (seen b root ≡ map_where p g (seen a root))
each_tree a b root p g t r =
    let f : BoxForest = map_where p g t.boxes in
    let stands : Stands (linked b) None None f (Some root) (Some root) None =
    frame (on_each p g (linked a)) (linked b) None None f (Some root) (Some root) None (agree_at same_key same_key-sound same_key-refl (on_each p g
    (linked a)) (linked b) f (λ j _. r.links j))
    (stands_each p g (linked a) None None t.boxes (Some root) (Some root) None t.is.stands) in
    let inside : (k : BoxKey) → is_some (linked b k) ≡ true → has same_key k f ≡ true = λ k u. has-each p g same_key k t.boxes ∙ t.is.inside k (sym
    (ap is_some (r.links k) ∙ is_some-each (p k) (with_item g) (linked a k)) ∙ u) in
    let n : IsTree b root = record {
      boxes = f;
      is = record {
        stands = stands;
        apart = apart_each p g same_key t.boxes t.is.apart;
        inside = inside;
        counted = omega (
          arith,
          size-each p g t.boxes,
          t.is.counted,
          r.same_live,
        );
      };
      most = omega (arith, t.most, same_occupied a b r.same_slots, r.limit);
    } in
    (n, seen_is b root n ∙ ap (map_where p g) (sym (seen_is a root t)))

-- what is under a key once items changed
item-each : (p : BoxKey → Bool) (g : Item → Item) (a b : Arena inner.Node) → Relinks a b (on_each p g (linked a)) → (k : BoxKey) → item_at b k ≡ cond (p k)
    (option_map g (item_at a k)) (item_at a k)
item-each p g a b r k = ap (option_map (λ n. n.item)) (r.links k) ∙ kept (p k) (linked a k) where
  kept : (c : Bool) (o : Option (Node BoxKey Item)) → option_map (λ n. n.item) (cond c (option_map (with_item g) o) o) ≡ cond c (option_map g (option_map
      (λ n. n.item) o)) (option_map (λ n. n.item) o)
  kept true None = refl
  kept true (Some n) = refl
  kept false o = refl

same_there : {A : Type 0} (a b : A) → Some a ≡ Some b → b ≡ a
same_there a b h = cc (h)

nothing_there : {A : Type 0} (a : A) → None ≡ Some a → ⊥
nothing_there a h = cc (h)

module _ (p : BoxKey → Bool) (g : Item → Item) (at bt : BoxKey → Option Item) (more : (k : BoxKey) → bt k ≡ cond (p k) (option_map g (at k)) (at k)) where
  old_item : (c : Bool) (o : Option Item) (d : Item) → cond c (option_map g o) o ≡ Some d → (e : Item) × (o ≡ Some e) × (d ≡ cond c (g e) e)
  old_item true None d h = absurd (nothing_there d h)
  old_item true (Some e) d h = (e, refl, same_there (g e) d h)
  old_item false None d h = absurd (nothing_there d h)
  old_item false (Some e) d h = (e, refl, same_there e d h)

  ids_kept : ((d : Item) → (g d).id ≡ d.id) → (c : Bool) (e : Item) → (cond c (g e) e).id ≡ e.id
  ids_kept same_id true e = same_id e
  ids_kept same_id false e = refl

  ids_at : ((d : Item) → (g d).id ≡ d.id) → (c : Bool) (o : Option Item) → option_map (λ d. d.id) (cond c (option_map g o) o) ≡ option_map (λ d. d.id) o
  ids_at same_id true None = refl
  ids_at same_id true (Some e) = ap Some (same_id e)
  ids_at same_id false o = refl

  indexed_each : {Y S : Type 0} (ids : HashMap (String Y) BoxKey S) → ((d : Item) → (g d).id ≡ d.id) → IsIndexed at ids → IsIndexed bt ids
  indexed_each ids same_id x = record {
    named = λ k d h.
        let o : (e : Item) × (at k ≡ Some e) × (d ≡ cond (p k) (g e) e) = old_item (p k) (at k) d (sym (more k) ∙ h) in
        let i : d.id ≡ o.0.id = ap (λ d. d.id) o.2 ∙ ids_kept same_id (p k) o.0 in
        ap (get_by_text ids) i ∙ x.named k o.0 o.1;
    live = λ i k h. ap (option_map (λ d. d.id)) (more k) ∙ (ids_at same_id (p k) (at k) ∙ x.live i k h);
    are = λ k d h.
        let o : (e : Item) × (at k ≡ Some e) × (d ≡ cond (p k) (g e) e) = old_item (p k) (at k) d (sym (more k) ∙ h) in
        let i : d.id ≡ o.0.id = ap (λ d. d.id) o.2 ∙ ids_kept same_id (p k) o.0 in
        ap is_id i ∙ x.are k o.0 o.1;
  }

  fits_each : ((k : BoxKey) (d : Item) → at k ≡ Some d → p k ≡ true → IsNear (g d).rect × Fits (g d).style) → EachFits at → EachFits bt
  fits_each fit x k d h =
      let o : (e : Item) × (at k ≡ Some e) × (d ≡ cond (p k) (g e) e) = old_item (p k) (at k) d (sym (more k) ∙ h) in
      subst (λ x. IsNear x.rect × Fits x.style) (sym o.2) (fits_at (p k) o.0 refl o.1) where
        fits_at : (c : Bool) (e : Item) → p k ≡ c → at k ≡ Some e → IsNear (cond c (g e) e).rect × Fits (cond c (g e) e).style
        fits_at true e u h = fit k e h u
        fits_at false e u h = x k e h

-- Changes of items that keep ids and limits keep all that a tree keeps.
pub each_sound : {Y S : Type 0} (a b : Arena inner.Node) (root : BoxKey) (ids : HashMap (String Y) BoxKey S) (p : BoxKey → Bool) (g : Item → Item) →
    IsConsistent a root ids → Relinks a b (on_each p g (linked a)) → ((d : Item) → (g d).id ≡ d.id) → ((k : BoxKey) (d : Item) → item_at a k ≡ Some d → p k
    ≡ true → IsNear (g d).rect × Fits (g d).style) → IsConsistent b root ids
each_sound a b root ids p g s r same_id fit = record {
  tree = (each_tree a b root p g s.tree r).0;
  indexed = indexed_each p g (item_at a) (item_at b) (item-each p g a b r) ids same_id s.indexed;
  fits = fits_each p g (item_at a) (item_at b) (item-each p g a b r) fit s.fits;
  limit = r.limit ∙ s.limit;
  first = r.first ∙ s.first;
}

-- all boxes of a tree are told from its root on
pub read_root : (a : Arena inner.Node) (root : BoxKey) → IsTree a root → IsRead a (Some root)
read_root a root t = record {
  boxes = t.boxes;
  up = None;
  prev = None;
  last = Some root;
  stands = t.is.stands;
  apart = t.is.apart;
  small = omega
      (arith, t.is.counted, live_occupied a, t.most);
}

pub all_items : {K D : Type 0} (P : D → Type 0) (f : Forest K D) → ((d : D) → P d) → AllItems P f
all_items P empty h = tt
all_items P (tree k d below rest) h = (h d, all_items P below h, all_items P rest h)

-- What is below a box, as the links tell it from its first child on.
pub record Under (a : Arena inner.Node) (root k : BoxKey) (first : Option BoxKey) : Type 0 where
  pub read : IsRead a first
  pub told : seen_from a first ≡ children same_key k (seen a root)
  pub out : has same_key k (seen_from a first) ≡ false

pub under_box : (a : Arena inner.Node) (root k : BoxKey) → IsTree a root → has same_key k (seen a root) ≡ true → Under a root k (child_and_sibling
    (linked a k)).0
under_box a root k t m =
    let e : seen a root ≡ t.boxes = seen_is a root t in
    let c : BoxForest = children same_key k t.boxes in
    let s : (y : Node BoxKey Item) × (linked a k ≡ Some y) × Stands (linked a) (Some k) None c y.first y.last None × IsApart same_key c × (has same_key k c
    ≡ false) =
    stands_children same_key same_key-sound same_key-refl (linked a) None None t.boxes (Some root) (Some root) None k t.is.apart t.is.stands (subst
    (λ f. has same_key k f ≡ true) e m) in
    let r : IsRead a s.0.first = record {
      boxes = c;
      up = Some k;
      prev = None;
      last = s.0.last;
      stands = s.2;
      apart = s.3;
      small = omega
          (arith, size-children same_key k t.boxes, t.is.counted, live_occupied a, t.most);
    } in
    let told : seen_from a s.0.first ≡ c = seen_read a s.0.first r in
    subst (λ o. Under a root k o) (sym (ap (λ o. (child_and_sibling o).0) s.1)) (record {
      read = r;
      told = told ∙ ap (children same_key k) (sym e);
      out =
          ap (has same_key k) told ∙ s.4;
    })
