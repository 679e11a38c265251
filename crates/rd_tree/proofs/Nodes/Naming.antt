-- The index of ids and the forest say the same.
use Rattle.std.proofs.Common.{◌≡◌, refl, ap, ◌∙◌, sym, subst, ℕ, true, false, ◌||◌, List, ◌⊎◌, inl, inr}
use Rattle.std.specs.Prelude.{Option, Some, None, option_map, is_some}
use Rattle.std.specs.HashMap.{HashMap, get_by_text}
use Rattle.std.specs.Prelude.{String}
use Rattle.std.specs.Str.{bytes_eq}
use Rattle.std.proofs.lemmas.Slice.Eq.{bytes_eq-Decides}
use Rattle.rd_keys.specs.Keys.{same_key}
use Rattle.rd_keys.specs.Arena.{Arena, value}
use Rattle.rd_keys.proofs.Keys.{same_key-sound, same_key-refl}
use Rattle.rd_tree.specs.declared.node.Node as inner
use Rattle.rd_tree.specs.Forest.{empty, tree, has, starting_at, top, children, IsApart}
use Rattle.rd_tree.specs.Internal.Links.{Node, Stands}
use Rattle.rd_style.specs.Limits.{Fits}
use Rattle.rd_tree.specs.Limits.{IsNear}
use Rattle.rd_tree.specs.Document.{BoxKey, Item, BoxForest, or_else, named, HasIds, id_of}
use Rattle.rd_tree.specs.Ids.{is_id}
use Rattle.rd_tree.specs.Drawn.{AllNear}
use Rattle.rd_tree.specs.Internal.Linked.{linked, IsLinked, IsTree, seen, item_at, IsIndexed, EachFits, IsConsistent}
use Rattle.rd_tree.proofs.Linking.Standing.{cases, never, refute, from_left, from_right}
use Rattle.rd_tree.proofs.Linking.Children.{stands_children}
use Rattle.rd_tree.proofs.Forests.Under.{which}
use Rattle.rd_tree.proofs.Nodes.Looking.{Begins, begins, nothing_from}
use Rattle.rd_tree.proofs.Nodes.Grow.{seen_is}

-- equal lists of bytes
pub bytes_same : (a b : List ℕ) → bytes_eq a b ≡ true → a ≡ b
bytes_same a b h = (bytes_eq-Decides a b).0 h

pub bytes_refl : (a : List ℕ) → bytes_eq a a ≡ true
bytes_refl a = (bytes_eq-Decides a a).1 refl

or_some : (a b : Option BoxKey) (k : BoxKey) → or_else a b ≡ Some k → (a ≡ Some k) ⊎ (b ≡ Some k)
or_some None b k h = inr h
or_some (Some j) b k h = inl h

or_none : (a b : Option BoxKey) → or_else a b ≡ None → (a ≡ None) × (b ≡ None)
or_none None b h = (refl, h)
or_none (Some j) b h = cc

-- a box that is named is one of them
pub named_there : (i : List ℕ) (k : BoxKey) (f : BoxForest) → named i f ≡ Some k → has same_key k f ≡ true
named_there i k empty h = cc
named_there i k (tree j d below rest) h =
    elim (cases (bytes_eq d.id i)) [
      | inl e ↦
          let h2 : Some j ≡ Some k = rw e at h in
          let n : j ≡ k = cc (h2) in
          subst (λ x. has same_key x (tree j d below rest) ≡ true) n (from_left (same_key j j) (has same_key j below || has same_key j rest) (same_key-refl j))
      | inr e ↦ from_right (same_key k j) (has same_key k below || has same_key k rest)
          (elim (or_some (named i below) (named i rest) k (rw e at h)) [
            | inl u ↦ from_left (has same_key k below) (has same_key k rest) (named_there i k below u)
            | inr u ↦ from_right (has same_key k below) (has same_key k rest) (named_there i k rest u)
          ])
    ]

-- the id that links have under a key
abbrev pub id_at : (BoxKey → Option (Node BoxKey Item)) → BoxKey → Option (List ℕ)
id_at at k = option_map (λ d. d.id) (option_map (λ n. n.item) (at k))

pub named_some : (i : List ℕ) (at : BoxKey → Option (Node BoxKey Item)) (up prev : Option BoxKey) (f : BoxForest) (first last after : Option BoxKey)
    (k : BoxKey) → Stands at up prev f first last after → named i f ≡ Some k → id_at at k ≡ Some i
named_some i at up prev empty first last after k s h = cc
named_some i at up prev (tree j d below rest) first last after k s h =
    elim (cases (bytes_eq d.id i)) [
      | inl e ↦
          let h2 : Some j ≡ Some k = rw e at h in
          let n : j ≡ k = cc (h2) in
          let m : id_at at j ≡ Some i = rw s.4 (ap Some (bytes_same d.id i e)) in
          subst (λ x. id_at at x ≡ Some i) n m
      | inr e ↦
          elim (or_some (named i below) (named i rest) k (rw e at h)) [
            | inl u ↦ named_some i at (Some j) None below s.0 s.1 None k s.5 u
            | inr u ↦ named_some i at up (Some j) rest s.2 last after k s.6 u
          ]
    ]

pub named_none : (i : List ℕ) (at : BoxKey → Option (Node BoxKey Item)) (up prev : Option BoxKey) (f : BoxForest) (first last after : Option BoxKey)
    (k : BoxKey) → Stands at up prev f first last after → named i f ≡ None → has same_key k f ≡ true → id_at at k ≡ Some i → ⊥
named_none i at up prev empty first last after k s h m found = never false m refl
named_none i at up prev (tree j d below rest) first last after k s h m found =
    elim (cases (bytes_eq d.id i)) [
      | inl e ↦ let h2 : Some j ≡ None = rw e at h in cc (h2)
      | inr e ↦
          let o : (named i below ≡ None) × (named i rest ≡ None) = or_none (named i below) (named i rest) (rw e at h) in
          elim (cases (same_key k j)) [
            | inl u ↦
                let n : k ≡ j = same_key-sound k j u in
                let f2 : id_at at j ≡ Some i = subst (λ x. id_at at x ≡ Some i) n found in
                let f3 : Some d.id ≡ Some i = rw s.4 at f2 in
                let f4 : d.id ≡ i = cc (f3) in
                never (bytes_eq d.id i) ((bytes_eq-Decides d.id i).1 f4) e
            | inr u ↦
                elim (which (has same_key k below) (has same_key k rest) (rw u at m)) [
                  | inl v ↦ named_none i at (Some j) None below s.0 s.1 None k s.5 o.0 v found
                  | inr v ↦ named_none i at up (Some j) rest s.2 last after k s.6 o.1 v found
                ]
          ]
    ]

-- A key with an id is live.
id_live : (at : BoxKey → Option (Node BoxKey Item)) (k : BoxKey) (i : List ℕ) → id_at at k ≡ Some i → is_some (at k) ≡ true
id_live at k i h = live (at k) h where
  live : (o : Option (Node BoxKey Item)) → option_map (λ d. d.id) (option_map (λ n. n.item) o) ≡ Some i → is_some o ≡ true
  live None h = cc
  live (Some n) h = refl

pub item_with_id : (o : Option Item) (i : List ℕ) → option_map (λ d. d.id) o ≡ Some i → (d : Item) × (o ≡ Some d) × (d.id ≡ i)
item_with_id None i h = cc
item_with_id (Some d) i h = (d, refl, cc)

pub named_is : {Y S : Type 0} (a : Arena inner.Node) (root : BoxKey) (f : BoxForest) (ids : HashMap (String Y) BoxKey S) (i : List ℕ) → IsLinked a root f
    → IsIndexed (item_at a) ids → named i f ≡ get_by_text ids i
named_is a root f ids i l x = at (named i f) (get_by_text ids i) refl refl where
  at : (o q : Option BoxKey) → named i f ≡ o → get_by_text ids i ≡ q → o ≡ q
  at (Some k) q h g =
      let t : (d : Item) × (item_at a k ≡ Some d) × (d.id ≡ i) = item_with_id (item_at a k) i (named_some i (linked a) None None f (Some root) (Some root)
      None k l.stands h) in
      let u : get_by_text ids t.0.id ≡ Some k = x.named k t.0 t.1 in
      sym (subst (λ j. get_by_text ids j ≡ Some k) t.2 u) ∙ g
  at None (Some k) h g =
      let u : id_at (linked a) k ≡ Some i = x.live i k g in
      absurd (named_none i (linked a) None None f (Some root) (Some root) None k l.stands h (l.inside k (id_live (linked a) k i u)) u)
  at None None h g = refl

-- the item under a key
pub item_is : (a : Arena inner.Node) (root : BoxKey) (f : BoxForest) (k : BoxKey) → IsLinked a root f → top (starting_at same_key k f) ≡ item_at a k
item_is a root f k l = at (linked a k) refl where
  at : (o : Option (Node BoxKey Item)) → linked a k ≡ o → top (starting_at same_key k f) ≡ option_map (λ n. n.item) o
  at None h =
      let out : has same_key k f ≡ false = refute (has same_key k f) (λ i.
      let u : (y : Node BoxKey Item) × (linked a k ≡ Some y) × Stands (linked a) (Some k) None (children same_key k f) y.first y.last None
      × IsApart same_key (children same_key k f) × (has same_key k (children same_key k f) ≡ false) =
      stands_children same_key same_key-sound same_key-refl (linked a) None None f (Some root) (Some root) None k l.apart l.stands i in
      cc (u.1, h)) in
      rw (nothing_from same_key same_key-sound same_key-refl k f out) refl
  at (Some x) h =
      let b : Begins k x (starting_at same_key k f) = begins same_key same_key-sound same_key-refl (linked a) None None f (Some root) (Some root) k x
      l.apart l.stands (l.inside k (rw h refl)) h in
      rw b.is refl

all_fit : (at : BoxKey → Option (Node BoxKey Item)) (up prev : Option BoxKey) (f : BoxForest) (first last after : Option BoxKey)
    → Stands at up prev f first last after → EachFits (λ k. option_map (λ n. n.item) (at k)) → AllNear f
all_fit at up prev empty first last after s h = tt
all_fit at up prev (tree k d below rest) first last after s h =
    let t : IsNear d.rect × Fits d.style = h k d (rw s.4 refl) in
    (t.0, t.1, all_fit at (Some k) None below s.0 s.1 None s.5 h, all_fit at up (Some k) rest s.2 last after s.6 h)

-- What the fields of a tree say of the boxes that are seen.
pub named_seen : {Y S : Type 0} (a : Arena inner.Node) (root : BoxKey) (ids : HashMap (String Y) BoxKey S) (i : List ℕ) → IsConsistent a root ids
    → get_by_text ids i ≡ named i (seen a root)
named_seen a root ids i s = sym (ap (named i) (seen_is a root s.tree) ∙ named_is a root s.tree.boxes ids i s.tree.is s.indexed)

pub item_seen : (a : Arena inner.Node) (root k : BoxKey) → IsTree a root → item_at a k ≡ top (starting_at same_key k (seen a root))
item_seen a root k t = sym (ap (λ f. top (starting_at same_key k f)) (seen_is a root t) ∙ item_is a root t.boxes k t.is)

pub fits_seen : {Y S : Type 0} (a : Arena inner.Node) (root : BoxKey) (ids : HashMap (String Y) BoxKey S) → IsConsistent a root ids → AllNear (seen a root)
fits_seen a root ids s = subst AllNear (sym (seen_is a root s.tree)) (all_fit (linked a) None None s.tree.boxes (Some root) (Some root) None
    s.tree.is.stands s.fits)

-- The ids of a tree are ids, and differ.
pub ids_seen : {Y S : Type 0} (a : Arena inner.Node) (root : BoxKey) (ids : HashMap (String Y) BoxKey S) → IsConsistent a root ids → HasIds (seen a root)
ids_seen a root ids s = record {
  are = λ k i h. let t = has k i h in subst (λ w. is_id w ≡ true) t.2 (s.indexed.are k t.0 t.1);
  differ = λ j k i h g. let t : get_by_text ids i ≡ Some j = under j i h in let u : get_by_text ids i ≡ Some k = under k i g in cc (t, u);
} where
  has : (k : BoxKey) (i : List ℕ) → id_of k (seen a root) ≡ Some i → (d : Item) × (item_at a k ≡ Some d) × (d.id ≡ i)
  has k i h = item_with_id (item_at a k) i (ap (option_map (λ d. d.id)) (item_seen a root k s.tree) ∙ h)

  under : (k : BoxKey) (i : List ℕ) → id_of k (seen a root) ≡ Some i → get_by_text ids i ≡ Some k
  under k i h = let t = has k i h in subst (λ w. get_by_text ids w ≡ Some k) t.2 (s.indexed.named k t.0 t.1)

-- What a node tells of its item.
pub value_item : (a : Arena inner.Node) (root k : BoxKey) → IsTree a root → option_map (λ n. n.item) (value a k.slot k.generation)
    ≡ top (starting_at same_key k (seen a root))
value_item a root k t = at (value a k.slot k.generation) refl ∙ item_seen a root k t where
  at : (o : Option inner.Node) → value a k.slot k.generation ≡ o → option_map (λ n. n.item) o ≡ item_at a k
  at None e = rw e refl
  at (Some n) e = rw e refl
