-- What links tell of the forest, and what a look at a box tells of the next ones.
use Rattle.std.proofs.Common.{◌≡◌, refl, ap, ◌∙◌, sym, subst, Bool, true, false, ◌||◌, inl, inr}
use Rattle.std.specs.Prelude.{Option, Some, None, option_map}
use Rattle.rd_keys.specs.Keys.{same_key}
use Rattle.rd_keys.specs.Arena.{Arena, value}
use Rattle.rd_keys.proofs.Keys.{same_key-sound, same_key-refl}
use Rattle.rd_tree.specs.declared.node.Node as inner
use Rattle.rd_tree.specs.Forest.{Forest, empty, tree, has, head, starting_at, from_some, IsApart}
use Rattle.rd_tree.specs.Internal.Links.{Node, node, Stands}
use Rattle.rd_tree.specs.Document.{BoxKey, Item, BoxForest}
use Rattle.rd_tree.specs.Drawn.{AllNear}
use Rattle.rd_tree.specs.Internal.Linked.{plain, linked, IsTree, seen, shown_of}
use Rattle.rd_tree.specs.Shown.{Shown, shown}
use Rattle.rd_tree.proofs.Linking.Standing.{cases, refute, never, either, from_left, from_right, differs, apart_back}
use Rattle.rd_geom.specs.Plane.{hull_of}
use Rattle.rd_tree.specs.declared.table.row.Summary.{Summary}
use Rattle.rd_tree.specs.Hulls.{breadth, extent, hull_in, touched_in}
use Rattle.rd_tree.specs.Contexts.{blends_in}
use Rattle.rd_tree.specs.Internal.Summaries.{summary_first, summary_of}
use Rattle.rd_tree.specs.Internal.Blending.{blends_first}
use Rattle.rd_tree.proofs.Nodes.Grow.{seen_is, live_if_in}

module _ {K D : Type 0} where
  heads : (at : K → Option (Node K D)) (up prev : Option K) (f : Forest K D) (first last : Option K) → Stands at up prev f first last None → first ≡ head f
  heads at up prev empty first last s = s.0
  heads at up prev (tree k d below rest) first last s = s.3

  -- the forest begins with j, whose node is x
  pub record Begins (j : K) (x : Node K D) (f : Forest K D) : Type 0 where
    pub below : Forest K D
    pub rest : Forest K D
    pub is : f ≡ tree j x.item below rest
    pub first : x.first ≡ head below
    pub next : x.next ≡ head rest

  module _ (same : K → K → Bool) (sound : (a b : K) → same a b ≡ true → a ≡ b) (reflexive : (a : K) → same a a ≡ true) where
    pub begins : (at : K → Option (Node K D)) (up prev : Option K) (f : Forest K D) (first last : Option K) (j : K) (x : Node K D) →
        IsApart same f → Stands at up prev f first last None → has same j f ≡ true → at j ≡ Some x → Begins j x (starting_at same j f)
    begins at up prev empty first last j x a s m found = absurd (never false m refl)
    begins at up prev (tree k d below rest) first last j x a s m found =
        elim (cases (same j k)) [
          | inl e ↦
              let is : j ≡ k = sound j k e in
              let n : x ≡ node d up prev s.0 s.1 s.2 = cc (found, s.4, ap at is) in
              record {
                below = below;
                rest = rest;
                is = rw e (subst (λ i. tree k d below rest ≡ tree i x.item below rest) (sym is) (ap (λ y. tree k y.item below rest) (sym n)));
                first = ap (λ y. y.first) n ∙ heads at (Some k) None below s.0 s.1 s.5;
                next = ap (λ y. y.next) n ∙ heads at up (Some k) rest s.2 last s.6;
              }
          | inr e ↦ elim (cases (has same j below)) [
            | inl i ↦ rw (e, i) (begins at (Some k) None below s.0 s.1 j x a.3 s.5 i found)
            | inr o ↦ rw (e, o) (begins at up (Some k) rest s.2 last j x a.4 s.6 (rw (e, o) at m) found)
          ]
        ]

    pub nothing_from : (j : K) (f : Forest K D) → has same j f ≡ false → starting_at same j f ≡ empty
    nothing_from j empty h = refl
    nothing_from j (tree k d below rest) h =
        let s : (same j k ≡ false) × ((has same j below || has same j rest) ≡ false) = either (same j k) (has same j below || has same j rest) h in
        let t : (has same j below ≡ false) × (has same j rest ≡ false) = either (has same j below) (has same j rest) s.1 in
        rw (s.0, t.0) (nothing_from j rest t.1)

    out_of_from : (j i : K) (f : Forest K D) → has same j f ≡ false → has same j (starting_at same i f) ≡ false
    out_of_from j i empty h = refl
    out_of_from j i (tree k d below rest) h =
        let s : (same j k ≡ false) × ((has same j below || has same j rest) ≡ false) = either (same j k) (has same j below || has same j rest) h in
        let t : (has same j below ≡ false) × (has same j rest ≡ false) = either (has same j below) (has same j rest) s.1 in
        elim (cases (same i k)) [
          | inl e ↦ rw e h
          | inr e ↦ elim (cases (has same i below)) [ inl u ↦ rw (e, u) (out_of_from j i below t.0) | inr u ↦ rw (e, u) (out_of_from j i rest t.1) ]
        ]

    in_from : (j i : K) (f : Forest K D) → has same j (starting_at same i f) ≡ true → has same j f ≡ true
    in_from j i f h = elim (cases (has same j f)) [ inl e ↦ e | inr e ↦ absurd (never (has same j (starting_at same i f)) h (out_of_from j i f e)) ]

    apart_from : (i : K) (f : Forest K D) → IsApart same f → IsApart same (starting_at same i f)
    apart_from i empty a = tt
    apart_from i (tree k d below rest) a =
        elim (cases (same i k)) [
          | inl e ↦ rw e a
          | inr e ↦ elim (cases (has same i below)) [ inl u ↦ rw (e, u) (apart_from i below a.3) | inr u ↦ rw (e, u) (apart_from i rest a.4) ]
        ]

    from_within : (k i : K) (f : Forest K D) → IsApart same f → has same k (starting_at same i f) ≡ true → starting_at same k f ≡ starting_at same k
        (starting_at same i f)
    from_within k i empty a h = refl
    from_within k i (tree j d below rest) a h =
        elim (cases (same i j)) [
          | inl e ↦ rw e refl
          | inr e ↦ elim (cases (has same i below)) [
            | inl u ↦
                let h2 : has same k (starting_at same i below) ≡ true = rw (e, u) at h in
                let kb : has same k below ≡ true = in_from k i below h2 in
                let kj : same k j ≡ false = differs same sound reflexive below k j kb a.0 in
                rw (kj, kb, e, u) (from_within k i below a.3 h2)
            | inr u ↦
                let h2 : has same k (starting_at same i rest) ≡ true = rw (e, u) at h in
                let kr : has same k rest ≡ true = in_from k i rest h2 in
                let kj : same k j ≡ false = differs same sound reflexive rest k j kr a.1 in
                let kb : has same k below ≡ false = apart_back same sound reflexive below rest a.2 k kr in
                rw (kj, kb, e, u) (from_within k i rest a.4 h2)
          ]
        ]

    from_first : (f : Forest K D) → from_some same (head f) f ≡ f
    from_first empty = refl
    from_first (tree k d below rest) = rw (reflexive k) refl

    head_in : (f : Forest K D) (k : K) → head f ≡ Some k → has same k f ≡ true
    head_in empty k h = cc
    head_in (tree j d below rest) k h =
        let e : j ≡ k = cc in
        subst (λ i. has same i (tree j d below rest) ≡ true) e (from_left (same j j) (has same j below || has same j rest) (reflexive j))

    step_in : (f g h : Forest K D) (o : Option K) (i : K) → IsApart same f → starting_at same i f ≡ g → ((k : K) → o ≡ Some k → (has same k g ≡ true)
        × (starting_at same k g ≡ h)) → (o ≡ None → h ≡ empty) → from_some same o f ≡ h
    step_in f g h None i a e some none = sym (none refl)
    step_in f g h (Some k) i a e some none =
        let s : (has same k g ≡ true) × (starting_at same k g ≡ h) = some k refl in
        from_within k i f a (subst (λ x. has same k x ≡ true) (sym e) s.0) ∙ (ap (starting_at same k) e ∙ s.1)

    head_none : (f : Forest K D) → head f ≡ None → f ≡ empty
    head_none empty h = refl
    head_none (tree k d below rest) h = cc

    -- from a box's first child on
    pub from_child : (f below rest : Forest K D) (i j : K) (d : D) → IsApart same f → starting_at same i f ≡ tree j d below rest → from_some same
        (head below) f ≡ below
    from_child f below rest i j d a e =
        let b : IsApart same (tree j d below rest) = subst (λ x. IsApart same x) e (apart_from i f a) in
        step_in f (tree j d below rest) below (head below) i a e
        (λ k h.
        let kb : has same k below ≡ true = head_in below k h in
        let kj : same k j ≡ false = differs same sound reflexive below k j kb b.0 in (
          from_right (same k j) (has same k below || has same k rest) (from_left (has same k below) (has same k rest) kb),
          rw (kj, kb) (subst
              (λ o. from_some same o below ≡ below) h (from_first below)),
        ))
        (head_none below)

    -- from its next sibling on
    pub from_next : (f below rest : Forest K D) (i j : K) (d : D) → IsApart same f → starting_at same i f ≡ tree j d below rest → from_some same
        (head rest) f ≡ rest
    from_next f below rest i j d a e =
        let b : IsApart same (tree j d below rest) = subst (λ x. IsApart same x) e (apart_from i f a) in
        step_in f (tree j d below rest) rest (head rest) i a e
        (λ k h.
        let kr : has same k rest ≡ true = head_in rest k h in
        let kj : same k j ≡ false = differs same sound reflexive rest k j kr b.1 in
        let kb : has same k below ≡ false = apart_back same sound reflexive below rest b.2 k kr in (
          from_right (same k j) (has same k below || has same k rest) (from_right (has same k below) (has same k rest) kr),
          rw (kj, kb) (subst
              (λ o. from_some same o rest ≡ rest) h (from_first rest)),
        ))
        (head_none rest)

shown_begins : (root k : BoxKey) (x : inner.Node) (row : Summary) (blend : Bool) (f : BoxForest) → Begins k (plain x) f → row ≡ summary_first f → blend
    ≡ blends_first f → Some (shown_of k (same_key k root) x row blend) ≡ shown root f
shown_begins root k x row blend f b table layers =
    let r : row ≡ summary_first (tree k x.item b.below b.rest) = table ∙ ap summary_first b.is in
    let l : blend ≡ blends_in b.below = layers ∙ ap blends_first b.is in
    let v : Option BoxKey → Option BoxKey → Summary → Bool → Option Shown = λ o n y q.
    Some (record {
      key = k;
      at = x.item.rect;
      scroll = x.item.scroll;
      style = x.item.style;
      is_root = same_key k root;
      children = y.children;
      first_child = o;
      next_sibling = n;
      hull = y.hull;
      touched = x.item.touched;
      touched_below = y.touched;
      blend_below = q;
    }) in
    let e1 : v x.links.first x.links.next row blend ≡ v (head b.below) x.links.next row blend = ap (λ o. v o x.links.next row blend) b.first in
    let e2 : v (head b.below) x.links.next row blend ≡ v (head b.below) (head b.rest) row blend = ap (λ o. v (head b.below) o row blend) b.next in
    let e3 : v (head b.below) (head b.rest) row blend ≡ v (head b.below) (head b.rest) row (blends_in b.below) = ap (v (head b.below) (head b.rest) row) l
    in
    let e4 : v (head b.below) (head b.rest) row (blends_in b.below) ≡ shown root (tree k x.item b.below b.rest) = ap (λ y. v (head b.below) (head b.rest) y
    (blends_in b.below)) r in
    e1 ∙ (e2 ∙ (e3 ∙ (e4 ∙ ap (shown root) (sym b.is))))

pub apart_seen : (a : Arena inner.Node) (root : BoxKey) → IsTree a root → IsApart same_key (seen a root)
apart_seen a root t = subst (λ f. IsApart same_key f) (sym (seen_is a root t)) t.is.apart

pub looks : (a : Arena inner.Node) (root k : BoxKey) (row : Summary) (blend : Bool) → IsTree a root → (has same_key k (seen a root) ≡ true → row
    ≡ summary_of k (seen a root)) → (has same_key k (seen a root) ≡ true → blend ≡ blends_first (starting_at same_key k (seen a root))) →
    option_map (λ n. shown_of k (same_key k root) n row blend) (value a k.slot k.generation) ≡ shown root (starting_at same_key k (seen a root))
looks a root k row blend t table layers = looked (value a k.slot k.generation) refl where
  looked : (o : Option inner.Node) → value a k.slot k.generation ≡ o → option_map (λ n. shown_of k (same_key k root) n row blend) o ≡ shown root
      (starting_at same_key k (seen a root))
  looked None h =
      let out : has same_key k (seen a root) ≡ false = refute (has same_key k (seen a root)) (λ m. live_if_in a root k t m h) in
      rw (nothing_from same_key same_key-sound same_key-refl k (seen a root) out) refl
  looked (Some x) h =
      let l : linked a k ≡ Some (plain x) = ap (option_map plain) h in
      let m : has same_key k t.boxes ≡ true = t.is.inside k (rw l refl) in
      let e : seen a root ≡ t.boxes = seen_is a root t in
      let b : Begins k (plain x) (starting_at same_key k t.boxes) = begins same_key same_key-sound same_key-refl (linked a) None None t.boxes (Some root)
      (Some root) k (plain x) t.is.apart t.is.stands m l in
      let r : row ≡ summary_first (starting_at same_key k t.boxes) = table (subst (λ f. has same_key k f ≡ true) (sym e) m) ∙ ap (summary_of k) e in
      let l : blend ≡ blends_first (starting_at same_key k t.boxes) = layers (subst (λ f. has same_key k f ≡ true) (sym e) m) ∙ ap (λ f. blends_first
      (starting_at same_key k f)) e in
      shown_begins root k x row blend (starting_at same_key k t.boxes) b r l ∙ ap (λ f. shown root (starting_at same_key k f)) (sym e)

-- The boxes from one on are within the limits where all are.
pub fit_from : (k : BoxKey) (f : BoxForest) → AllNear f → AllNear (starting_at same_key k f)
fit_from k empty a = tt
fit_from k (tree j d below rest) a =
    elim (cases (same_key k j)) [
      | inl e ↦ rw e a
      | inr e ↦ elim (cases (has same_key k below)) [ inl u ↦ rw (e, u) (fit_from k below a.2) | inr u ↦ rw (e, u) (fit_from k rest a.3) ]
    ]

-- What a look at k tells of the next looks.
pub record Onward (root : BoxKey) (f : BoxForest) (k : BoxKey) (v : Shown) : Type 0 where
  pub item : Item
  pub below : BoxForest
  pub rest : BoxForest
  pub is : starting_at same_key k f ≡ tree k item below rest
  pub key : v.key ≡ k
  pub at : v.at ≡ item.rect
  pub style : v.style ≡ item.style
  pub touched : v.touched ≡ item.touched
  pub blends : v.blend_below ≡ blends_in below
  pub top : v.is_root ≡ same_key k root
  pub child : from_some same_key v.first_child f ≡ below
  pub next : from_some same_key v.next_sibling f ≡ rest

-- The boxes from k on begin with k.
pub from_begins : (f : BoxForest) (k j : BoxKey) (d : Item) (below rest : BoxForest) → starting_at same_key k f ≡ tree j d below rest → k ≡ j
from_begins empty k j d below rest e = cc
from_begins (tree i c b r) k j d below rest e =
    elim (cases (same_key k i)) [
      | inl h ↦
          let same : tree i c b r ≡ tree j d below rest = rw h at e in
          let n : i ≡ j = cc (same) in
          same_key-sound k i h ∙ n
      | inr h ↦ elim (cases (has same_key k b)) [
        | inl u ↦ from_begins b k j d below rest (rw (h, u) at e)
        | inr u ↦ from_begins r k j d below rest (rw (h, u) at e)
      ]
    ]

pub onward : (root : BoxKey) (f : BoxForest) (k : BoxKey) (v : Shown) → IsApart same_key f → Some v ≡ shown root (starting_at same_key k f) → Onward root f k v
onward root f k v a h = at (starting_at same_key k f) refl h where
  at : (g : BoxForest) → starting_at same_key k f ≡ g → Some v ≡ shown root g → Onward root f k v
  at empty e h = cc (h)
  at (tree j d below rest) e h =
      let i : k ≡ j = from_begins f k j d below rest e in
      let w : Shown = record {
        key = j;
        at = d.rect;
        scroll = d.scroll;
        style = d.style;
        is_root = same_key j root;
        children = breadth below;
        first_child = head below;
        next_sibling = head rest;
        hull = hull_of (extent d) (hull_in below);
        touched = d.touched;
        touched_below = touched_in below;
        blend_below = blends_in below;
      } in
      let n : w ≡ v = cc in
      subst (λ u. Onward root f k u) n (record {
        item = d;
        below = below;
        rest = rest;
        is = subst (λ u. starting_at same_key k f ≡ tree u d below rest) (sym i) e;
        key = sym i;
        at = refl;
        style = refl;
        touched = refl;
        blends = refl;
        top = ap (λ u. same_key u root) (sym i);
        child = from_child same_key same_key-sound same_key-refl f below rest k j d a e;
        next = from_next same_key same_key-sound same_key-refl f below rest k j d a e;
      })
