-- What the edits in place do.
use Rattle.std.proofs.Common.{◌≡◌, refl, ap, ◌∙◌, sym, subst, ℤ, Bool, true, false, ◌||◌, cond, inl, inr}
use Rattle.std.specs.Prelude.{Option, Some, None, String, option_map, IfSome}
use Rattle.std.specs.Option.{option_map_or}
use Rattle.std.specs.HashMap.{HashMap}
use Rattle.rd_keys.specs.Keys.{same_key}
use Rattle.rd_keys.specs.Arena.{Arena}
use Rattle.rd_keys.proofs.Keys.{same_key-sound, same_key-refl}
use Rattle.rd_geom.specs.Plane.{Rectangle}
use Rattle.rd_style.specs.declared.styles.StyleChange.{StyleChange}
use Rattle.rd_style.specs.Changes.{changed}
use Rattle.rd_style.specs.Limits.{Fits}
use Rattle.rd_tree.specs.Limits.{IsNear}
use Rattle.rd_tree.specs.declared.node.Node as inner
use Rattle.rd_tree.specs.declared.reach.Reach.{Reach}
use Rattle.rd_tree.specs.declared.reach.Reach.TheVariants.{Nothing, Alone, Subtree}
use Rattle.rd_tree.specs.declared.links.walk.Work.TheVariants.{Shift}
use Rattle.rd_tree.specs.Forest.{empty, tree, has, children, top, starting_at, map_where, at_box, at_subtree, AllItems, IsApart}
use Rattle.rd_tree.specs.Internal.Links.{Node, with_item, Stands, edit, on_each, child_and_sibling}
use Rattle.rd_tree.specs.Document.{BoxKey, Item, BoxForest}
use Rattle.rd_tree.specs.Internal.Linked.{linked, Relinks, IsTree, seen, seen_from, item_at, IsConsistent}
use Rattle.rd_tree.specs.Touching.{touch, settled}
use Rattle.rd_tree.specs.Internal.Works.{move_by, Allows}
use Rattle.rd_tree.specs.Changes.{shifted}
use Rattle.rd_tree.specs.Internal.Works.{AllowsAt}
use Rattle.rd_tree.specs.Internal.Reaching.{reached}
use Rattle.rd_tree.specs.Internal.Reaching.{touch_reached}
use Rattle.rd_tree.specs.Changes.{restyle, with_rect, CanRestyle}
use Rattle.rd_tree.specs.Internal.Works.{ShiftNear}
use Rattle.rd_tree.proofs.Linking.Standing.{never}
use Rattle.rd_tree.proofs.Forests.Under.{which}
use Rattle.rd_tree.proofs.Linking.Children.{stands_children}
use Rattle.rd_tree.proofs.Nodes.Grow.{seen_is}
use Rattle.rd_tree.proofs.Nodes.Naming.{item_seen}
use Rattle.rd_tree.proofs.Nodes.Works.{flip}
use Rattle.rd_tree.proofs.Nodes.Each.{has-each, each_tree, each_sound, each_same, Under, under_box}

pub edit_each : (a b : Arena inner.Node) (k : BoxKey) (g : Item → Item) → Relinks a b (edit same_key k (with_item g) (linked a)) → Relinks a b (on_each
    (λ j. same_key j k) g (linked a))
edit_each a b k g r = record {
  links = λ j. r.links j ∙ ap (λ c. cond c (option_map (with_item g) (linked a j)) (linked a j)) (flip k j);
  same_slots = r.same_slots;
  same_live = r.same_live;
  limit = r.limit;
  first = r.first;
}

if_some : (o : Option Item) (P : Item → Type 0) (d : Item) → IfSome o P → o ≡ Some d → P d
if_some None P d h e = cc (e)
if_some (Some x) P d h e = let n : x ≡ d = cc (e) in subst P n h

-- what is known of the item of the box is known of the item at its key
of_item : (a : Arena inner.Node) (root k j : BoxKey) (P : Item → Type 0) (d : Item) → IsTree a root → IfSome (top (starting_at same_key k (seen a root))) P
    → same_key j k ≡ true → item_at a j ≡ Some d → P d
of_item a root k j P d t h e i =
    let n : j ≡ k = same_key-sound j k e in
    if_some (top (starting_at same_key k (seen a root))) P d h (sym (item_seen a root k t) ∙ subst (λ x. item_at a x ≡ Some d) n i)

pub styled : {Y S : Type 0} (a b : Arena inner.Node) (root k : BoxKey) (ids : HashMap (String Y) BoxKey S) (c : StyleChange) → IsConsistent a root ids
    → CanRestyle k c (seen a root) → Relinks a b (edit same_key k (with_item (restyle c)) (linked a)) →
    IsConsistent b root ids × (seen b root ≡ at_box same_key k (restyle c) (seen a root))
styled a b root k ids c s can r =
    let e : Relinks a b (on_each (λ j. same_key j k) (restyle c) (linked a)) = edit_each a b k (restyle c) r in (
      each_sound a b root ids (λ j. same_key j k) (restyle c) s e (λ d. refl) (λ j d i u. (
        (s.fits j d i).0,
        of_item a root k j (λ d. Fits (changed d.style
            c)) d s.tree can u i,
      )),
      (each_tree a b root (λ j. same_key j k) (restyle c) s.tree e).1,
    )

pub put : {Y S : Type 0} (a b : Arena inner.Node) (root k : BoxKey) (ids : HashMap (String Y) BoxKey S) (q : Rectangle) → IsConsistent a root ids
    → IsNear q → Relinks a b (edit same_key k (with_item (with_rect q)) (linked a)) →
    IsConsistent b root ids × (seen b root ≡ at_box same_key k (with_rect q) (seen a root))
put a b root k ids q s fit r =
    let e : Relinks a b (on_each (λ j. same_key j k) (with_rect q) (linked a)) = edit_each a b k (with_rect q) r in (
      each_sound a b root ids (λ j. same_key j k) (with_rect q) s e (λ d. refl) (λ j d i u. (fit, (s.fits j d i).1)),
      (each_tree a b root (λ j. same_key j k) (with_rect q) s.tree e).1,
    )

each_none : (g : Item → Item) (f : BoxForest) → map_where (λ j. false) g f ≡ f
each_none g empty = refl
each_none g (tree k d below rest) = rw (each_none g below, each_none g rest) refl

pub touched_sound : {Y S : Type 0} (a b : Arena inner.Node) (root k : BoxKey) (ids : HashMap (String Y) BoxKey S) (reach : Reach) → IsConsistent a root ids
    → has same_key k (seen a root) ≡ true →
    Relinks a b (on_each (reached reach k (seen_from a (child_and_sibling (linked a k)).0)) touch (linked a)) → IsConsistent b root ids × (seen b root
    ≡ touch_reached reach k (seen a root))
touched_sound a b root k ids reach s m r =
    let u : Under a root k (child_and_sibling (linked a k)).0 = under_box a root k s.tree m in
    let p : BoxKey → Bool = reached reach k (seen_from a (child_and_sibling (linked a k)).0) in (
      each_sound a b root ids p touch s r (λ d. refl) (λ j d i v. s.fits j d i),
      (each_tree a b root p touch s.tree r).1 ∙ by reach (seen_from a (child_and_sibling (linked a k)).0) u.told,
    ) where
      by : (reach : Reach) (f : BoxForest) → f ≡ children same_key k (seen a root) → map_where (reached reach k f) touch (seen a root)
          ≡ touch_reached reach k (seen a root)
      by Nothing f e = each_none touch (seen a root)
      by Alone f e = refl
      by Subtree f e = ap (λ c. map_where (λ j. same_key j k || has same_key j c) touch (seen a root)) e

-- each of the boxes that stand is such a one
items_in : (P : Item → Type 0) (at : BoxKey → Option (Node BoxKey Item)) (up prev : Option BoxKey) (f : BoxForest) (first last after : Option BoxKey)
    (j : BoxKey) (d : Item) → Stands at up prev f first last after → AllItems P f → has same_key j f ≡ true → option_map (λ n. n.item) (at j) ≡ Some d → P d
items_in P at up prev empty first last after j d s all m i = absurd (never false m refl)
items_in P at up prev (tree k e below rest) first last after j d s all m i =
    elim (which (same_key j k) (has same_key j below || has same_key j rest) m) [
      | inl u ↦
          let n : j ≡ k = same_key-sound j k u in
          let o : Some e ≡ Some d = sym (ap (option_map (λ n. n.item)) (ap at n ∙ s.4)) ∙ i in
          let v : e ≡ d = cc (o) in
          subst P v all.0
      | inr u ↦
          elim (which (has same_key j below) (has same_key j rest) u) [
            | inl v ↦ items_in P at (Some k) None below s.0 s.1 None j d s.5 all.1 v i
            | inr v ↦ items_in P at up (Some k) rest s.2 last after j d s.6 all.2 v i
          ]
    ]

pub shift_sound : {Y S : Type 0} (a b : Arena inner.Node) (root k : BoxKey) (ids : HashMap (String Y) BoxKey S) (dx dy : ℤ) → IsConsistent a root ids
    → has same_key k (seen a root) ≡ true → ShiftNear dx dy k (seen a root) →
    Relinks a b (on_each (λ j. same_key j k || has same_key j (seen_from a (child_and_sibling (linked a k)).0)) (move_by dx dy) (linked a))
    → IsConsistent b root ids × (seen b root ≡ at_subtree same_key k (move_by dx dy) (seen a root))
shift_sound a b root k ids dx dy s m can r =
    let u : Under a root k (child_and_sibling (linked a k)).0 = under_box a root k s.tree m in
    let p : BoxKey → Bool = λ j. same_key j k || has same_key j (seen_from a (child_and_sibling (linked a k)).0) in
    let e : seen a root ≡ s.tree.boxes = seen_is a root s.tree in
    let c : (y : Node BoxKey Item) × (linked a k ≡ Some y) × Stands (linked a) (Some k) None (children same_key k s.tree.boxes) y.first y.last None
    × IsApart same_key (children same_key k s.tree.boxes) × (has same_key k (children same_key k s.tree.boxes) ≡ false) =
    stands_children same_key same_key-sound same_key-refl (linked a) None None s.tree.boxes (Some root) (Some root) None k s.tree.is.apart s.tree.is.stands
    (subst (λ f. has same_key k f ≡ true) e m) in
    let all : AllItems (λ d. IsNear (shifted dx dy d.rect)) (children same_key k s.tree.boxes) = subst (λ f. AllItems (λ d. IsNear (shifted dx dy
    d.rect)) (children same_key k f)) e can.1 in
    let below : (j : BoxKey) → has same_key j (seen_from a (child_and_sibling (linked a k)).0) ≡ true → has same_key j (children same_key k s.tree.boxes)
    ≡ true = λ j v. sym (ap (has same_key j) (u.told ∙ ap (children same_key k) e)) ∙ v in
    let fit : (j : BoxKey) (d : Item) → item_at a j ≡ Some d → p j ≡ true → IsNear (shifted dx dy d.rect) × Fits d.style = λ j d i v. (
      elim (which (same_key j k) (has same_key j (seen_from a (child_and_sibling (linked a k)).0)) v) [
        | inl w ↦ of_item a root k j (λ d. IsNear (shifted dx dy d.rect)) d s.tree can.0 w i
        | inr w ↦ items_in (λ d. IsNear (shifted dx dy d.rect)) (linked a) (Some k) None (children same_key k s.tree.boxes) c.0.first c.0.last None j d
            c.2 all (below j w) i
      ],
      (s.fits j d i).1,
    ) in (
      each_sound a b root ids p (move_by dx dy) s r (λ d. refl) fit,
      (each_tree a b root p (move_by dx dy) s.tree r).1 ∙ ap (λ f. map_where (λ j. same_key j k || has same_key j f) (move_by dx dy) (seen a root)) u.told,
    )

-- What is asked before a shift.
pub shift_allowed : (a : Arena inner.Node) (root k : BoxKey) (dx dy : ℤ) → IsTree a root → has same_key k (seen a root) ≡ true → ShiftNear dx dy k
    (seen a root) →
    AllowsAt (Shift dx dy) (linked a k) × AllItems (Allows (Shift dx dy)) (seen_from a (child_and_sibling (linked a k)).0)
shift_allowed a root k dx dy t m can =
    (here (linked a k) refl, subst (λ f. AllItems (Allows (Shift dx dy)) f) (sym (under_box a root k t m).told) can.1) where
      here : (o : Option (Node BoxKey Item)) → linked a k ≡ o → AllowsAt (Shift dx dy) o
      here None e = tt
      here (Some n) e = of_item a root k k (λ d. IsNear (shifted dx dy d.rect)) n.item t can.0 (same_key-refl k) (ap (option_map (λ n. n.item)) e)

pub settled_sound : {Y S : Type 0} (a b : Arena inner.Node) (root : BoxKey) (ids : HashMap (String Y) BoxKey S) → IsConsistent a root ids → Relinks a b
    (on_each (λ j. has same_key j (seen_from a (Some root))) settled (linked a)) →
    IsConsistent b root ids × (seen b root ≡ map_where (λ j. true) settled (seen a root))
settled_sound a b root ids s r =
    let p : BoxKey → Bool = λ j. has same_key j (seen_from a (Some root)) in (
      each_sound a b root ids p settled s r (λ d. refl) (λ j d i v. s.fits j d i),
      (each_tree a b root p settled s.tree r).1 ∙ each_same same_key same_key-refl p (λ j. true) settled (seen a root) (λ j u. u),
    )

-- A change in place and then the touching: what the tree keeps, and what is seen.
pub still_has : (p : BoxKey → Bool) (g : Item → Item) (k : BoxKey) (f h : BoxForest) → h ≡ map_where p g f → has same_key k f ≡ true → has same_key k h ≡ true
still_has p g k f h e m = ap (has same_key k) e ∙ (has-each p g same_key k f ∙ m)

-- how far the edit reaches, as the code knows it
pub reach_of : (a : Arena inner.Node) (root k : BoxKey) (r : Reach) (b : Bool) (h : Bool → Item → Reach) → IsTree a root → b ≡ same_key k root → r
    ≡ option_map_or (h b) (option_map (λ n. n.item) (linked a k)) Nothing →
    r ≡ option_map_or (h (same_key k root)) (top (starting_at same_key k (seen a root))) Nothing
reach_of a root k r b h t e is = is ∙ (ap (λ c. option_map_or (h c) (item_at a k) Nothing) e ∙ ap (λ o. option_map_or (h (same_key k root)) o Nothing)
    (item_seen a root k t))
