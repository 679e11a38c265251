-- What a look at a box tells, with where the box is laid out.
use Rattle.std.proofs.Common.{◌≡◌, refl, ap, ◌∙◌, sym, subst, ℤ, pos, Bool, true, List, inl, inr, arith}
use Rattle.std.proofs.lemmas.Int.{ints}
use Rattle.std.specs.Prelude.{◌+ℤ◌, ◌-ℤ◌, Option, Some, None, IfSome, option_map}
use Rattle.rd_geom.specs.Plane.{Rectangle, IsPlaced}
use Rattle.rd_keys.specs.Keys.{same_key}
use Rattle.rd_keys.proofs.Keys.{same_key-sound, same_key-refl}
use Rattle.rd_tree.specs.declared.handed.ScrollSums.{ScrollSums}
use Rattle.rd_tree.specs.declared.scroll.Scroll.{Scroll}
use Rattle.rd_tree.specs.declared.view.BoxView.{BoxView}
use Rattle.rd_tree.specs.Forest.{empty, tree, head, has, top, item_of, starting_at, from_some, IsApart}
use Rattle.rd_tree.specs.Document.{BoxKey, Item, BoxForest}
use Rattle.rd_tree.specs.Limits.{IsNear}
use Rattle.rd_tree.specs.Changes.{unscrolled}
use Rattle.rd_tree.specs.Drawn.{AllNear}
use Rattle.rd_tree.specs.Seeking.{siblings_from}
use Rattle.rd_tree.specs.Shown.{Shown, told, shown}
use Rattle.rd_tree.specs.Internal.Handing.{offset_in, IsFar}
use Rattle.rd_tree.specs.Internal.Hands.{hand_at}
use Rattle.rd_tree.specs.Internal.Redraws.{drawn_anew}
use Rattle.rd_tree.specs.Internal.Laid.{laid_at, laid_by}
use Rattle.rd_tree.proofs.Linking.Standing.{cases}
use Rattle.rd_tree.proofs.Forests.ByKey.{item-by}
use Rattle.rd_tree.proofs.Nodes.Looking.{nothing_from, from_next, from_begins, fit_from, Onward, onward}

none : (v : Shown) → Some v ≡ None → ⊥
none v h = cc (h)

-- A box that is shown is there,
pub shown_there : (root k : BoxKey) (f : BoxForest) (v : Shown) → Some v ≡ shown root (starting_at same_key k f) → has same_key k f ≡ true
shown_there root k f v h = elim (cases (has same_key k f)) [
  | inl m ↦ m
  | inr o ↦ absurd (none v (h ∙ ap (shown root) (nothing_from same_key same_key-sound same_key-refl k f o)))
]

-- and is drawn within the limits.
pub shown_near : (root k : BoxKey) (f : BoxForest) (v : Shown) → IsApart same_key f → AllNear f → Some v ≡ shown root (starting_at same_key k f) → IsNear v.at
shown_near root k f v a n h =
    let w : Onward root f k v = onward root f k v a h in
    let near : AllNear (tree k w.item w.below w.rest) = subst AllNear w.is (fit_from k f n) in
    subst IsNear (sym w.at) near.0

-- So it may be put back to where it is laid out.
pub placed_back : (s : Scroll) (r : Rectangle) → IsFar 256 s → IsNear r → IsPlaced (drawn_anew s unscrolled r)
placed_back s r w n = record {
  wide = n.wide;
  high = n.high;
  from_left = omega (arith, ints, n.left, w.left);
  from_top = omega (arith, ints, n.up, w.up);
  to_right = omega (arith, ints, n.right, w.right, n.broad);
  to_bottom = omega (arith, ints, n.down, w.down, n.tall);
}

less_none : (x : ℤ) → x -ℤ pos 0 ≡ x
less_none x = omega (arith, ints)

back_is : (s : Scroll) (r : Rectangle) → drawn_anew s unscrolled r ≡ record r { x = r.x +ℤ s.x; y = r.y +ℤ s.y }
back_is s r = λ i. record r { x = less_none (r.x +ℤ s.x) i; y = less_none (r.y +ℤ s.y) i }

-- Where it is laid out.
pub laid_view : (rows : List ScrollSums) (root k : BoxKey) (f : BoxForest) (v : Shown) → IsApart same_key f → Some v ≡ shown root (starting_at same_key k f)
    → (o : Scroll) → o ≡ offset_in (hand_at rows k) v.style.position → (r : Rectangle) → r ≡ drawn_anew o unscrolled v.at
    → Some r ≡ option_map (λ d. d.rect) (item_of same_key k (laid_by rows f))
laid_view rows root k f v a h o e r q =
    let w : Onward root f k v = onward root f k v a h in
    let found : item_of same_key k f ≡ Some w.item = ap top w.is in
    let laid : item_of same_key k (laid_by rows f) ≡ Some (laid_at (hand_at rows k) w.item) =
    item-by (λ j d. laid_at (hand_at rows j) d) same_key same_key-sound k f ∙ ap (option_map (laid_at (hand_at rows k))) found in
    ap Some
    (q ∙ (ap (λ z. drawn_anew z unscrolled v.at) e
    ∙ ((λ i. drawn_anew (offset_in (hand_at rows k) (w.style i).position) unscrolled (w.at i))
    ∙ back_is (offset_in (hand_at rows k) w.item.style.position) w.item.rect)))
    ∙ ap (option_map (λ d. d.rect)) (sym laid)

-- A look at a box tells of the box of its key.
pub view_found : (root k : BoxKey) (f : BoxForest) (o : Option BoxView) → IsApart same_key f → option_map told o ≡ shown root (starting_at same_key k f)
    → IfSome o (λ v. Some (told v) ≡ shown root (starting_at same_key v.key f))
view_found root k f None a h = tt
view_found root k f (Some v) a h =
    let w : Onward root f k (told v) = onward root f k (told v) a h in
    subst (λ j. Some (told v) ≡ shown root (starting_at same_key j f)) (sym w.key) h

nothing_found : (root : BoxKey) (f : BoxForest) (o : Option BoxView) → option_map told o ≡ None → IfSome o (λ v. Some (told v) ≡ shown root (starting_at same_key v.key f))
nothing_found root f None h = tt
nothing_found root f (Some v) h = absurd (none (told v) h)

among_found : (test : Item → BoxForest → Bool) (root : BoxKey) (f g : BoxForest) (o : Option BoxView) → IsApart same_key f → from_some same_key (head g) f ≡ g
    → option_map told o ≡ shown root (siblings_from test g) → IfSome o (λ v. Some (told v) ≡ shown root (starting_at same_key v.key f))
among_found test root f empty o a e h = nothing_found root f o h
among_found test root f (tree k d low rest) o a e h =
    elim (cases (test d low)) [
      | inl y ↦ view_found root k f o a ((rw y at h) ∙ ap (shown root) (sym e))
      | inr n ↦ among_found test root f rest o a (from_next same_key same_key-sound same_key-refl f low rest k k d a e) (rw n at h)
    ]

begins_there : (first : Option BoxKey) (f : BoxForest) → from_some same_key (head (from_some same_key first f)) f ≡ from_some same_key first f
begins_there None f = refl
begins_there (Some k) f = at (starting_at same_key k f) refl where
  at : (g : BoxForest) → starting_at same_key k f ≡ g → from_some same_key (head g) f ≡ g
  at empty e = refl
  at (tree j d low rest) e = subst (λ z. starting_at same_key z f ≡ tree j d low rest) (from_begins f k j d low rest e) e

-- So does a search among siblings.
pub sibling_found : (test : Item → BoxForest → Bool) (root : BoxKey) (first : Option BoxKey) (f : BoxForest) (o : Option BoxView) → IsApart same_key f
    → option_map told o ≡ shown root (siblings_from test (from_some same_key first f)) → IfSome o (λ v. Some (told v) ≡ shown root (starting_at same_key v.key f))
sibling_found test root first f o a h = among_found test root f (from_some same_key first f) o a (begins_there first f) h

-- What is told of a box, with where it is laid out.
pub rect_told : (rows : List ScrollSums) (root : BoxKey) (f : BoxForest) (view v : BoxView) (r : Rectangle) → IsApart same_key f → Some (told view) ≡ shown root (starting_at same_key view.key f)
    → r ≡ drawn_anew (offset_in (hand_at rows view.key) (told view).style.position) unscrolled view.at → told v ≡ told view → v.rect ≡ r
    → Some v.rect ≡ option_map (λ d. d.rect) (item_of same_key v.key (laid_by rows f))
rect_told rows root f view v r a h q t e =
    ap Some e
    ∙ (laid_view rows root view.key f (told view) a h (offset_in (hand_at rows view.key) (told view).style.position) refl r q
    ∙ ap (λ z. option_map (λ (d : Item). d.rect) (item_of same_key z (laid_by rows f))) (sym (ap (λ (z : Shown). z.key) t)))
