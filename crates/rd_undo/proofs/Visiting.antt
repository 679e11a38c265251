-- What visits of boxes tell of the tree by ids.
use Rattle.std.proofs.Common.{◌≡◌, refl, ap, ◌∙◌, sym, subst, ℕ, ◌+◌, ◌≤◌, ℤ, Bool, true, false, ◌||◌, ◌&&◌, arith, List, ◌∷◌, ◌++◌, append_assoc, append-nil, ◌⊎◌, inl, inr, bytes_eq, []}
use Rattle.std.specs.Prelude.{Option, Some, None, option_map, is_some, pos, neg_ℤ, ◌-ℤ◌, ◌≤ℤ◌}
use Rattle.std.proofs.Common.{to_z, of_z, w32}
use Rattle.std.proofs.lemmas.Int.{to_z-of_z}
use lib.IntN.{+ℤ_idl}
use Rattle.std.proofs.lemmas.Int.{ints}
use Rattle.rd_style.proofs.Bounds.{RectBounds, fits_rect-open}
use Rattle.rd_tree.specs.Changes.{shifted, with_rect}
use Rattle.rd_tree.specs.Drawn.{Above, above_of, at, is_none, drawn_below}
use Rattle.rd_tree.proofs.Drawing.{has-drawn}
use Rattle.rd_edits.specs.Refusals.{refusal_of}
use Rattle.rd_undo.proofs.Items.{all_items, holds_at}
use Rattle.rd_undo.proofs.Found.{LooksFit, fits_moved, fit-ids}
use Rattle.rd_undo.proofs.Acting.{admitted}
use Rattle.rd_undo.proofs.Leading.{item_there, item_holds}
use Rattle.std.specs.Option.{option_map_or}
use Rattle.rd_geom.specs.Plane.{Rectangle}
use Rattle.rd_style.specs.declared.styles.StyleChange.{StyleChange}
use Rattle.rd_keys.specs.Keys.{BoxKey, same_key}
use Rattle.rd_keys.proofs.Keys.{same_key-sound, same_key-refl}
use Rattle.rd_tree.specs.declared.node.Item.{Item}
use Rattle.rd_tree.specs.Forest.{empty, tree, size, has, head, top, starting_at, from_some, is_among, without_siblings, branch, item_of, IsApart}
use Rattle.rd_tree.specs.Document.{Document, BoxForest, named, id_of}
use Rattle.rd_tree.specs.Places.{after_first, parent_of, next_of}
use Rattle.rd_tree.specs.ByIds.{Looks, looks_of, IdForest, by_ids, named_tree}
use Rattle.rd_tree.specs.Proper.{IsProper}
use Rattle.rd_tree.specs.Shown.{Shown, shown}
use Rattle.rd_tree.proofs.Linking.Standing.{cases, never, either, differs, apart_back}
use Rattle.rd_tree.proofs.Nodes.Looking as looking
use Rattle.rd_edits.specs.declared.edit.Edit.{Edit}
use Rattle.rd_edits.specs.declared.edit.Edit.TheVariants.{Insert, Remove, Move, SetStyle, SetRect, Shift, Scroll}
use Rattle.rd_undo.specs.Inverse.{previous, insertions, rescrolling, rescrollings, restoration, inverse}
use Rattle.rd_undo.specs.Internal.Visits.{IsVisited, id_from}
use Rattle.rd_undo.specs.declared.visit.Visit.{Visit}
use Rattle.rd_undo.proofs.Restoring.{Kin, kin}
use Rattle.rd_undo.proofs.Names.{Matches, from-ids, among-ids, has-ids, size-ids}
use Rattle.rd_undo.proofs.Found.{matches-named, known_is}
use Rattle.rd_tree.proofs.Nodes.Naming.{named_there, bytes_same, bytes_refl}

abbrev key_from : BoxKey → BoxForest → BoxForest
key_from k f = starting_at same_key k f

-- A box that is there begins the boxes from it on.
record Begins (k : BoxKey) (f : BoxForest) : Type 0 where
  item : Item
  below : BoxForest
  rest : BoxForest
  is : starting_at same_key k f ≡ tree k item below rest

from_low : (k j : BoxKey) (d : Item) (low rest : BoxForest) → same_key k j ≡ false → has same_key k low ≡ true → starting_at same_key k (tree j d low rest) ≡ starting_at same_key k low
from_low k j d low rest n u = rw (n, u) refl

from_later : (k j : BoxKey) (d : Item) (low rest : BoxForest) → same_key k j ≡ false → has same_key k low ≡ false → starting_at same_key k (tree j d low rest) ≡ starting_at same_key k rest
from_later k j d low rest n u = rw (n, u) refl

in_later : (k j : BoxKey) (d : Item) (low rest : BoxForest) → same_key k j ≡ false → has same_key k low ≡ false → has same_key k (tree j d low rest) ≡ true → has same_key k rest ≡ true
in_later k j d low rest n u h = rw (n, u) at h

begins : (k : BoxKey) (f : BoxForest) → has same_key k f ≡ true → Begins k f
begins k empty h = absurd (never false h refl)
begins k (tree j d low rest) h =
    elim (cases (same_key k j)) [
      | inl e ↦ record { item = d; below = low; rest = rest; is = rw e (ap (λ z. tree z d low rest) (sym (same_key-sound k j e))) }
      | inr e ↦ elim (cases (has same_key k low)) [
        | inl u ↦ let b : Begins k low = begins k low u in record { item = b.item; below = b.below; rest = b.rest; is = from_low k j d low rest e u ∙ b.is }
        | inr u ↦ let b : Begins k rest = begins k rest (in_later k j d low rest e u h) in record { item = b.item; below = b.below; rest = b.rest; is = from_later k j d low rest e u ∙ b.is }
      ]
    ]

pub id_there : (k : BoxKey) (f : BoxForest) → has same_key k f ≡ true → None ≡ id_of k f → ⊥
id_there k f h e =
    let b : Begins k f = begins k f h in
    let n : None ≡ Some b.item.id = e ∙ ap (λ z. option_map (λ (d : Item). d.id) (top z)) b.is in
    cc (n)

pub look_there : (root k : BoxKey) (f : BoxForest) → has same_key k f ≡ true → None ≡ shown root (starting_at same_key k f) → ⊥
look_there root k f h e = let b : Begins k f = begins k f h in go b.item b.below b.rest (e ∙ ap (shown root) b.is) where
  go : (d : Item) (low rest : BoxForest) → None ≡ shown root (tree k d low rest) → ⊥
  go d low rest e = cc (e)

-- A box that begins what is from it on is there.
pub head_there : (k : BoxKey) (o : Option BoxKey) (f : BoxForest) → o ≡ Some k → o ≡ head (from_some same_key o f) → has same_key k f ≡ true
head_there k o f e h = go (cases (has same_key k f)) where
  at : Some k ≡ head (starting_at same_key k f)
  at = subst (λ x. x ≡ head (from_some same_key x f)) e h

  go : (has same_key k f ≡ true) ⊎ (has same_key k f ≡ false) → has same_key k f ≡ true
  go (inl u) = u
  go (inr u) = absurd (let n : Some k ≡ None = at ∙ ap head (looking.nothing_from same_key same_key-sound same_key-refl k f u) in cc (n))

-- What the look at a box tells of the first of some boxes.
record Begun (k : BoxKey) (d : Item) (low rest : BoxForest) (s : Shown) : Type 0 where
  key : s.key ≡ k
  style : s.style ≡ d.style
  scroll : s.scroll ≡ d.scroll
  child : s.first_child ≡ head low
  next : s.next_sibling ≡ head rest

begun_with : (root k : BoxKey) (d : Item) (low rest : BoxForest) (s : Shown) → Some s ≡ shown root (tree k d low rest) → Begun k d low rest s
begun_with root k d low rest s h = record { key = cc (h); style = cc (h); scroll = cc (h); child = cc (h); next = cc (h) }

head-drawn : (above : List Above) (f : BoxForest) → head (drawn_below above f) ≡ head f
head-drawn above empty = refl
head-drawn above (tree k d low rest) = refl

-- The boxes from one on, where they are drawn, are drawn below some boxes.
record FromDrawn (above : List Above) (k : BoxKey) (f : BoxForest) : Type 0 where
  over : List Above
  is : starting_at same_key k (drawn_below above f) ≡ drawn_below over (starting_at same_key k f)

from_drawn : (above : List Above) (k : BoxKey) (f : BoxForest) → FromDrawn above k f
from_drawn above k empty = record { over = above; is = refl }
from_drawn above k (tree j d low rest) =
    let inside : List Above = above_of (is_none above) d ∷ above in
    elim (cases (same_key k j)) [
      | inl e ↦ record { over = above; is = rw e refl }
      | inr e ↦ elim (cases (has same_key k low)) [
        | inl u ↦
            let w : FromDrawn inside k low = from_drawn inside k low in
            record {
              over = w.over;
              is = from_low k j (with_rect (at above d) d) (drawn_below inside low) (drawn_below above rest) e (has-drawn inside k low ∙ u)
                  ∙ (w.is ∙ ap (drawn_below w.over) (sym (from_low k j d low rest e u)));
            }
        | inr u ↦
            let w : FromDrawn above k rest = from_drawn above k rest in
            record {
              over = w.over;
              is = from_later k j (with_rect (at above d) d) (drawn_below inside low) (drawn_below above rest) e (has-drawn inside k low ∙ u)
                  ∙ (w.is ∙ ap (drawn_below w.over) (sym (from_later k j d low rest e u)));
            }
      ]
    ]

-- What a look at a box of the drawn tree tells of it where it is laid out.
pub visited : (root k : BoxKey) (f : BoxForest) (s : Shown) (i : List ℕ) (r : Rectangle) (v : Visit) → IsApart same_key f → has same_key k f ≡ true
    → Some s ≡ shown root (starting_at same_key k (drawn_below [] f)) → Some r ≡ option_map (λ d. d.rect) (item_of same_key s.key f) → Some i ≡ id_of k f
    → v.id.now ≡ i → v.rect ≡ r → v.style ≡ s.style → v.scroll ≡ s.scroll → v.first_child ≡ s.first_child → v.next_sibling ≡ s.next_sibling → IsVisited k f v
visited root k f s i r v a m h t e p q style scroll x y =
    let b : Begins k f = begins k f m in
    let w : FromDrawn [] k f = from_drawn [] k f in
    let inside : List Above = above_of (is_none w.over) b.item ∷ w.over in
    let told : Some s ≡ shown root (drawn_below w.over (tree k b.item b.below b.rest)) = h ∙ ap (shown root) (w.is ∙ ap (drawn_below w.over) b.is) in
    let g : Begun k (with_rect (at w.over b.item) b.item) (drawn_below inside b.below) (drawn_below w.over b.rest) s =
    begun_with root k (with_rect (at w.over b.item) b.item) (drawn_below inside b.below) (drawn_below w.over b.rest) s told in
    let first : s.first_child ≡ head b.below = g.child ∙ head-drawn inside b.below in
    let after : s.next_sibling ≡ head b.rest = g.next ∙ head-drawn w.over b.rest in
    let laid : Some r ≡ Some b.item.rect = t ∙ (ap (λ z. option_map (λ (d : Item). d.rect) (item_of same_key z f)) g.key ∙ ap (λ z. option_map (λ (d : Item). d.rect) (top z)) b.is) in
    record {
      item = b.item;
      below = b.below;
      rest = b.rest;
      is = b.is;
      id_is = p ∙ same_id i b.item.id (e ∙ ap (λ z. option_map (λ (d : Item). d.id) (top z)) b.is);
      rect_is = q ∙ same_rect r b.item.rect laid;
      style_is = style ∙ g.style;
      scroll_is = scroll ∙ g.scroll;
      child = ap (λ o. from_some same_key o f) (x ∙ first) ∙ looking.from_child same_key same_key-sound same_key-refl f b.below b.rest k k b.item a b.is;
      next = ap (λ o. from_some same_key o f) (y ∙ after) ∙ looking.from_next same_key same_key-sound same_key-refl f b.below b.rest k k b.item a b.is;
      child_first = x ∙ first;
      next_first = y ∙ after;
    }
  where
    same_id : (a b : List ℕ) → Some a ≡ Some b → a ≡ b
    same_id a b h = cc (h)

    same_rect : (a b : Rectangle) → Some a ≡ Some b → a ≡ b
    same_rect a b h = cc (h)

-- ---- siblings one after another

joins : (b : List Edit) (x : Edit) (l r : List Edit) → ((b ++ x ∷ []) ++ l) ++ r ≡ b ++ (x ∷ (l ++ r))
joins b x l r = append_assoc (b ++ x ∷ []) l r ∙ append_assoc b (x ∷ []) (l ++ r)

pub one_more : (f : BoxForest) (parent : List ℕ) (o : Option BoxKey) (k : BoxKey) (v : Visit) (before one two all : List Edit) → o ≡ Some k → IsVisited k f v
    → before ++ insertions parent (by_ids (from_some same_key o f)) ≡ all → one ≡ before ++ Insert v.id.now parent None v.rect v.style ∷ []
    → two ≡ one ++ insertions v.id.now (by_ids (from_some same_key v.first_child f)) → two ++ insertions parent (by_ids (from_some same_key v.next_sibling f)) ≡ all
one_more f parent o k v before one two all e w h p q =
    let x : Edit = Insert v.id.now parent None v.rect v.style in
    let l : List Edit = insertions v.id.now (by_ids (from_some same_key v.first_child f)) in
    let r : List Edit = insertions parent (by_ids (from_some same_key v.next_sibling f)) in
    let y : Edit = Insert w.item.id parent None w.item.rect w.item.style in
    let whole : insertions parent (by_ids (from_some same_key o f)) ≡ y ∷ (insertions w.item.id (by_ids w.below) ++ insertions parent (by_ids w.rest)) = ap (λ z. insertions parent (by_ids (from_some same_key z f))) e
    ∙ ap (λ z. insertions parent (by_ids z)) w.is in
    let same : x ∷ (l ++ r) ≡ y ∷ (insertions w.item.id (by_ids w.below) ++ insertions parent (by_ids w.rest)) = rw (w.id_is, w.rect_is, w.style_is, w.child, w.next) refl in
    ap (λ z. z ++ r) (q ∙ ap (λ z. z ++ l) p) ∙ (joins before x l r ∙ (ap (λ z. before ++ z) (same ∙ sym whole) ∙ h))

pub one_scrolled : (f : BoxForest) (o : Option BoxKey) (k : BoxKey) (v : Visit) (before one two all : List Edit) → o ≡ Some k → IsVisited k f v
    → before ++ rescrollings (by_ids (from_some same_key o f)) ≡ all → one ≡ before ++ rescrolling v.id.now v.scroll
    → two ≡ one ++ rescrollings (by_ids (from_some same_key v.first_child f)) → two ++ rescrollings (by_ids (from_some same_key v.next_sibling f)) ≡ all
one_scrolled f o k v before one two all e w h p q =
    let x : List Edit = rescrolling v.id.now v.scroll in
    let l : List Edit = rescrollings (by_ids (from_some same_key v.first_child f)) in
    let r : List Edit = rescrollings (by_ids (from_some same_key v.next_sibling f)) in
    let whole : rescrollings (by_ids (from_some same_key o f)) ≡ rescrolling w.item.id w.item.scroll ++ (rescrollings (by_ids w.below) ++ rescrollings (by_ids w.rest)) =
    ap (λ z. rescrollings (by_ids (from_some same_key z f))) e ∙ ap (λ z. rescrollings (by_ids z)) w.is in
    let same : x ++ (l ++ r) ≡ rescrolling w.item.id w.item.scroll ++ (rescrollings (by_ids w.below) ++ rescrollings (by_ids w.rest)) = rw (w.id_is, w.scroll_is, w.child, w.next) refl in
    ap (λ z. z ++ r) (q ∙ ap (λ z. z ++ l) p) ∙ ((append_assoc (before ++ x) l r ∙ append_assoc before x (l ++ r)) ∙ (ap (λ z. before ++ z) (same ∙ sym whole) ∙ h))

pub sizes : (f : BoxForest) (o : Option BoxKey) (k : BoxKey) (v : Visit) → IsVisited k f v → o ≡ Some k
    → size (from_some same_key o f) ≡ 1 + (size (from_some same_key v.first_child f) + size (from_some same_key v.next_sibling f))
sizes f o k v w e = rw (e, w.is, w.child, w.next) refl

pub next_there : (f : BoxForest) (k : BoxKey) (v : Visit) → IsVisited k f v → v.next_sibling ≡ head (from_some same_key v.next_sibling f)
next_there f k v w = w.next_first ∙ ap head (sym w.next)

pub child_there : (f : BoxForest) (k : BoxKey) (v : Visit) → IsVisited k f v → v.first_child ≡ head (from_some same_key v.first_child f)
child_there f k v w = w.child_first ∙ ap head (sym w.child)

-- ---- the parent

id_here : (k : BoxKey) (d : Item) (low rest : BoxForest) → id_of k (tree k d low rest) ≡ Some d.id
id_here k d low rest = rw (same_key-refl k) refl

parent-ids : (i : List ℕ) (k p : BoxKey) (f : BoxForest) → IsApart same_key f → Matches i k f → parent_of same_key k f ≡ Some p → parent_of bytes_eq i (by_ids f) ≡ id_of p f
parent-ids i k p empty a m h = cc
parent-ids i k p (tree j d low rest) a m h =
    elim (cases (is_among same_key k low)) [
      | inl u ↦
          let e : Some j ≡ Some p = rw u at h in
          let n : j ≡ p = cc (e) in
          let v : is_among bytes_eq i (by_ids low) ≡ true = among-ids i k low m.1 ∙ u in
          subst (λ z. parent_of bytes_eq i (by_ids (tree j d low rest)) ≡ id_of z (tree j d low rest)) n (rw v (sym (id_here j d low rest)))
      | inr u ↦
          let v : is_among bytes_eq i (by_ids low) ≡ false = among-ids i k low m.1 ∙ u in
          elim (cases (has same_key k low)) [
            | inl x ↦
                let y : has bytes_eq i (by_ids low) ≡ true = has-ids i k low m.1 ∙ x in
                let g : parent_of same_key k low ≡ Some p = rw (u, x) at h in
                let q : Kin same_key same_key-sound same_key-refl k p low = kin same_key same_key-sound same_key-refl k p low g in
                let n : same_key p j ≡ false = differs same_key same_key-sound same_key-refl low p j q.parent a.0 in
                rw (v, y, n, q.parent) (parent-ids i k p low a.3 m.1 g)
            | inr x ↦
                let y : has bytes_eq i (by_ids low) ≡ false = has-ids i k low m.1 ∙ x in
                let g : parent_of same_key k rest ≡ Some p = rw (u, x) at h in
                let q : Kin same_key same_key-sound same_key-refl k p rest = kin same_key same_key-sound same_key-refl k p rest g in
                let n : same_key p j ≡ false = differs same_key same_key-sound same_key-refl rest p j q.parent a.1 in
                let o : has same_key p low ≡ false = apart_back same_key same_key-sound same_key-refl low rest a.2 p q.parent in
                rw (v, y, n, o) (parent-ids i k p rest a.4 m.2 g)
          ]
    ]

pub parent_there : (k p : BoxKey) (f : BoxForest) → Some p ≡ parent_of same_key k f → has same_key p f ≡ true
parent_there k p f h = (kin same_key same_key-sound same_key-refl k p f (sym h)).parent

pub parent_named : (i q : List ℕ) (k p : BoxKey) (t : Document) → IsProper t → named i t.boxes ≡ Some k → Some p ≡ parent_of same_key k t.boxes → Some q ≡ id_of p t.boxes
    → parent_of bytes_eq i (named_tree t) ≡ Some q
parent_named i q k p t w e h x = parent-ids i k p t.boxes w.apart (matches-named i k t.boxes w.apart w.distinct e) (sym h) ∙ sym x

-- The root is among the first.
pub not_the_root : (i : List ℕ) (k : BoxKey) (t : Document) → IsProper t → named i t.boxes ≡ Some k → is_among bytes_eq i (named_tree t) ≡ false → k ≡ t.root → ⊥
not_the_root i k t w e h r =
    let m : Matches i k t.boxes = matches-named i k t.boxes w.apart w.distinct e in
    let a : is_among same_key k t.boxes ≡ false = sym (among-ids i k t.boxes m) ∙ h in
    let b : (same_key k t.root || false) ≡ false = sym (ap (is_among same_key k) w.rooted.2) ∙ a in
    never (same_key k t.root) (subst (λ z. same_key k z ≡ true) r (same_key-refl k)) (either (same_key k t.root) false b).0

-- ---- what is told of the tree by ids

module _ (i : List ℕ) (k : BoxKey) (t : Document) (w : IsProper t) (e : named i t.boxes ≡ Some k) (v : Visit) (x : IsVisited k t.boxes v) where
  begun : starting_at bytes_eq i (by_ids t.boxes) ≡ by_ids (tree k x.item x.below x.rest)
  begun = from-ids i k t.boxes (matches-named i k t.boxes w.apart w.distinct e) ∙ ap by_ids x.is

  pub item_told : item_of bytes_eq i (named_tree t) ≡ Some (record { rect = v.rect; style = v.style; scroll = v.scroll })
  item_told = ap top begun ∙ rw (x.rect_is, x.style_is, x.scroll_is) refl

  branch_told : branch bytes_eq i (named_tree t) ≡ tree x.item.id (looks_of x.item) (by_ids x.below) empty
  branch_told = ap without_siblings begun

  next_told : next_of bytes_eq i (named_tree t) ≡ id_from v.next_sibling t
  next_told = ap (λ z. head (after_first z)) begun ∙ go x.rest v.next_sibling x.next_first x.next where
    go : (rest : BoxForest) (o : Option BoxKey) → o ≡ head rest → from_some same_key o t.boxes ≡ rest → head (by_ids rest) ≡ id_from o t
    go empty o h n = sym (ap (λ o. id_from o t) h)
    go (tree j d low later) o h n =
        let s : starting_at same_key j t.boxes ≡ tree j d low later = sym (ap (λ o. from_some same_key o t.boxes) h) ∙ n in
        sym (ap (λ o. id_from o t) h ∙ ap (λ z. option_map (λ (d : Item). d.id) (top z)) s)

  pub branch_size : size (branch bytes_eq i (named_tree t)) ≡ 1 + size (from_some same_key v.first_child t.boxes)
  branch_size =
      let a : size (branch bytes_eq i (named_tree t)) ≡ 1 + (size (by_ids x.below) + 0) = ap size branch_told in
      let b : size (from_some same_key v.first_child t.boxes) ≡ size x.below = ap size x.child in
      omega (arith, a, b, size-ids x.below)

  pub removal_told : (q : List ℕ) (o : Option (List ℕ)) → parent_of bytes_eq i (named_tree t) ≡ Some q → o ≡ id_from v.next_sibling t
      → inverse t (Remove i) ≡ Insert v.id.now q o v.rect v.style ∷ (insertions v.id.now (by_ids (from_some same_key v.first_child t.boxes))
      ++ (rescrolling v.id.now v.scroll ++ rescrollings (by_ids (from_some same_key v.first_child t.boxes))))
  removal_told q o p h =
      ap (λ z. option_map_or (λ p. restoration p (next_of bytes_eq i (named_tree t)) (branch bytes_eq i (named_tree t))) z []) p
      ∙ (ap (λ z. restoration q z (branch bytes_eq i (named_tree t))) (next_told ∙ sym h)
      ∙ (ap (restoration q o) branch_told ∙ (ap (λ z. Insert x.item.id q o x.item.rect x.item.style ∷ (insertions x.item.id (by_ids x.below) ++ (rescrolling x.item.id x.item.scroll ++ z)))
      (append-nil (rescrollings (by_ids x.below)))
      ∙ rw (x.id_is, x.rect_is, x.style_is, x.scroll_is, x.child) refl)))

  pub move_told : (parent q : List ℕ) (before o : Option (List ℕ)) → parent_of bytes_eq i (named_tree t) ≡ Some q → o ≡ id_from v.next_sibling t
      → inverse t (Move i parent before) ≡ Move i q o ∷ []
  move_told parent q before o p h =
      ap (λ z. option_map_or (λ p. Move i p (next_of bytes_eq i (named_tree t)) ∷ []) z []) p ∙ ap (λ z. Move i q z ∷ []) (next_told ∙ sym h)

  pub style_told : (c : StyleChange) → inverse t (SetStyle i c) ≡ SetStyle i (previous v.style c) ∷ []
  style_told c = ap (λ z. option_map_or (λ d. SetStyle i (previous d.style c) ∷ []) z []) item_told

  pub rect_told : (r : Rectangle) → inverse t (SetRect i r) ≡ SetRect i v.rect ∷ []
  rect_told r = ap (λ z. option_map_or (λ d. SetRect i d.rect ∷ []) z []) item_told

  pub scroll_told : (a b : ℤ) → inverse t (Scroll i a b) ≡ Scroll i v.scroll.x v.scroll.y ∷ []
  scroll_told a b = ap (λ z. option_map_or (λ d. Scroll i d.scroll.x d.scroll.y ∷ []) z []) item_told

pub named_known : (i : List ℕ) (f : BoxForest) → has bytes_eq i (by_ids f) ≡ true → None ≡ named i f → ⊥
named_known i f h e = never (has bytes_eq i (by_ids f)) h (known_is i f ∙ ap is_some (sym e))

pub named_key : (i : List ℕ) (k : BoxKey) (f : BoxForest) → Some k ≡ named i f → has same_key k f ≡ true
named_key i k f e = named_there i k f (sym e)

-- ---- distances of shifts

-- within twice the limit of a coordinate
pub record IsNear (d : ℤ) : Type 0 where
  pub low : neg_ℤ (pos 2000000) ≤ℤ d
  pub high : d ≤ℤ pos 2000000

both : (a b : Bool) → (a && b) ≡ true → (a ≡ true) × (b ≡ true)
both true b h = (refl, h)
both false b h = absurd (never false h refl)

held : (i : List ℕ) (p : Looks → Bool) (l : Looks) (f : IdForest) → holds_at bytes_eq i p f ≡ true → item_of bytes_eq i f ≡ Some l → p l ≡ true
held i p l empty h e = cc
held i p l (tree j d low rest) h e =
    elim (cases (bytes_eq i j)) [
      | inl u ↦
          let h2 : (p d && all_items p low) ≡ true = both_first (p d) (all_items p low) (rw u at h) in
          let q : Some d ≡ Some l = rw u at e in
          let n : d ≡ l = cc (q) in
          subst (λ z. p z ≡ true) n (both (p d) (all_items p low) h2).0
      | inr u ↦
          let h2 : (holds_at bytes_eq i p low && holds_at bytes_eq i p rest) ≡ true = rw u at h in
          let b = both (holds_at bytes_eq i p low) (holds_at bytes_eq i p rest) h2 in
          elim (cases (has bytes_eq i low)) [
            | inl v ↦ held i p l low b.0 (rw (u, v) at e)
            | inr v ↦ held i p l rest b.1 (rw (u, v) at e)
          ]
    ] where
      both_first : (a b : Bool) → (a && b) ≡ true → (a && b) ≡ true
      both_first a b h = h

pub shift_near : (i : List ℕ) (dx dy : ℤ) (t : Document) → IsProper t → refusal_of t (Shift i dx dy) ≡ None → IsNear dx × IsNear dy
shift_near i dx dy t w r =
    let a = admitted (Shift i dx dy) t w r in
    let l : (l : Looks) × (item_of bytes_eq i (by_ids t.boxes) ≡ Some l) = item_there bytes_eq bytes_same bytes_refl i (by_ids t.boxes) a.0 in
    let fit : LooksFit l.0 = item_holds bytes_eq bytes_same bytes_refl LooksFit i l.0 (by_ids t.boxes) (fit-ids t.boxes w.limits) l.1 in
    let b : RectBounds l.0.rect = fits_rect-open l.0.rect fit.0 in
    let c : RectBounds (shifted dx dy l.0.rect) = fits_rect-open (shifted dx dy l.0.rect) (held i (fits_moved dx dy) l.0 (by_ids t.boxes) a.1 l.1) in (
      record { low = omega (arith, ints, b.x.to, c.x.from); high = omega (arith, ints, b.x.from, c.x.to) },
      record { low = omega (arith, ints, b.y.to, c.y.from); high = omega (arith, ints, b.y.from, c.y.to) },
    )

-- the distance of the shift back, as the code has it
pub negated : (d : ℤ) → IsNear d → to_z w32 (of_z w32 (neg_ℤ d)) ≡ neg_ℤ d
negated d n = to_z-of_z w32 (neg_ℤ d) (omega (arith, ints, n.low, n.high))

pub zero_less : (d : ℤ) → IsNear d → to_z w32 (of_z w32 (pos 0 -ℤ d)) ≡ neg_ℤ d
zero_less d n = to_z-of_z w32 (pos 0 -ℤ d) (omega (arith, ints, n.low, n.high)) ∙ +ℤ_idl (neg_ℤ d)
