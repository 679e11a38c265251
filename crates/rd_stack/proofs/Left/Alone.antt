-- Edits of one box that keep its class, its level and what it clips.
use Rattle.std.proofs.Common.{◌≡◌, refl, ap, ◌∙◌, sym, subst, Bool, true, false, not, ◌&&◌, ◌||◌, cond, List, [], ◌∷◌, inl, inr, is_some, unwrap_or}
use Rattle.std.specs.Prelude.{Option, Some, None}
use Rattle.rd_geom.specs.Plane.{Rectangle, no_pixels}
use Rattle.rd_style.specs.declared.styles.Style.{Style}
use Rattle.rd_style.specs.declared.styles.StyleChange.{StyleChange}
use Rattle.rd_style.specs.declared.kinds.Visibility.TheVariants as visibility
use Rattle.rd_style.specs.declared.kinds.Pointer.TheVariants as pointer
use Rattle.rd_style.specs.Classes.{clips}
use Rattle.rd_style.specs.Changes.{changed, names_class, whole, black, transparent}
use Rattle.rd_keys.specs.Keys.{BoxKey, same_key}
use Rattle.rd_keys.proofs.Keys.{same_key-sound, same_key-refl}
use Rattle.rd_tree.specs.Forest.{empty, tree, has, item_of, at_box, map_where, IsApart}
use Rattle.rd_tree.specs.declared.node.Item.{Item}
use Rattle.rd_tree.specs.Document.{BoxForest}
use Rattle.rd_tree.specs.Changes.{restyle, with_rect, unscrolled}
use Rattle.rd_tree.specs.Drawn.{Above, above_of, offset_of, scrolled_by, at, is_none, drawn_below}
use Rattle.rd_style.specs.Changes.{names_any}
use Rattle.rd_tree.proofs.Linking.Standing.{cases, never, either, flip}
use Rattle.rd_stack.proofs.Left.Bare.{bare, bare_item, bare_style, no_sides}

pub unnamed : {A : Type 0} (o : Option A) (x : A) → is_some o ≡ false → unwrap_or o x ≡ x
unnamed None x h = refl
unnamed (Some y) x h = cc

-- The change names no member from which classes, levels and clips follow.
pub record NamesNone (c : StyleChange) : Type 0 where
  pub position : is_some c.position ≡ false
  pub z : is_some c.z ≡ false
  pub opacity : is_some c.opacity ≡ false
  pub overflow : is_some c.overflow ≡ false
  pub display : is_some c.display ≡ false
  pub float : is_some c.float ≡ false
  pub blend : is_some c.blend ≡ false
  pub isolation : is_some c.isolation ≡ false

pub names_none : (c : StyleChange) → names_class c ≡ false → NamesNone c
names_none c h =
    let y = either (is_some c.position || is_some c.z || is_some c.opacity || is_some c.overflow || is_some c.display || is_some c.float || is_some c.blend) (is_some c.isolation) h in
    let x = either (is_some c.position || is_some c.z || is_some c.opacity || is_some c.overflow || is_some c.display || is_some c.float) (is_some c.blend) y.0 in
    let a = either (is_some c.position || is_some c.z || is_some c.opacity || is_some c.overflow || is_some c.display) (is_some c.float) x.0 in
    let b = either (is_some c.position || is_some c.z || is_some c.opacity || is_some c.overflow) (is_some c.display) a.0 in
    let d = either (is_some c.position || is_some c.z || is_some c.opacity) (is_some c.overflow) b.0 in
    let e = either (is_some c.position || is_some c.z) (is_some c.opacity) d.0 in
    let f = either (is_some c.position) (is_some c.z) e.0 in
    record { position = f.0; z = f.1; opacity = e.1; overflow = d.1; display = b.1; float = a.1; blend = x.1; isolation = y.1 }

module _ (s : Style) (c : StyleChange) (n : NamesNone c) where
  clips-changed : (root : Bool) → clips (changed s c) root ≡ clips s root
  clips-changed root = λ i. clips (record s {
    position = unnamed c.position s.position n.position i;
    overflow = unnamed c.overflow s.overflow n.overflow i;
    display = unnamed c.display s.display n.display i;
    float = unnamed c.float s.float n.float i;
  }) root

  border-changed : (root : Bool) → (is_some c.border_width && clips s root) ≡ false
      → cond (not (clips (changed s c) root)) no_sides (unwrap_or c.border_width s.border_width) ≡ cond (not (clips s root)) no_sides s.border_width
  border-changed root h = ap (λ q. cond (not q) no_sides (unwrap_or c.border_width s.border_width)) (clips-changed root) ∙ by (clips s root) h
    where
      no_and : (b : Bool) → (b && true) ≡ false → b ≡ false
      no_and true h = h
      no_and false h = refl

      by : (q : Bool) → (is_some c.border_width && q) ≡ false → cond (not q) no_sides (unwrap_or c.border_width s.border_width) ≡ cond (not q) no_sides s.border_width
      by true h = unnamed c.border_width s.border_width (no_and (is_some c.border_width) h)
      by false h = refl

  style-changed : (root : Bool) → (is_some c.border_width && clips s root) ≡ false → bare_style true root (changed s c) ≡ bare_style true root s
  style-changed root h = λ i. record {
    position = unnamed c.position s.position n.position i;
    z = unnamed c.z s.z n.z i;
    opacity = unnamed c.opacity s.opacity n.opacity i;
    overflow = unnamed c.overflow s.overflow n.overflow i;
    display = unnamed c.display s.display n.display i;
    float = unnamed c.float s.float n.float i;
    background = transparent;
    border_width = border-changed root h i;
    border_color = black;
    content = None;
    outline_width = 0;
    outline_color = black;
    visibility = visibility.Hidden;
    pointer = pointer.Off;
    blend = unnamed c.blend s.blend n.blend i;
    isolation = unnamed c.isolation s.isolation n.isolation i;
  }

pub bare-restyle : (root : Bool) (c : StyleChange) (d : Item) → whole d.style root c ≡ false → bare_item true root (restyle c d) ≡ bare_item true root d
bare-restyle root c d w =
    let h = either (names_class c) (is_some c.border_width && clips d.style root) w in
    let n = names_none c h.0 in
    λ i. record {
      id = [];
      rect = cond (not (clips-changed d.style c n root i)) no_pixels d.rect;
      style = style-changed d.style c n root h.1 i;
      scroll = d.scroll;
      touched = false;
    }

pub bare-rect : (root : Bool) (r : Rectangle) (d : Item) → clips d.style root ≡ false → bare_item true root (with_rect r d) ≡ bare_item true root d
bare-rect root r d w = λ i. record { id = []; rect = same i; style = bare_style true root d.style; scroll = d.scroll; touched = false }
  where
    by : (q : Bool) → q ≡ false → cond (not q) no_pixels r ≡ cond (not q) no_pixels d.rect
    by true h = cc
    by false h = refl

    same : cond (not (clips d.style root)) no_pixels r ≡ cond (not (clips d.style root)) no_pixels d.rect
    same = by (clips d.style root) w

-- A change that names nothing changes nothing.
pub restyle-none : (c : StyleChange) (d : Item) → names_any c ≡ false → restyle c d ≡ d
restyle-none c d h =
    let a = either _ (is_some c.pointer) h in
    let b = either _ (is_some c.visibility) a.0 in
    let e = either _ (is_some c.outline_color) b.0 in
    let f = either _ (is_some c.outline_width) e.0 in
    let g = either _ (is_some c.content) f.0 in
    let j = either _ (is_some c.border_color) g.0 in
    let k = either _ (is_some c.border_width) j.0 in
    let l = either (names_class c) (is_some c.background) k.0 in
    let n = names_none c l.0 in
    let s = d.style in
    λ i. record d {
      style = record {
        position = unnamed c.position s.position n.position i;
        z = unnamed c.z s.z n.z i;
        opacity = unnamed c.opacity s.opacity n.opacity i;
        overflow = unnamed c.overflow s.overflow n.overflow i;
        display = unnamed c.display s.display n.display i;
        float = unnamed c.float s.float n.float i;
        background = unnamed c.background s.background l.1 i;
        border_width = unnamed c.border_width s.border_width k.1 i;
        border_color = unnamed c.border_color s.border_color j.1 i;
        content = unnamed c.content s.content g.1 i;
        outline_width = unnamed c.outline_width s.outline_width f.1 i;
        outline_color = unnamed c.outline_color s.outline_color e.1 i;
        visibility = unnamed c.visibility s.visibility b.1 i;
        pointer = unnamed c.pointer s.pointer a.1 i;
        blend = unnamed c.blend s.blend n.blend i;
        isolation = unnamed c.isolation s.isolation n.isolation i;
      };
    }

pub each_same : (t : BoxKey → Bool) (h : Item → Item) → ((d : Item) → h d ≡ d) → (f : BoxForest) → map_where t h f ≡ f
each_same t h e empty = refl
each_same t h e (tree k d below rest) = λ i. tree k (same (t k) i) (each_same t h e below i) (each_same t h e rest i)
  where
    same : (b : Bool) → cond b (h d) d ≡ d
    same true = e d
    same false = refl

pub key_flip : (i j : BoxKey) → same_key i j ≡ same_key j i
key_flip i j = flip same_key same_key-sound same_key-refl i j

module _ (k : BoxKey) where
  abbrev pub alone : BoxKey → Bool
  alone j = same_key j k

  -- So it is of the box of this key.
  abbrev pub OfKey : (Bool → Item → Type 0) → Bool → BoxForest → Type 0
  OfKey P root empty = Unit {0}
  OfKey P root (tree i d below rest) = (same_key i k ≡ true → P root d) × OfKey P false below × OfKey P root rest

  module _ (P : Bool → Item → Type 0) where
    key_none : (root : Bool) (f : BoxForest) → has same_key k f ≡ false → OfKey P root f
    key_none root empty o = tt
    key_none root (tree i d below rest) o =
        let s = either (same_key k i) (has same_key k below || has same_key k rest) o in
        let t = either (has same_key k below) (has same_key k rest) s.1 in
        ((λ e. absurd (never (same_key k i) (key_flip k i ∙ e) s.0)), key_none false below t.0, key_none root rest t.1)

    key_from : (f : BoxForest) → IsApart same_key f → ((d : Item) → item_of same_key k f ≡ Some d → P false d) → OfKey P false f
    key_from empty a q = tt
    key_from (tree i d below rest) a q =
        elim (cases (same_key k i)) [
          | inl e ↦
              let n : k ≡ i = same_key-sound k i e in
              ((λ _. q d (rw e refl)), key_none false below (subst (λ x. has same_key x below ≡ false) (sym n) a.0), key_none false rest (subst (λ x. has same_key x rest ≡ false) (sym n) a.1))
          | inr e ↦
              elim (cases (has same_key k below)) [
                | inl u ↦ (
                  (λ v. absurd (never (same_key k i) (key_flip k i ∙ v) e)),
                  key_from below a.3 (λ x y. q x (rw (e, u) y)),
                  key_none false rest (a.2 k u),
                )
                | inr u ↦ (
                  (λ v. absurd (never (same_key k i) (key_flip k i ∙ v) e)),
                  key_none false below u,
                  key_from rest a.4 (λ x y. q x (rw (e, u) y)),
                )
              ]
        ]

    pub key_root : (root : BoxKey) (d : Item) (below : BoxForest) → IsApart same_key (tree root d below empty)
        → ((x : Item) → item_of same_key k (tree root d below empty) ≡ Some x → P (same_key k root) x)
        → OfKey P true (tree root d below empty)
    key_root root d below a q =
        elim (cases (same_key k root)) [
          | inl e ↦
              let n : k ≡ root = same_key-sound k root e in
              let it : item_of same_key k (tree root d below empty) ≡ Some d = rw e refl in
              ((λ _. rw e at (q d it)), key_none false below (subst (λ x. has same_key x below ≡ false) (sym n) a.0), tt)
          | inr e ↦
              let off : same_key root k ≡ true → P true d = λ v. absurd (never (same_key k root) (key_flip k root ∙ v) e) in
              elim (cases (has same_key k below)) [
                | inl u ↦ (off, key_from below a.3 (λ x y. rw e at (q x (rw (e, u) y))), tt)
                | inr u ↦ (off, key_none false below u, tt)
              ]
        ]

-- The change leaves what is drawn below the box where it is, and the box bare as it was, wherever it is drawn.
pub record KeepsPlaces (h : Item → Item) (root : Bool) (d : Item) : Type 0 where
  pub above : above_of root (h d) ≡ above_of root d
  pub bare : (above : List Above) → bare_item true root (with_rect (at above (h d)) (h d)) ≡ bare_item true root (with_rect (at above d) d)

pub bare-drawn : (k : BoxKey) (h : Item → Item) (above : List Above) (f : BoxForest) → OfKey k (KeepsPlaces h) (is_none above) f
    → bare (alone k) (is_none above) (drawn_below above (at_box same_key k h f)) ≡ bare (alone k) (is_none above) (drawn_below above f)
bare-drawn k h above empty q = refl
bare-drawn k h above (tree i d below rest) q = by (same_key i k) q.0 (bare-drawn k h above rest q.2) (λ a. bare-drawn k h (a ∷ above) below q.1)
  where
    by : (b : Bool) → (b ≡ true → KeepsPlaces h (is_none above) d)
        → bare (alone k) (is_none above) (drawn_below above (at_box same_key k h rest)) ≡ bare (alone k) (is_none above) (drawn_below above rest)
        → ((a : Above) → bare (alone k) false (drawn_below (a ∷ above) (at_box same_key k h below)) ≡ bare (alone k) false (drawn_below (a ∷ above) below))
        → tree i (bare_item b (is_none above) (with_rect (at above (cond b (h d) d)) (cond b (h d) d))) (bare (alone k) false (drawn_below (above_of (is_none above) (cond b (h d) d) ∷ above) (at_box same_key k h below))) (bare (alone k) (is_none above) (drawn_below above (at_box same_key k h rest)))
        ≡ tree i (bare_item b (is_none above) (with_rect (at above d) d)) (bare (alone k) false (drawn_below (above_of (is_none above) d ∷ above) below)) (bare (alone k) (is_none above) (drawn_below above rest))
    by true e later low =
        let p = e refl in
        λ t. tree i (p.bare above t) ((ap (λ a. bare (alone k) false (drawn_below (a ∷ above) (at_box same_key k h below))) p.above ∙ low (above_of (is_none above) d)) t) (later t)
    by false e later low = λ t. tree i (bare_item false (is_none above) (with_rect (at above d) d)) (low (above_of (is_none above) d) t) (later t)

-- A change of style that touches the box alone, and another rectangle of a box that does not clip.
pub places-restyle : (root : Bool) (c : StyleChange) (d : Item) → whole d.style root c ≡ false → KeepsPlaces (restyle c) root d
places-restyle root c d w =
    let h = either (names_class c) (is_some c.border_width && clips d.style root) w in
    let n = names_none c h.0 in
    record {
      above = λ i. record {
        position = unnamed c.position d.style.position n.position i;
        scrolled = cond (clips-changed d.style c n root i) d.scroll unscrolled;
      };
      bare = λ above. (λ i. bare_item true root (with_rect (scrolled_by (offset_of (unnamed c.position d.style.position n.position i) above) d.rect) (restyle c d)))
          ∙ bare-restyle root c (with_rect (at above d) d) w;
    }

pub places-rect : (root : Bool) (r : Rectangle) (d : Item) → clips d.style root ≡ false → KeepsPlaces (with_rect r) root d
places-rect root r d w = record {
  above = refl;
  bare = λ above. bare-rect root (at above (with_rect r d)) d w ∙ sym (bare-rect root (at above d) d w);
}

-- where an item is found
item_inner : (k i : BoxKey) (d x : Item) (below rest : BoxForest) → same_key k i ≡ false → has same_key k below ≡ true → item_of same_key k below ≡ Some x → item_of same_key k (tree i d below rest) ≡ Some x
item_inner k i d x below rest e u q = rw (e, u) q

item_later : (k i : BoxKey) (d x : Item) (below rest : BoxForest) → same_key k i ≡ false → has same_key k below ≡ false → item_of same_key k rest ≡ Some x → item_of same_key k (tree i d below rest) ≡ Some x
item_later k i d x below rest e u q = rw (e, u) q

last_or : (a b c : Bool) → a ≡ false → b ≡ false → (a || (b || c)) ≡ true → c ≡ true
last_or true b c e u h = cc
last_or false true c e u h = cc
last_or false false c e u h = h

-- a box that is there has an item
pub has_item : (k : BoxKey) (f : BoxForest) → has same_key k f ≡ true → (d : Item) × (item_of same_key k f ≡ Some d)
has_item k empty h = absurd (never false h refl)
has_item k (tree i d below rest) h =
    elim (cases (same_key k i)) [
      | inl e ↦ (d, rw e refl)
      | inr e ↦ elim (cases (has same_key k below)) [
        | inl u ↦ let r = has_item k below u in (r.0, item_inner k i d r.0 below rest e u r.1)
        | inr u ↦ let r = has_item k rest (last_or (same_key k i) (has same_key k below) (has same_key k rest) e u h) in (r.0, item_later k i d r.0 below rest e u r.1)
      ]
    ]
