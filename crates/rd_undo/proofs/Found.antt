-- The box that an id names, and edits of a tree by ids.
use Rattle.std.proofs.Common.{◌≡◌, refl, ap, ◌∙◌, sym, subst, ℕ, ℤ, Bool, true, false, ◌||◌, ◌&&◌, List, ◌⊎◌, inl, inr, bytes_eq}
use Rattle.std.specs.Prelude.{Option, Some, None, is_some}
use Rattle.rd_style.specs.Limits.{FitsRect, Fits, fits_rect}
use Rattle.rd_keys.specs.Keys.{same_key}
use Rattle.rd_keys.proofs.Keys.{same_key-sound, same_key-refl}
use Rattle.rd_tree.specs.declared.node.Item.{Item}
use Rattle.rd_tree.specs.Forest.{empty, tree, has, children, with_children, insert_among, AllItems, IsPlaceIn, IsApart}
use Rattle.rd_tree.specs.Document.{BoxKey, BoxForest, named, or_else, AllFit}
use Rattle.rd_tree.specs.ByIds.{Looks, looks_of, by_ids, HasDistinctIds}
use Rattle.rd_tree.specs.Limits.{FitsScroll}
use Rattle.rd_tree.specs.Changes.{shifted, fits_shift, all_of}
use Rattle.rd_tree.proofs.Linking.Standing.{cases, never, join-empty, no_children, differs, apart_back}
use Rattle.rd_tree.proofs.Linking.Cutting.{in_children}
use Rattle.rd_tree.proofs.Nodes.Naming.{bytes_same, bytes_refl, named_there}
use Rattle.rd_edits.specs.Edited.{place_of}
use Rattle.rd_undo.proofs.Put.{put, among_has}
use Rattle.rd_undo.proofs.Putting.{put_is}
use Rattle.rd_undo.proofs.Items.{change_all, change_at, all_items, holds_at, nowhere_holds}
use Rattle.rd_undo.proofs.Names.{Matches, id_flip, named_in, matches-none, matches-children, has-ids, children-ids, with_children-ids, before-ids, join-ids}

-- ---- the box that is named

some_or : (a b : Option BoxKey) (k : BoxKey) → or_else a b ≡ Some k → (a ≡ Some k) ⊎ (b ≡ Some k)
some_or None b k h = inr h
some_or (Some x) b k h = inl h

-- It is the only one with its id.
pub matches-named : (i : List ℕ) (k : BoxKey) (f : BoxForest) → IsApart same_key f → HasDistinctIds f → named i f ≡ Some k → Matches i k f
matches-named i k empty a b h = tt
matches-named i k (tree j d below rest) a b h =
    elim (cases (bytes_eq d.id i)) [
      | inl e ↦
          let h2 : Some j ≡ Some k = rw e at h in
          let n : j ≡ k = cc (h2) in
          subst (λ x. Matches i x (tree j d below rest)) n (subst (λ y. Matches y j (tree j d below rest)) (bytes_same d.id i e) (
            bytes_refl d.id ∙ sym (same_key-refl j),
            matches-none d.id j below b.0 a.0,
            matches-none d.id j rest b.1 a.1,
          ))
      | inr e ↦
          let ne : bytes_eq i d.id ≡ false = id_flip i d.id ∙ e in
          elim (some_or (named i below) (named i rest) k (rw e at h)) [
            | inl u ↦
                let m : has same_key k below ≡ true = named_there i k below u in
                let q : has bytes_eq i (by_ids below) ≡ true = named_in i k below u in
                (ne ∙ sym (differs same_key same_key-sound same_key-refl below k j m a.0), matches-named i k below a.3 b.3 u, matches-none i k rest (b.2 i q) (a.2 k m))
            | inr u ↦
                let m : has same_key k rest ≡ true = named_there i k rest u in
                let q : has bytes_eq i (by_ids rest) ≡ true = named_in i k rest u in (
                  ne ∙ sym (differs same_key same_key-sound same_key-refl rest k j m a.1),
                  matches-none i k below (apart_back bytes_eq bytes_same bytes_refl (by_ids below) (by_ids rest) b.2 i q)
                      (apart_back same_key same_key-sound same_key-refl below rest a.2 k m),
                  matches-named i k rest a.4 b.4 u,
                )
          ]
    ]

pub known_is : (i : List ℕ) (f : BoxForest) → has bytes_eq i (by_ids f) ≡ is_some (named i f)
known_is i empty = refl
known_is i (tree j d below rest) =
    elim (cases (bytes_eq d.id i)) [
      | inl e ↦ let g : bytes_eq i d.id ≡ true = id_flip i d.id ∙ e in rw (e, g) refl
      | inr e ↦ let g : bytes_eq i d.id ≡ false = id_flip i d.id ∙ e in rw (e, g, known_is i below, known_is i rest) (either_some (named i below) (named i rest))
    ] where
      either_some : (a b : Option BoxKey) → (is_some a || is_some b) ≡ is_some (or_else a b)
      either_some None b = refl
      either_some (Some x) b = refl

-- the box with an id
pub record Found (i : List ℕ) (f : BoxForest) : Type 0 where
  pub key : BoxKey
  pub is : named i f ≡ Some key
  pub there : has same_key key f ≡ true
  pub matches : Matches i key f

pub found_as : (i : List ℕ) (k : BoxKey) (f : BoxForest) → IsApart same_key f → HasDistinctIds f → named i f ≡ Some k → Found i f
found_as i k f a b e = record { key = k; is = e; there = named_there i k f e; matches = matches-named i k f a b e }

pub found : (i : List ℕ) (f : BoxForest) → IsApart same_key f → HasDistinctIds f → has bytes_eq i (by_ids f) ≡ true → Found i f
found i f a b h = go (named i f) refl (sym (known_is i f) ∙ h) where
  go : (o : Option BoxKey) → named i f ≡ o → is_some o ≡ true → Found i f
  go None e s = absurd (never false s refl)
  go (Some k) e s = found_as i k f a b e

pub unknown : (i : List ℕ) (f : BoxForest) → has bytes_eq i (by_ids f) ≡ false → named i f ≡ None
unknown i f h = go (named i f) refl (sym (known_is i f) ∙ h) where
  go : (o : Option BoxKey) → named i f ≡ o → is_some o ≡ false → named i f ≡ None
  go None e s = e
  go (Some k) e s = absurd (never true refl s)

-- ---- places

-- The place that ids name is the place that keys name.
abbrev pub SamePlace : Option (List ℕ) → Option BoxKey → BoxForest → Type 0
SamePlace None o f = o ≡ None
SamePlace (Some b) o f = (k : BoxKey) × (o ≡ Some k) × Matches b k f

pub same_place : (parent : List ℕ) (before : Option (List ℕ)) (f : BoxForest) → IsApart same_key f → HasDistinctIds f
    → IsPlaceIn bytes_eq before (children bytes_eq parent (by_ids f)) → SamePlace before (place_of before f) f
same_place parent None f a d h = refl
same_place parent (Some b) f a d h =
    let w : Found b f = found b f a d (in_children bytes_eq bytes_same bytes_refl b parent (by_ids f) (among_has bytes_eq b (children bytes_eq parent (by_ids f)) h)) in
    (w.key, w.is, w.matches)

among-place : (before : Option (List ℕ)) (o : Option BoxKey) (g f : BoxForest) → SamePlace before o f → insert_among bytes_eq before (by_ids g) (by_ids f) ≡ by_ids (insert_among same_key o g f)
among-place None o g f s = sym (ap (λ z. by_ids (insert_among same_key z g f)) s ∙ join-ids f g)
among-place (Some b) o g f s = before-ids b s.0 g f s.2 ∙ sym (ap (λ z. by_ids (insert_among same_key z g f)) s.1)

place_below : (before : Option (List ℕ)) (o : Option BoxKey) (p : BoxKey) (f : BoxForest) → SamePlace before o f → SamePlace before o (children same_key p f)
place_below None o p f s = s
place_below (Some b) o p f s = (s.0, s.1, matches-children b s.0 p f s.2)

-- Boxes that are put among the children of another.
pub put-ids : (parent : List ℕ) (p : BoxKey) (before : Option (List ℕ)) (o : Option BoxKey) (g f : BoxForest) → HasDistinctIds f → Matches parent p f → SamePlace before o f
    → by_ids (with_children same_key p (insert_among same_key o g (children same_key p f)) f) ≡ put bytes_eq parent before (by_ids g) (by_ids f)
put-ids parent p before o g f d m s =
    let c : BoxForest = children same_key p f in
    sym (with_children-ids parent p (insert_among same_key o g c) f m)
    ∙ (ap (λ z. with_children bytes_eq parent z (by_ids f)) (sym (among-place before o g c (place_below before o p f s)))
    ∙ (ap (λ z. with_children bytes_eq parent (insert_among bytes_eq before (by_ids g) z) (by_ids f)) (sym (children-ids parent p f m))
    ∙ put_is bytes_eq bytes_same bytes_refl parent before (by_ids g) (by_ids f) d))

-- ---- items

-- a change of items that leaves ids, and is seen in what else they are
pub record Seen (g : Item → Item) (h : Looks → Looks) : Type 0 where
  pub ids : (d : Item) → (g d).id ≡ d.id
  pub looks : (d : Item) → looks_of (g d) ≡ h (looks_of d)

all-ids : (g : Item → Item) (h : Looks → Looks) (s : Seen g h) (f : BoxForest) → by_ids (change_all g f) ≡ change_all h (by_ids f)
all-ids g h s empty = refl
all-ids g h s (tree j d below rest) = rw (s.ids d, s.looks d, all-ids g h s below, all-ids g h s rest) refl

pub change-ids : (i : List ℕ) (k : BoxKey) (g : Item → Item) (h : Looks → Looks) (s : Seen g h) (f : BoxForest) → Matches i k f
    → by_ids (change_at same_key k g (λ z. z) f) ≡ change_at bytes_eq i h (λ z. z) (by_ids f)
change-ids i k g h s empty m = refl
change-ids i k g h s (tree j d below rest) m =
    elim (cases (same_key k j)) [
      | inl e ↦ let q : bytes_eq i d.id ≡ true = m.0 ∙ e in rw (e, q) (rw (s.ids d, s.looks d) refl)
      | inr e ↦ let q : bytes_eq i d.id ≡ false = m.0 ∙ e in rw (e, q, change-ids i k g h s below m.1, change-ids i k g h s rest m.2) refl
    ]

pub change_all-ids : (i : List ℕ) (k : BoxKey) (g : Item → Item) (h : Looks → Looks) (s : Seen g h) (f : BoxForest) → Matches i k f
    → by_ids (change_at same_key k g (change_all g) f) ≡ change_at bytes_eq i h (change_all h) (by_ids f)
change_all-ids i k g h s empty m = refl
change_all-ids i k g h s (tree j d below rest) m =
    elim (cases (same_key k j)) [
      | inl e ↦ let q : bytes_eq i d.id ≡ true = m.0 ∙ e in rw (e, q, all-ids g h s below) (rw (s.ids d, s.looks d) refl)
      | inr e ↦ let q : bytes_eq i d.id ≡ false = m.0 ∙ e in rw (e, q, change_all-ids i k g h s below m.1, change_all-ids i k g h s rest m.2) refl
    ]

-- All is within the limits.
abbrev pub LooksFit : Looks → Type 0
LooksFit l = FitsRect l.rect × Fits l.style × FitsScroll l.scroll

pub fit-ids : (f : BoxForest) → AllFit f → AllItems LooksFit (by_ids f)
fit-ids empty a = tt
fit-ids (tree j d below rest) a = ((a.0, a.1, a.4), fit-ids below a.2, fit-ids rest a.3)

-- what a shift is tested for
abbrev pub fits_moved : ℤ → ℤ → Looks → Bool
fits_moved dx dy l = fits_rect (shifted dx dy l.rect)

all-fits : (dx dy : ℤ) (f : BoxForest) → all_of (λ d. fits_rect (shifted dx dy d.rect)) f ≡ all_items (fits_moved dx dy) (by_ids f)
all-fits dx dy empty = refl
all-fits dx dy (tree j d below rest) = rw (all-fits dx dy below, all-fits dx dy rest) refl

pub shift-ids : (dx dy : ℤ) (i : List ℕ) (k : BoxKey) (f : BoxForest) → IsApart same_key f → Matches i k f → has same_key k f ≡ true → fits_shift dx dy k f ≡ holds_at bytes_eq i (fits_moved dx dy) (by_ids f)
shift-ids dx dy i k empty a m h = absurd (never false h refl)
shift-ids dx dy i k (tree j d below rest) a m h =
    elim (cases (same_key k j)) [
      | inl e ↦ let q : bytes_eq i d.id ≡ true = m.0 ∙ e in rw (e, q, all-fits dx dy below) refl
      | inr e ↦
          let q : bytes_eq i d.id ≡ false = m.0 ∙ e in
          elim (cases (has same_key k below)) [
            | inl u ↦
                let o : has same_key k rest ≡ false = a.2 k u in
                let n : has bytes_eq i (by_ids rest) ≡ false = has-ids i k rest m.2 ∙ o in
                rw (e, q, u, no_children same_key same_key-sound same_key-refl k rest o, join-empty (children same_key k below), nowhere_holds bytes_eq i (fits_moved dx dy) (by_ids rest) n)
                (shift-ids dx dy i k below a.3 m.1 u ∙ sym (and_true (holds_at bytes_eq i (fits_moved dx dy) (by_ids below))))
            | inr u ↦
                let n : has bytes_eq i (by_ids below) ≡ false = has-ids i k below m.1 ∙ u in
                rw (e, q, u, no_children same_key same_key-sound same_key-refl k below u, nowhere_holds bytes_eq i (fits_moved dx dy) (by_ids below) n)
                (shift-ids dx dy i k rest a.4 m.2 (rw (e, u) at h))
          ]
    ] where
      and_true : (b : Bool) → (b && true) ≡ b
      and_true true = refl
      and_true false = refl
