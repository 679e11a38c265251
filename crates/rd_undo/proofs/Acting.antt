-- Edits of a tree by ids: which are accepted, and what they come to.
use Rattle.std.proofs.Common.{◌≡◌, refl, ap, ◌∙◌, sym, subst, ℕ, ℤ, ◌+◌, ◌<◌, ◌≤◌, Bool, true, false, ◌||◌, not, cond, arith, List, ◌⊎◌, inl, inr, bytes_eq}
use Rattle.std.specs.Prelude.{Option, Some, None, is_none, nat_lt, nat_le}
use Rattle.std.specs.Option.{option_map_or}
use Rattle.rd_geom.specs.Plane.{Rectangle}
use Rattle.rd_style.specs.declared.styles.Style.{Style}
use Rattle.rd_style.specs.declared.styles.StyleChange.{StyleChange}
use Rattle.rd_style.specs.Changes.{changed}
use Rattle.rd_style.specs.Limits.{fits_rect, fits}
use Rattle.rd_keys.specs.Keys.{same_key}
use Rattle.rd_keys.proofs.Keys.{same_key-sound, same_key-refl}
use Rattle.rd_tree.specs.Figures.{max_boxes, max_depth}
use Rattle.rd_tree.specs.Forest.{empty, tree, size, height, depth, has, children, is_among, without_branch, branch, in_subtree, IsPlaceIn, IsApart}
use Rattle.rd_tree.specs.Document.{Document, BoxKey, BoxForest, named, or_else, taken}
use Rattle.rd_tree.specs.ByIds.{Looks, IdForest, by_ids, HasDistinctIds}
use Rattle.rd_tree.specs.Proper.{IsProper}
use Rattle.rd_tree.specs.declared.scroll.Scroll.{Scroll as Offset}
use Rattle.rd_tree.specs.Limits.{fits_scroll}
use Rattle.rd_tree.specs.Changes.{Change, unscrolled, after, new_item, restyle, with_rect, with_scroll, shift_item, shifted, fits_shift}
use Rattle.rd_tree.specs.Touching.{touched_by}
use Rattle.rd_tree.proofs.Linking.Standing.{cases, never, refute, either, flip}
use Rattle.rd_tree.proofs.Forests.Without.{apart_without}
use Rattle.rd_tree.proofs.Nodes.Naming.{bytes_same, bytes_refl}
use Rattle.rd_edits.specs.Edited.{place_of, IsNamed, IsEdited}
use Rattle.rd_edits.specs.Ranges.{fits_change}
use Rattle.rd_edits.specs.Refusals.{refusal_of, is_unknown, is_known, is_one, is_pair, is_root, is_not_a_child, is_before_itself, levels_of, is_too_deep, is_full}
use Rattle.rd_edits.specs.declared.edit.Edit.{Edit}
use Rattle.rd_edits.specs.declared.edit.Edit.TheVariants.{Insert, Remove, Move, SetStyle, SetRect, Shift, Scroll}
use Rattle.rd_edits.specs.declared.fault.EditFault.{EditFault}
use Rattle.rd_edits.specs.declared.fault.EditFault.TheVariants.{UnknownId, UnknownParent, IsRoot, IntoItself, NotAChild, DuplicateId, TooDeep, TooMany, OutOfRange}
use Rattle.rd_undo.proofs.Put.{put}
use Rattle.rd_undo.proofs.Items.{change_all, change_at, holds_at, one_is, subtree_is}
use Rattle.rd_undo.proofs.Names.{Matches, id_flip, named_in, matches-children, matches-without, has-ids, children-ids, without-ids, branch-ids, among-ids, depth-ids, height-ids, size-ids, touched-ids}
use Rattle.rd_undo.proofs.Found.{matches-named, known_is, Found, found_as, found, unknown, SamePlace, same_place, put-ids, change-ids, change_all-ids, fits_moved, shift-ids}

-- ---- what edits are to a tree by ids

abbrev pub looks_as : Rectangle → Style → Offset → Looks
looks_as rect style scroll = record { rect = rect; style = style; scroll = scroll }

abbrev pub new_looks : Rectangle → Style → Looks
new_looks rect style = looks_as rect style unscrolled

abbrev pub style_looks : StyleChange → Looks → Looks
style_looks c l = record l { style = changed l.style c }

abbrev pub place_looks : Rectangle → Looks → Looks
place_looks r l = record l { rect = r }

abbrev pub shift_looks : ℤ → ℤ → Looks → Looks
shift_looks dx dy l = record l { rect = shifted dx dy l.rect }

abbrev pub scroll_looks : Offset → Looks → Looks
scroll_looks s l = record l { scroll = s }

-- what an edit comes to
abbrev pub acted : Edit → IdForest → IdForest
acted (Insert i parent before rect style) f = put bytes_eq parent before (tree i (new_looks rect style) empty empty) f
acted (Remove i) f = without_branch bytes_eq i f
acted (Move i parent before) f = put bytes_eq parent before (branch bytes_eq i f) (without_branch bytes_eq i f)
acted (SetStyle i c) f = change_at bytes_eq i (style_looks c) (λ z. z) f
acted (SetRect i r) f = change_at bytes_eq i (place_looks r) (λ z. z) f
acted (Shift i dx dy) f = change_at bytes_eq i (shift_looks dx dy) (change_all (shift_looks dx dy)) f
acted (Scroll i x y) f = change_at bytes_eq i (scroll_looks (record { x = x; y = y })) (λ z. z) f

-- An edit is accepted where there is room for so many boxes.
abbrev pub IsAdmitted : ℕ → Edit → IdForest → Type 0
IsAdmitted n (Insert i parent before rect style) f =
    (has bytes_eq parent f ≡ true) × IsPlaceIn bytes_eq before (children bytes_eq parent f) × (has bytes_eq i f ≡ false)
    × (depth bytes_eq parent f + 1 ≤ max_depth)
    × (size f < n) × (fits_rect rect ≡ true) × (fits style ≡ true)
IsAdmitted n (Remove i) f = (has bytes_eq i f ≡ true) × (is_among bytes_eq i f ≡ false)
IsAdmitted n (Move i parent before) f =
    (has bytes_eq i f ≡ true) × (has bytes_eq parent f ≡ true) × (is_among bytes_eq i f ≡ false) × (in_subtree bytes_eq parent i f ≡ false)
    × IsPlaceIn bytes_eq before (children bytes_eq parent f)
    × (before ≡ Some i → ⊥) × (depth bytes_eq parent f + (1 + height (children bytes_eq i f)) ≤ max_depth)
IsAdmitted n (SetStyle i c) f = (has bytes_eq i f ≡ true) × (fits_change c ≡ true)
IsAdmitted n (SetRect i r) f = (has bytes_eq i f ≡ true) × (fits_rect r ≡ true)
IsAdmitted n (Shift i dx dy) f = (has bytes_eq i f ≡ true) × (holds_at bytes_eq i (fits_moved dx dy) f ≡ true)
IsAdmitted n (Scroll i x y) f = (has bytes_eq i f ≡ true) × (fits_scroll (record { x = x; y = y }) ≡ true)

-- There is room for so many boxes, with the slots that are retired.
abbrev pub HasRoom : ℕ → Document → Type 0
HasRoom n t = taken t + n ≤ size t.boxes + max_boxes

-- ---- ids and keys

some_or : (a b : Option BoxKey) (k : BoxKey) → or_else a b ≡ Some k → (a ≡ Some k) ⊎ (b ≡ Some k)
some_or None b k h = inr h
some_or (Some x) b k h = inl h

-- Two ids are one where their keys are.
ids_agree : (i q : List ℕ) (k x : BoxKey) (f : BoxForest) → Matches i k f → named q f ≡ Some x → bytes_eq i q ≡ same_key k x
ids_agree i q k x empty m h = cc
ids_agree i q k x (tree j d below rest) m h =
    elim (cases (bytes_eq d.id q)) [
      | inl e ↦
          let h2 : Some j ≡ Some x = rw e at h in
          let n : j ≡ x = cc (h2) in
          subst (λ z. bytes_eq i q ≡ same_key k z) n (subst (λ z. bytes_eq i z ≡ same_key k j) (bytes_same d.id q e) m.0)
      | inr e ↦ elim (some_or (named q below) (named q rest) x (rw e at h)) [
        | inl u ↦ ids_agree i q k x below m.1 u
        | inr u ↦ ids_agree i q k x rest m.2 u
      ]
    ]

module _ (t : Document) (w : IsProper t) where
  -- a box that is not the root
  not_root : (i : List ℕ) (k : BoxKey) → Matches i k t.boxes → is_among bytes_eq i (by_ids t.boxes) ≡ false → is_root k t ≡ false
  not_root i k m h =
      let a : is_among same_key k t.boxes ≡ false = sym (among-ids i k t.boxes m) ∙ h in
      let b : (same_key k t.root || false) ≡ false = sym (ap (is_among same_key k) w.rooted.2) ∙ a in
      (either (same_key k t.root) false b).0

  is_below : (i : List ℕ) (k : BoxKey) → Matches i k t.boxes → is_root k t ≡ false → is_among bytes_eq i (by_ids t.boxes) ≡ false
  is_below i k m h = among-ids i k t.boxes m ∙ (ap (is_among same_key k) w.rooted.2 ∙ rw h refl)

  child : (b parent : List ℕ) (k p : BoxKey) → Matches b k t.boxes → Matches parent p t.boxes
      → is_among bytes_eq b (children bytes_eq parent (by_ids t.boxes)) ≡ is_among same_key k (children same_key p t.boxes)
  child b parent k p m q = ap (is_among bytes_eq b) (children-ids parent p t.boxes q) ∙ among-ids b k (children same_key p t.boxes) (matches-children b k p t.boxes m)

  place_accepted : (before : Option (List ℕ)) (parent : List ℕ) (p : BoxKey) → Matches parent p t.boxes → SamePlace before (place_of before t.boxes) t.boxes
      → IsPlaceIn bytes_eq before (children bytes_eq parent (by_ids t.boxes)) → is_not_a_child before p t ≡ false
  place_accepted None parent p m s h = refl
  place_accepted (Some b) parent p m s h =
      let e : named b t.boxes ≡ Some s.0 = s.1 in
      let c : is_among same_key s.0 (children same_key p t.boxes) ≡ true = sym (child b parent s.0 p s.2 m) ∙ h in
      rw (e, c) refl

  place_given : (before : Option (List ℕ)) (parent : List ℕ) (p : BoxKey) → Matches parent p t.boxes → is_not_a_child before p t ≡ false
      → IsPlaceIn bytes_eq before (children bytes_eq parent (by_ids t.boxes))
  place_given None parent p m h = tt
  place_given (Some b) parent p m h = go (named b t.boxes) refl h where
    go : (o : Option BoxKey) → named b t.boxes ≡ o → not (option_map_or (λ k. is_among same_key k (children same_key p t.boxes)) o false) ≡ false
        → is_among bytes_eq b (children bytes_eq parent (by_ids t.boxes)) ≡ true
    go None e s = absurd (never true refl s)
    go (Some k) e s = child b parent k p (matches-named b k t.boxes w.apart w.distinct e) m ∙ yes (is_among same_key k (children same_key p t.boxes)) s
      where
        yes : (c : Bool) → not c ≡ false → c ≡ true
        yes true h = refl
        yes false h = absurd (never true refl h)

  other_place : (before : Option (List ℕ)) (i : List ℕ) (k : BoxKey) → Matches i k t.boxes → SamePlace before (place_of before t.boxes) t.boxes
      → (before ≡ Some i → ⊥) → is_before_itself k (place_of before t.boxes) ≡ false
  other_place None i k m s h = refl
  other_place (Some b) i k m s h =
      let e : named b t.boxes ≡ Some s.0 = s.1 in
      let n : bytes_eq i b ≡ false = refute (bytes_eq i b) (λ u. h (ap Some (sym (bytes_same i b u)))) in
      let d : same_key s.0 k ≡ false = flip same_key same_key-sound same_key-refl s.0 k ∙ (sym (ids_agree i b k s.0 t.boxes m e) ∙ n) in
      rw (e, d) refl

  place_is_other : (before : Option (List ℕ)) (i : List ℕ) (k : BoxKey) → named i t.boxes ≡ Some k → is_before_itself k (place_of before t.boxes) ≡ false → before ≡ Some i → ⊥
  place_is_other before i k e h same =
      let a : is_before_itself k (place_of (Some i) t.boxes) ≡ false = subst (λ o. is_before_itself k (place_of o t.boxes) ≡ false) same h in
      let b : same_key k k ≡ false = rw e at a in
      never (same_key k k) (same_key-refl k) b

  below_is : (i q : List ℕ) (k p : BoxKey) → Matches i k t.boxes → Matches q p t.boxes → named q t.boxes ≡ Some p
      → in_subtree bytes_eq q i (by_ids t.boxes) ≡ in_subtree same_key p k t.boxes
  below_is i q k p m n e =
      let a : bytes_eq q i ≡ same_key p k = id_flip q i ∙ (ids_agree i q k p t.boxes m e ∙ flip same_key same_key-sound same_key-refl k p) in
      let b : has bytes_eq q (children bytes_eq i (by_ids t.boxes)) ≡ has same_key p (children same_key k t.boxes) = ap (has bytes_eq q) (children-ids i k t.boxes m)
      ∙ has-ids q p (children same_key k t.boxes) (matches-children q p k t.boxes n) in
      rw (a, b) refl

  levels_are : (i : List ℕ) (k : BoxKey) → Matches i k t.boxes → 1 + height (children bytes_eq i (by_ids t.boxes)) ≡ levels_of k t
  levels_are i k m = ap (λ f. 1 + height f) (children-ids i k t.boxes m) ∙ ap (λ n. 1 + n) (height-ids (children same_key k t.boxes))

not_deep : (m : ℕ) → m ≤ max_depth → nat_lt max_depth m ≡ false
not_deep m h = grind arith

not_too_deep : (m : ℕ) → nat_lt max_depth m ≡ false → m ≤ max_depth
not_too_deep m h = grind arith

not_full : (m : ℕ) → m < max_boxes → nat_le max_boxes m ≡ false
not_full m h = grind arith

-- An edit that is admitted is refused by no test.
pub accepted : (n : ℕ) (e : Edit) (t : Document) → IsProper t → IsAdmitted n e (by_ids t.boxes) → HasRoom n t → refusal_of t e ≡ None
accepted n (Insert i parent before rect style) t w a room =
    let p : Found parent t.boxes = found parent t.boxes w.apart w.distinct a.0 in
    let place : is_not_a_child before p.key t ≡ false = place_accepted t w before parent p.key p.matches (same_place parent before t.boxes w.apart w.distinct a.1) a.1 in
    let new : named i t.boxes ≡ None = unknown i t.boxes a.2 in
    let deep : is_too_deep 1 p.key t ≡ false = not_deep (depth same_key p.key t.boxes + 1) (subst (λ x. x + 1 ≤ max_depth) (depth-ids parent p.key t.boxes p.matches) a.3) in
    let s : size (by_ids t.boxes) ≡ size t.boxes = size-ids t.boxes in
    let less : size (by_ids t.boxes) < n = a.4 in
    let full : is_full t ≡ false = not_full (taken t) (omega (arith, room, s, less)) in
    rw (p.is, place, new, deep, full, a.5, a.6) refl
accepted n (Remove i) t w a room =
    let k : Found i t.boxes = found i t.boxes w.apart w.distinct a.0 in
    let root : is_root k.key t ≡ false = not_root t w i k.key k.matches a.1 in
    rw (k.is, root) refl
accepted n (Move i parent before) t w a room =
    let k : Found i t.boxes = found i t.boxes w.apart w.distinct a.0 in
    let p : Found parent t.boxes = found parent t.boxes w.apart w.distinct a.1 in
    let root : is_root k.key t ≡ false = not_root t w i k.key k.matches a.2 in
    let into : in_subtree same_key p.key k.key t.boxes ≡ false = sym (below_is t w i parent k.key p.key k.matches p.matches p.is) ∙ a.3 in
    let same : SamePlace before (place_of before t.boxes) t.boxes = same_place parent before t.boxes w.apart w.distinct a.4 in
    let place : is_not_a_child before p.key t ≡ false = place_accepted t w before parent p.key p.matches same a.4 in
    let other : is_before_itself k.key (place_of before t.boxes) ≡ false = other_place t w before i k.key k.matches same a.5 in
    let deep : is_too_deep (levels_of k.key t) p.key t ≡ false = not_deep (depth same_key p.key t.boxes + levels_of k.key t)
    (subst (λ x. x + levels_of k.key t ≤ max_depth) (depth-ids parent p.key t.boxes p.matches)
    (subst (λ x. depth bytes_eq parent (by_ids t.boxes) + x ≤ max_depth) (levels_are t w i k.key k.matches) a.6)) in
    rw (k.is, p.is, root, into, place, other, deep) refl
accepted n (SetStyle i c) t w a room = let k : Found i t.boxes = found i t.boxes w.apart w.distinct a.0 in rw (k.is, a.1) refl
accepted n (SetRect i r) t w a room = let k : Found i t.boxes = found i t.boxes w.apart w.distinct a.0 in rw (k.is, a.1) refl
accepted n (Shift i dx dy) t w a room =
    let k : Found i t.boxes = found i t.boxes w.apart w.distinct a.0 in
    let s : fits_shift dx dy k.key t.boxes ≡ true = shift-ids dx dy i k.key t.boxes w.apart k.matches k.there ∙ a.1 in
    rw (k.is, s) refl
accepted n (Scroll i x y) t w a room = let k : Found i t.boxes = found i t.boxes w.apart w.distinct a.0 in rw (k.is, a.1) refl

-- ---- and the other way round

off : (b : Bool) (f : EditFault) (more : Option EditFault) → cond b (Some f) more ≡ None → (b ≡ false) × (more ≡ None)
off true f more h = absurd (let no : Some f ≡ None = h in cc)
off false f more h = (refl, h)

yes : (b : Bool) → not b ≡ false → b ≡ true
yes true h = refl
yes false h = absurd (never true refl h)

some_of : (o : Option BoxKey) → is_none o ≡ false → (k : BoxKey) × (o ≡ Some k)
some_of None h = absurd (never true refl h)
some_of (Some k) h = (k, refl)

-- the box with a known id
known : (i : List ℕ) (t : Document) → IsProper t → is_unknown i t ≡ false → Found i t.boxes
known i t w h = let k = some_of (named i t.boxes) h in found_as i k.0 t.boxes w.apart w.distinct k.1

of_pair : (p : BoxKey → BoxKey → Bool) (i j : List ℕ) (t : Document) (k q : BoxKey) → named i t.boxes ≡ Some k → named j t.boxes ≡ Some q → is_pair p i j t ≡ false → p k q ≡ false
of_pair p i j t k q e g h = rw (e, g) at h

pub admitted : (e : Edit) (t : Document) → IsProper t → refusal_of t e ≡ None → IsAdmitted (1 + size (by_ids t.boxes)) e (by_ids t.boxes)
admitted (Insert i parent before rect style) t w h =
    let u1 = off (is_unknown parent t) UnknownParent _ h in
    let p : Found parent t.boxes = known parent t w u1.0 in
    let u2 = off (is_one (λ p. is_not_a_child before p t) parent t) NotAChild _ u1.1 in
    let u3 = off (is_known i t) DuplicateId _ u2.1 in
    let u4 = off (is_one (λ p. is_too_deep 1 p t) parent t) TooDeep _ u3.1 in
    let u5 = off (is_full t) TooMany _ u4.1 in
    let u6 = off (not (fits_rect rect) || not (fits style)) OutOfRange _ u5.1 in
    let place : is_not_a_child before p.key t ≡ false = rw p.is at u2.0 in
    let deep : is_too_deep 1 p.key t ≡ false = rw p.is at u4.0 in
    let fit : (not (fits_rect rect) ≡ false) × (not (fits style) ≡ false) = either (not (fits_rect rect)) (not (fits style)) u6.0 in (
      named_in parent p.key t.boxes p.is,
      place_given t w before parent p.key p.matches place,
      known_is i t.boxes ∙ u3.0,
      subst (λ x. x + 1 ≤ max_depth) (sym (depth-ids parent p.key t.boxes p.matches)) (not_too_deep (depth same_key p.key t.boxes + 1) deep),
      omega arith,
      yes (fits_rect rect) fit.0,
      yes (fits style) fit.1,
    )
admitted (Remove i) t w h =
    let u1 = off (is_unknown i t) UnknownId _ h in
    let k : Found i t.boxes = known i t w u1.0 in
    let u2 = off (is_one (λ k. is_root k t) i t) IsRoot _ u1.1 in
    let root : is_root k.key t ≡ false = rw k.is at u2.0 in
    (named_in i k.key t.boxes k.is, is_below t w i k.key k.matches root)
admitted (Move i parent before) t w h =
    let u1 = off (is_unknown i t) UnknownId _ h in
    let k : Found i t.boxes = known i t w u1.0 in
    let u2 = off (is_unknown parent t) UnknownParent _ u1.1 in
    let p : Found parent t.boxes = known parent t w u2.0 in
    let u3 = off (is_one (λ k. is_root k t) i t) IsRoot _ u2.1 in
    let u4 = off (is_pair (λ k p. in_subtree same_key p k t.boxes) i parent t) IntoItself _ u3.1 in
    let u5 = off (is_pair (λ k p. is_not_a_child before p t || is_before_itself k (place_of before t.boxes)) i parent t) NotAChild _ u4.1 in
    let u6 = off (is_pair (λ k p. is_too_deep (levels_of k t) p t) i parent t) TooDeep _ u5.1 in
    let root : is_root k.key t ≡ false = rw k.is at u3.0 in
    let into : in_subtree same_key p.key k.key t.boxes ≡ false = of_pair (λ k p. in_subtree same_key p k t.boxes) i parent t k.key p.key k.is p.is u4.0 in
    let places : (is_not_a_child before p.key t || is_before_itself k.key (place_of before t.boxes)) ≡ false = of_pair (λ k p. is_not_a_child before p t || is_before_itself k (place_of before t.boxes)) i parent t k.key p.key k.is p.is u5.0 in
    let place = either (is_not_a_child before p.key t) (is_before_itself k.key (place_of before t.boxes)) places in
    let deep : is_too_deep (levels_of k.key t) p.key t ≡ false = of_pair (λ k p. is_too_deep (levels_of k t) p t) i parent t k.key p.key k.is p.is u6.0 in (
      named_in i k.key t.boxes k.is,
      named_in parent p.key t.boxes p.is,
      is_below t w i k.key k.matches root,
      below_is t w i parent k.key p.key k.matches p.matches p.is ∙ into,
      place_given t w before parent p.key p.matches place.0,
      place_is_other t w before i k.key k.is place.1,
      subst (λ x. depth bytes_eq parent (by_ids t.boxes) + x ≤ max_depth) (sym (levels_are t w i k.key k.matches))
          (subst (λ x. x + levels_of k.key t ≤ max_depth) (sym (depth-ids parent p.key t.boxes p.matches)) (not_too_deep (depth same_key p.key t.boxes + levels_of k.key t) deep)),
    )
admitted (SetStyle i c) t w h =
    let u1 = off (is_unknown i t) UnknownId _ h in
    let k : Found i t.boxes = known i t w u1.0 in
    let u2 = off (not (fits_change c)) OutOfRange _ u1.1 in
    (named_in i k.key t.boxes k.is, yes (fits_change c) u2.0)
admitted (SetRect i r) t w h =
    let u1 = off (is_unknown i t) UnknownId _ h in
    let k : Found i t.boxes = known i t w u1.0 in
    let u2 = off (not (fits_rect r)) OutOfRange _ u1.1 in
    (named_in i k.key t.boxes k.is, yes (fits_rect r) u2.0)
admitted (Shift i dx dy) t w h =
    let u1 = off (is_unknown i t) UnknownId _ h in
    let k : Found i t.boxes = known i t w u1.0 in
    let u2 = off (is_one (λ k. not (fits_shift dx dy k t.boxes)) i t) OutOfRange _ u1.1 in
    let no : not (fits_shift dx dy k.key t.boxes) ≡ false = rw k.is at u2.0 in
    (named_in i k.key t.boxes k.is, sym (shift-ids dx dy i k.key t.boxes w.apart k.matches k.there) ∙ yes (fits_shift dx dy k.key t.boxes) no)
admitted (Scroll i x y) t w h =
    let s : Offset = record { x = x; y = y } in
    let u1 = off (is_unknown i t) UnknownId _ h in
    let k : Found i t.boxes = known i t w u1.0 in
    let u2 = off (not (fits_scroll s)) OutOfRange _ u1.1 in
    (named_in i k.key t.boxes k.is, yes (fits_scroll s) u2.0)

-- ---- what is done

place_left : (before : Option (List ℕ)) (o : Option BoxKey) (q : BoxKey) (f : BoxForest) → SamePlace before o f → SamePlace before o (without_branch same_key q f)
place_left None o q f s = s
place_left (Some b) o q f s = (s.0, s.1, matches-without b s.0 q f s.2)

pub acted-ids : (n : ℕ) (e : Edit) (t next : Document) → IsProper t → IsAdmitted n e (by_ids t.boxes) → IsEdited e t next → by_ids next.boxes ≡ acted e (by_ids t.boxes)
acted-ids n e t next w a h = (ap (λ u. by_ids u.boxes) h.2 ∙ touched-ids (touched_by h.0 t) (after h.0 t).boxes) ∙ go e a h.0 h.1 where
  f : BoxForest
  f = t.boxes

  go : (e : Edit) → IsAdmitted n e (by_ids t.boxes) → (c : Change) → IsNamed e t c → by_ids (after c t).boxes ≡ acted e (by_ids t.boxes)
  go (Insert i parent before rect style) a c h =
      ap (λ x. by_ids (after x t).boxes) h.4
      ∙ put-ids parent h.0 before (place_of before t.boxes) (tree h.1 (new_item i rect style) empty empty) t.boxes w.distinct (matches-named parent h.0 t.boxes w.apart w.distinct h.2)
      (same_place parent before t.boxes w.apart w.distinct a.1)
  go (Remove i) a c h = ap (λ x. by_ids (after x t).boxes) h.2 ∙ sym (without-ids i h.0 t.boxes (matches-named i h.0 t.boxes w.apart w.distinct h.1))
  go (Move i parent before) a c h =
      let k : BoxKey = h.0 in
      let p : BoxKey = h.1 in
      let m : Matches i k t.boxes = matches-named i k t.boxes w.apart w.distinct h.2 in
      let q : Matches parent p t.boxes = matches-named parent p t.boxes w.apart w.distinct h.3 in
      let g : BoxForest = without_branch same_key k t.boxes in
      let left : without_branch bytes_eq i (by_ids t.boxes) ≡ by_ids g = without-ids i k t.boxes m in
      let d : HasDistinctIds g = subst (λ z. IsApart bytes_eq z) left (apart_without bytes_eq bytes_same bytes_refl i (by_ids t.boxes) w.distinct) in
      ap (λ x. by_ids (after x t).boxes) h.4
      ∙ (put-ids parent p before (place_of before t.boxes) (branch same_key k t.boxes) g d (matches-without parent p k t.boxes q)
      (place_left before (place_of before t.boxes) k t.boxes (same_place parent before t.boxes w.apart w.distinct a.4))
      ∙ (ap (λ z. put bytes_eq parent before z (by_ids g)) (sym (branch-ids i k t.boxes m))
      ∙ ap (put bytes_eq parent before (branch bytes_eq i (by_ids t.boxes))) (sym left)))
  go (SetStyle i x) a c h =
      let m : Matches i h.0 t.boxes = matches-named i h.0 t.boxes w.apart w.distinct h.1 in
      ap (λ x. by_ids (after x t).boxes) h.2 ∙ (ap by_ids (one_is same_key same_key-sound same_key-refl h.0 (restyle x) t.boxes w.apart)
      ∙ change-ids i h.0 (restyle x) (style_looks x) (record { ids = λ d. refl; looks = λ d. refl }) t.boxes m)
  go (SetRect i r) a c h =
      let m : Matches i h.0 t.boxes = matches-named i h.0 t.boxes w.apart w.distinct h.1 in
      ap (λ x. by_ids (after x t).boxes) h.2 ∙ (ap by_ids (one_is same_key same_key-sound same_key-refl h.0 (with_rect r) t.boxes w.apart)
      ∙ change-ids i h.0 (with_rect r) (place_looks r) (record { ids = λ d. refl; looks = λ d. refl }) t.boxes m)
  go (Shift i dx dy) a c h =
      let m : Matches i h.0 t.boxes = matches-named i h.0 t.boxes w.apart w.distinct h.1 in
      ap (λ x. by_ids (after x t).boxes) h.2 ∙ (ap by_ids (subtree_is same_key same_key-sound same_key-refl h.0 (shift_item dx dy) t.boxes w.apart)
      ∙ change_all-ids i h.0 (shift_item dx dy) (shift_looks dx dy) (record { ids = λ d. refl; looks = λ d. refl }) t.boxes m)
  go (Scroll i x y) a c h =
      let s : Offset = record { x = x; y = y } in
      let m : Matches i h.0 t.boxes = matches-named i h.0 t.boxes w.apart w.distinct h.1 in
      ap (λ x. by_ids (after x t).boxes) h.2 ∙ (ap by_ids (one_is same_key same_key-sound same_key-refl h.0 (with_scroll s) t.boxes w.apart)
      ∙ change-ids i h.0 (with_scroll s) (scroll_looks s) (record { ids = λ d. refl; looks = λ d. refl }) t.boxes m)
