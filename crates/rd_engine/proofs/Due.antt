-- The invalid area of a paint.
use Rattle.std.proofs.Common.{◌≡◌, refl, ap, ◌∙◌, sym, subst, ℕ, zero, suc, ℤ, ◌≤◌, Bool, true, false, cond, ◌&&◌, ◌||◌, List, [], ◌∷◌, IsTrue, arith, ◌⊎◌, inl, inr, nat_eq, Contains, not, Some, None}
use Rattle.std.specs.List.{list_any}
use Rattle.std.proofs.lemmas.List.Elements.{All-contains}
use Rattle.rd_geom.specs.Plane.{holds_pixel}
use Rattle.rd_geom.specs.Canvas.{IsCanvas, canvas_of}
use Rattle.rd_geom.specs.Areas.{Region, in_area, meets_area, count_of}
use Rattle.rd_geom.proofs.Areas.{meets_area-same, shares-meets_area}
use Rattle.rd_geom.proofs.Pixels.{left_of}
use Rattle.rd_keys.specs.Keys.{same_key}
use Rattle.rd_graph.proofs.Lists.Listing.{Has, has_from}
use Rattle.rd_item.specs.declared.leaf.Leaf.{Leaf}
use Rattle.rd_list.specs.Entries.{flat, only}
use Rattle.rd_list.specs.EntryNames.{entry_names, kept_leaves}
use Rattle.rd_list.specs.Laws.{IsCovered}
use Rattle.rd_list.specs.Lists.{meeting, leaves_meet}
use Rattle.rd_list.proofs.Merges.Naming.{covering}
use Rattle.rd_tree.specs.Forest.{IsApart}
use Rattle.rd_tree.specs.declared.node.Item.{Item}
use Rattle.rd_tree.specs.Document.{BoxForest, is_touched}
use Rattle.rd_tree.specs.Drawn.{drawn}
use Rattle.rd_stack.specs.Fresh.{fresh_list}
use Rattle.rd_stack.specs.Laws.{IsOnCanvas}
use Rattle.rd_stack.proofs.Promises.{shows_on_canvas}
use Rattle.rd_partial.specs.Looks.{looks_bound, holds_touched, is_near, is_visited, hull_at}
use Rattle.rd_partial.specs.Invalid.{is_invalid, any_shows, shows_touched}
use Rattle.rd_partial.proofs.Visits.{looks}
use Rattle.rd_engine.specs.Kept.{stays}
use Rattle.rd_engine.specs.State.{EngineState}
use Rattle.rd_engine.specs.Invalid.{is_due, painted_list, invalid_area}
use Rattle.rd_engine.specs.Painted.{remade}
use Rattle.rd_engine.specs.Internal.Parts.{IsInvalidArea}
use Rattle.rd_engine.proofs.Regions.{in_region, same_count}

at_first : {A : Type 0} (n : ℕ) (a b : A) → n ≡ 0 → cond (nat_eq n 0) a b ≡ a
at_first zero a b h = refl
at_first (suc n) a b h = absurd (omega (arith, h))

at_later : {A : Type 0} (n : ℕ) (a b : A) → (n ≡ 0 → ⊥) → cond (nat_eq n 0) a b ≡ b
at_later n a b h = let e : nat_eq n 0 ≡ false = grind arith in rw e refl

first_due : (s : EngineState) (x y : ℤ) → s.paints ≡ 0 → is_due (painted_list s) s.tree x y ≡ holds_pixel (canvas_of s.tree.canvas) x y
first_due s x y e = ap (λ o. is_due o s.tree x y) (at_first s.paints None (Some (kept_leaves s.kept.entries)) e)

later_due : (s : EngineState) (x y : ℤ) → (s.paints ≡ 0 → ⊥) → is_due (painted_list s) s.tree x y ≡ is_invalid s.tree (kept_leaves s.kept.entries) x y
later_due s x y n = ap (λ o. is_due o s.tree x y) (at_later s.paints None (Some (kept_leaves s.kept.entries)) n)

zero_or_not : (n : ℕ) → (n ≡ 0) ⊎ (n ≡ 0 → ⊥)
zero_or_not zero = inl refl
zero_or_not (suc n) = inr (λ e. omega (arith, e))

pub any_has : {A : Type 0} (p : A → Bool) (xs : List A) (x : A) → Has xs x → p x ≡ true → list_any p xs ≡ true
any_has p (y ∷ ys) x (inl e) h = left (p y) (list_any p ys) (subst (λ z. p z ≡ true) (sym e) h)
  where
    left : (a b : Bool) → a ≡ true → (a || b) ≡ true
    left true b k = refl
    left false b k = absurd (let no : false ≡ true = k in cc)
any_has p (y ∷ ys) x (inr k) h = right (p y) (list_any p ys) (any_has p ys x k h)
  where
    right : (a b : Bool) → b ≡ true → (a || b) ≡ true
    right true b k = refl
    right false b k = k
any_has p [] x h k = absurd h

both : (a b : Bool) → a ≡ true → b ≡ true → (a && b) ≡ true
both true b h k = k
both false b h k = absurd (let no : false ≡ true = h in cc)

first_of : (a b : Bool) → a ≡ true → (a || b) ≡ true
first_of true b h = refl
first_of false b h = absurd (let no : false ≡ true = h in cc)

second_of : (a b : Bool) → b ≡ true → (a || b) ≡ true
second_of true b h = refl
second_of false b h = h

untrue : (b : Bool) → not b ≡ false → b ≡ true
untrue true h = refl
untrue false h = absurd (let no : true ≡ false = h in cc)

module _ (s : EngineState) (canvas : IsCanvas s.tree.canvas) where
  due_on : (x y : ℤ) → is_due (painted_list s) s.tree x y ≡ true → holds_pixel (canvas_of s.tree.canvas) x y ≡ true
  due_on x y h = elim (zero_or_not s.paints) [
    | inl e ↦ sym (first_due s x y e) ∙ h
    | inr n ↦
        left_of (holds_pixel (canvas_of s.tree.canvas) x y) (any_shows s.tree (kept_leaves s.kept.entries) x y || any_shows s.tree (fresh_list s.tree) x y)
        (sym (later_due s x y n) ∙ h)
  ]

  -- the invalid area has just the pixels that are due
  pub in_invalid : (x y : ℤ) → in_area (invalid_area s) x y ≡ is_due (painted_list s) s.tree x y
  in_invalid x y = in_region (is_due (painted_list s) s.tree) s.tree.canvas canvas due_on x y

  pub first_area : (a : Region) → s.paints ≡ 0 → a.size ≡ s.tree.canvas → ((x y : ℤ) → in_area a x y ≡ holds_pixel (canvas_of s.tree.canvas) x y) → IsInvalidArea s a
  first_area a e z h = record {
    size = z;
    pixels = λ x y. h x y ∙ sym (first_due s x y e) ∙ sym (in_invalid x y);
  }

  pub later_area : (a : Region) → (s.paints ≡ 0 → ⊥) → a.size ≡ s.tree.canvas → ((x y : ℤ) → in_area a x y ≡ is_invalid s.tree (kept_leaves s.kept.entries) x y) → IsInvalidArea s a
  later_area a n z h = record {
    size = z;
    pixels = λ x y. h x y ∙ sym (later_due s x y n) ∙ sym (in_invalid x y);
  }

  -- before the first paint every pixel of the canvas is in it
  pub all_due : (x y : ℤ) → s.paints ≡ 0 → holds_pixel (canvas_of s.tree.canvas) x y ≡ true → in_area (invalid_area s) x y ≡ true
  all_due x y e h = in_invalid x y ∙ first_due s x y e ∙ h

  -- and at any time those of the visible rectangle of a leaf of a touched box
  module _ (l : Leaf) (on : IsOnCanvas (canvas_of s.tree.canvas) l) (goes : stays s.tree l ≡ false) (x y : ℤ) (shows : IsTrue (holds_pixel l.visible x y)) where
    shown : shows_touched (λ k. is_touched k s.tree.boxes) x y l ≡ true
    shown = both (is_touched l.owner s.tree.boxes) (holds_pixel l.visible x y) (untrue (is_touched l.owner s.tree.boxes) goes) shows

    due : (any_shows s.tree (kept_leaves s.kept.entries) x y || any_shows s.tree (fresh_list s.tree) x y) ≡ true → in_area (invalid_area s) x y ≡ true
    due h = elim (zero_or_not s.paints) [
      | inl e ↦ all_due x y e (on.within x y shows)
      | inr n ↦
          in_invalid x y ∙ later_due s x y n
          ∙ both (holds_pixel (canvas_of s.tree.canvas) x y) (any_shows s.tree (kept_leaves s.kept.entries) x y || any_shows s.tree (fresh_list s.tree) x y) (on.within x y shows) h
    ]

    pub due_before : Contains (flat (kept_leaves s.kept.entries)) l → in_area (invalid_area s) x y ≡ true
    due_before c =
        due (first_of (any_shows s.tree (kept_leaves s.kept.entries) x y) (any_shows s.tree (fresh_list s.tree) x y)
        (any_has (shows_touched (λ k. is_touched k s.tree.boxes) x y) (flat (kept_leaves s.kept.entries)) l (has_from (flat (kept_leaves s.kept.entries)) l c) shown))

    pub due_now : Contains (flat (fresh_list s.tree)) l → in_area (invalid_area s) x y ≡ true
    due_now c =
        due (second_of (any_shows s.tree (kept_leaves s.kept.entries) x y) (any_shows s.tree (fresh_list s.tree) x y)
        (any_has (shows_touched (λ k. is_touched k s.tree.boxes) x y) (flat (fresh_list s.tree)) l (has_from (flat (fresh_list s.tree)) l c) shown))

  -- so it covers what goes
  pub covered : IsApart same_key s.tree.boxes → IsCovered entry_names leaves_meet (stays s.tree) (λ l. meets_area (invalid_area s) l.visible) (fresh_list s.tree)
  covered apart =
      let on : (l : Leaf) → Contains (flat (fresh_list s.tree)) l → IsOnCanvas (canvas_of s.tree.canvas) l =
      λ l c. All-contains (IsOnCanvas (canvas_of s.tree.canvas)) (flat (fresh_list s.tree)) l (shows_on_canvas s.tree apart) c in
      covering (fresh_list s.tree) (stays s.tree) (λ l. meets_area (invalid_area s) l.visible) (in_area (invalid_area s))
      (λ l x y h k. shares-meets_area (invalid_area s) l.visible (record { x = x; y = y; first = h; second = k }))
      (λ l c. (on l c).some)
      (λ l c f x y h. due_now l (on l c) f x y h c)

-- ---- an area of these pixels serves in its place

module _ (s : EngineState) (a : Region) (is : IsInvalidArea s a) where
  pub same_remade : meeting a (fresh_list s.tree) ≡ remade s
  same_remade = ap (λ (p : Leaf → Bool). only p (fresh_list s.tree)) (λ i l. meets_area-same a (invalid_area s) l.visible is.pixels i)

  pub same_pixels : count_of a ≡ count_of (invalid_area s)
  same_pixels = same_count a (invalid_area s) is.size is.pixels

  near : (d : Item) (below : BoxForest) → is_near a d below ≡ true → is_visited (invalid_area s) d below ≡ true
  near d below h = second_of (holds_touched d below) (is_near (invalid_area s) d below) (sym (meets_area-same a (invalid_area s) (hull_at d below) is.pixels) ∙ h)

  pub near_looks : looks_bound (is_near a) (drawn s.tree).boxes ≤ looks_bound (is_visited (invalid_area s)) (drawn s.tree).boxes
  near_looks = looks (is_near a) (is_visited (invalid_area s)) near (drawn s.tree).boxes

pub touched_looks : (s : EngineState) → looks_bound holds_touched (drawn s.tree).boxes ≤ looks_bound (is_visited (invalid_area s)) (drawn s.tree).boxes
touched_looks s = looks holds_touched (is_visited (invalid_area s)) (λ d below h. first_of (holds_touched d below) (is_near (invalid_area s) d below) h) (drawn s.tree).boxes
