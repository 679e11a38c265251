-- Boxes that come back unscrolled, and are then scrolled to where they were.
use Rattle.std.proofs.Common.{◌≡◌, refl, ap, ◌∙◌, sym, subst, ℕ, ℤ, pos, Bool, true, false, ◌||◌, ◌&&◌, arith, List, ◌++◌, int_eq, inl, inr, bytes_eq, append_assoc}
use Rattle.std.proofs.lemmas.Int.{ints}
use Rattle.std.specs.Prelude.{Option, Some, None}
use Rattle.rd_geom.specs.Plane.{Rectangle}
use Rattle.rd_style.specs.declared.styles.Style.{Style}
use Rattle.rd_tree.specs.Forest.{Forest, empty, tree, ◌▷◌, size, height, has, insert_among, AllItems, AreApart, IsApart}
use Rattle.rd_tree.specs.ByIds.{Looks, IdForest}
use Rattle.rd_tree.specs.Internal.Laid.{each_by}
use Rattle.rd_tree.proofs.Linking.Standing.{cases, never, either, from_left, from_right, differs, apart_back}
use Rattle.rd_tree.proofs.Forests.ByKey.{size-by, height-by, has-by, apart_by}
use Rattle.rd_tree.proofs.Offsets.{fits_none}
use Rattle.rd_tree.proofs.Nodes.Naming.{bytes_same, bytes_refl}
use Rattle.rd_edits.specs.declared.edit.Edit.{Edit}
use Rattle.rd_undo.specs.Inverse.{insertions, is_unscrolled, rescrolling, rescrollings}
use Rattle.rd_undo.proofs.Put.{put, has-put}
use Rattle.rd_undo.proofs.Items.{change_at, no_change}
use Rattle.rd_undo.proofs.Found.{LooksFit}
use Rattle.rd_undo.proofs.Acting.{looks_as, new_looks, scroll_looks}
use Rattle.rd_undo.proofs.Leading.{Leads, stilled, IsStill}

-- ---- a box that changes in what is put

module _ {K D : Type 0} (same : K → K → Bool) where
  -- with the item of one box changed
  abbrev pub one_changed : K → (D → D) → Forest K D → Forest K D
  one_changed i g f = change_at same i g (λ z. z) f

  first-changed : (i : K) (g : D → D) (a b : Forest K D) → has same i b ≡ false → one_changed i g (a ▷ b) ≡ one_changed i g a ▷ b
  first-changed i g empty b h = no_change same i g (λ z. z) b h
  first-changed i g (tree k d low rest) b h =
      elim (cases (same i k)) [
        | inl e ↦ rw e refl
        | inr e ↦ rw (e, first-changed i g rest b h) refl
      ]

  last-changed : (i : K) (g : D → D) (a b : Forest K D) → has same i a ≡ false → one_changed i g (a ▷ b) ≡ a ▷ one_changed i g b
  last-changed i g empty b h = refl
  last-changed i g (tree k d low rest) b h =
      let s : (same i k ≡ false) × ((has same i low || has same i rest) ≡ false) = either (same i k) (has same i low || has same i rest) h in
      let t : (has same i low ≡ false) × (has same i rest ≡ false) = either (has same i low) (has same i rest) s.1 in
      rw (s.0, no_change same i g (λ z. z) low t.0, last-changed i g rest b t.1) refl

  among-changed : (i : K) (g : D → D) (o : Option K) (y f : Forest K D) → has same i f ≡ false → one_changed i g (insert_among same o y f) ≡ insert_among same o (one_changed i g y) f
  among-changed i g None y f h = last-changed i g f y h
  among-changed i g (Some j) y empty h = refl
  among-changed i g (Some j) y (tree k d low rest) h =
      let s : (same i k ≡ false) × ((has same i low || has same i rest) ≡ false) = either (same i k) (has same i low || has same i rest) h in
      let t : (has same i low ≡ false) × (has same i rest ≡ false) = either (has same i low) (has same i rest) s.1 in
      elim (cases (same j k)) [
        | inl e ↦ rw e (first-changed i g y (tree k d low rest) h)
        | inr e ↦ rw e (rw (s.0, no_change same i g (λ z. z) low t.0, among-changed i g (Some j) y rest t.1) refl)
      ]

  pub put-changed : (i p : K) (g : D → D) (o : Option K) (y f : Forest K D) → has same i f ≡ false → one_changed i g (put same p o y f) ≡ put same p o (one_changed i g y) f
  put-changed i p g o y empty h = refl
  put-changed i p g o y (tree k d low rest) h =
      let s : (same i k ≡ false) × ((has same i low || has same i rest) ≡ false) = either (same i k) (has same i low || has same i rest) h in
      let t : (has same i low ≡ false) × (has same i rest ≡ false) = either (has same i low) (has same i rest) s.1 in
      elim (cases (same p k)) [
        | inl e ↦ rw e (rw (s.0, among-changed i g o y low t.0, no_change same i g (λ z. z) rest t.1) refl)
        | inr e ↦ rw e (rw (s.0, put-changed i p g o y low t.0, put-changed i p g o y rest t.1) refl)
      ]

  here-changed : (i : K) (g : D → D) (d : D) (low rest : Forest K D) → same i i ≡ true → one_changed i g (tree i d low rest) ≡ tree i (g d) low rest
  here-changed i g d low rest e = rw e refl

  other-changed : (j i : K) (g : D → D) (d : D) (low rest : Forest K D) → same j i ≡ false → one_changed j g (tree i d low rest) ≡ tree i d (one_changed j g low) (one_changed j g rest)
  other-changed j i g d low rest e = rw e refl

-- ---- boxes without their scroll offsets

abbrev pub all_still : IdForest → IdForest
all_still f = each_by (λ (i : List ℕ) (d : Looks). stilled d) f

pub insertions-still : (parent : List ℕ) (f : IdForest) → insertions parent (all_still f) ≡ insertions parent f
insertions-still parent empty = refl
insertions-still parent (tree i d low rest) = rw (insertions-still i low, insertions-still parent rest) refl

pub still_fit : (f : IdForest) → AllItems LooksFit f → AllItems LooksFit (all_still f)
still_fit empty a = tt
still_fit (tree i d low rest) a = ((a.0.0, a.0.1, fits_none), still_fit low a.1, still_fit rest a.2)

pub still_still : (f : IdForest) → AllItems IsStill (all_still f)
still_still empty = tt
still_still (tree i d low rest) = (refl, still_still low, still_still rest)

pub has-still : (j : List ℕ) (f : IdForest) → has bytes_eq j (all_still f) ≡ has bytes_eq j f
has-still j f = has-by (λ (i : List ℕ) (d : Looks). stilled d) bytes_eq j f

pub size-still : (f : IdForest) → size (all_still f) ≡ size f
size-still f = size-by (λ (i : List ℕ) (d : Looks). stilled d) f

pub height-still : (f : IdForest) → height (all_still f) ≡ height f
height-still f = height-by (λ (i : List ℕ) (d : Looks). stilled d) f

pub apart_still : (f : IdForest) → IsApart bytes_eq f → IsApart bytes_eq (all_still f)
apart_still f a = apart_by (λ (i : List ℕ) (d : Looks). stilled d) bytes_eq f a

both : (a b : Bool) → (a && b) ≡ true → (a ≡ true) × (b ≡ true)
both true b h = (refl, h)
both false b h = absurd (never false h refl)

is_zero : (z : ℤ) → int_eq z (pos 0) ≡ true → z ≡ pos 0
is_zero z h = grind (arith, ints)

zeros : (r : Rectangle) (s : Style) (x y : ℤ) → x ≡ pos 0 → y ≡ pos 0 → new_looks r s ≡ looks_as r s (record { x = x; y = y })
zeros r s x y a b = rw (a, b) refl

-- A box that is not scrolled stays as it is.
unscrolled_is : (d : Looks) → is_unscrolled d.scroll ≡ true → stilled d ≡ d
unscrolled_is d h =
    let p = both (int_eq d.scroll.x (pos 0)) (int_eq d.scroll.y (pos 0)) h in
    zeros d.rect d.style d.scroll.x d.scroll.y (is_zero d.scroll.x p.0) (is_zero d.scroll.y p.1)

-- ---- the scroll offsets come back

abbrev id_changed : List ℕ → (Looks → Looks) → IdForest → IdForest
id_changed i g f = one_changed bytes_eq i g f

-- Boxes stand somewhere in a tree: what stands there is in it, and to change a box of theirs is to change it there.
pub record IsPlaced (x : IdForest) (at : IdForest → IdForest) : Type 0 where
  pub there : (i : List ℕ) (y : IdForest) → has bytes_eq i y ≡ true → has bytes_eq i (at y) ≡ true
  pub changes : (i : List ℕ) (g : Looks → Looks) (y : IdForest) → has bytes_eq i x ≡ true → id_changed i g (at y) ≡ at (id_changed i g y)

pub put_placed : (p : List ℕ) (o : Option (List ℕ)) (x f : IdForest) → has bytes_eq p f ≡ true → AreApart bytes_eq f x → IsPlaced x (λ y. put bytes_eq p o y f)
put_placed p o x f m away = record {
  there = λ i y u. has-put bytes_eq bytes_same bytes_refl i p o y f m ∙ from_right (has bytes_eq i f) (has bytes_eq i y) u;
  changes = λ i g y u. put-changed bytes_eq i p g o y f (apart_back bytes_eq bytes_same bytes_refl f x away i u);
}

-- One box is scrolled to where it was.
one_back : (n : ℕ) (i : List ℕ) (d : Looks) (low rest x : IdForest) (at : IdForest → IdForest) (es : List Edit) (h : IdForest) → LooksFit d → has bytes_eq i x ≡ true → IsPlaced x at
    → Leads n es (at (tree i d low rest)) h → Leads n (rescrolling i d.scroll ++ es) (at (tree i (stilled d) low rest)) h
one_back n i d low rest x at es h fit m w l =
    elim (cases (is_unscrolled d.scroll)) [
      | inl e ↦ rw e (subst (λ z. Leads n es (at (tree i z low rest)) h) (sym (unscrolled_is d e)) l)
      | inr e ↦ rw e ((there, fit.2), tt, subst (λ z. Leads n es z h) (sym moved) l)
    ]
  where
    there : has bytes_eq i (at (tree i (stilled d) low rest)) ≡ true
    there = w.there i (tree i (stilled d) low rest) (from_left (bytes_eq i i) (has bytes_eq i low || has bytes_eq i rest) (bytes_refl i))

    moved : id_changed i (scroll_looks d.scroll) (at (tree i (stilled d) low rest)) ≡ at (tree i d low rest)
    moved = w.changes i (scroll_looks d.scroll) (tree i (stilled d) low rest) m ∙ ap at (here-changed bytes_eq i (scroll_looks d.scroll) (stilled d) low rest (bytes_refl i))

pub scrolled_back : (n : ℕ) (x : IdForest) (at : IdForest → IdForest) (es : List Edit) (h : IdForest) → IsApart bytes_eq x → AllItems LooksFit x → IsPlaced x at → Leads n es (at x) h
    → Leads n (rescrollings x ++ es) (at (all_still x)) h
scrolled_back n empty at es h a fit w l = l
scrolled_back n (tree i d low rest) at es h a fit w l =
    let in_low : (j : List ℕ) (l r : IdForest) → has bytes_eq j l ≡ true → has bytes_eq j (tree i d l r) ≡ true = λ j l r u.
    from_right (bytes_eq j i) (has bytes_eq j l || has bytes_eq j r) (from_left (has bytes_eq j l) (has bytes_eq j r) u) in
    let in_rest : (j : List ℕ) (l r : IdForest) → has bytes_eq j r ≡ true → has bytes_eq j (tree i d l r) ≡ true = λ j l r u.
    from_right (bytes_eq j i) (has bytes_eq j l || has bytes_eq j r) (from_right (has bytes_eq j l) (has bytes_eq j r) u) in
    let still_rest : IdForest = all_still rest in
    let w_low : IsPlaced low (λ y. at (tree i d y still_rest)) = record {
      there = λ j y u. w.there j (tree i d y still_rest) (in_low j y still_rest u);
      changes = λ j g y u. w.changes j g (tree i d y still_rest) (in_low j low rest u)
          ∙ ap at (other-changed bytes_eq j i g d y still_rest (differs bytes_eq bytes_same bytes_refl low j i u a.0)
          ∙ ap (tree i d (id_changed j g y)) (no_change bytes_eq j g (λ z. z) still_rest (has-still j rest ∙ a.2 j u)));
    } in
    let w_rest : IsPlaced rest (λ y. at (tree i d low y)) = record {
      there = λ j y u. w.there j (tree i d low y) (in_rest j low y u);
      changes = λ j g y u. w.changes j g (tree i d low y) (in_rest j low rest u)
          ∙ ap at (other-changed bytes_eq j i g d low y (differs bytes_eq bytes_same bytes_refl rest j i u a.1)
          ∙ ap (λ z. tree i d z (id_changed j g y)) (no_change bytes_eq j g (λ z. z) low (apart_back bytes_eq bytes_same bytes_refl low rest a.2 j u)));
    } in
    let last : Leads n (rescrollings rest ++ es) (at (tree i d low still_rest)) h = scrolled_back n rest (λ y. at (tree i d low y)) es h a.4 fit.2 w_rest l in
    let later : Leads n (rescrollings low ++ (rescrollings rest ++ es)) (at (tree i d (all_still low) still_rest)) h =
    scrolled_back n low (λ y. at (tree i d y still_rest)) (rescrollings rest ++ es) h a.3 fit.1 w_low last in
    let here : has bytes_eq i (tree i d low rest) ≡ true = from_left (bytes_eq i i) (has bytes_eq i low || has bytes_eq i rest) (bytes_refl i) in
    let all : Leads n (rescrolling i d.scroll ++ (rescrollings low ++ (rescrollings rest ++ es))) (at (tree i (stilled d) (all_still low) still_rest)) h =
    one_back n i d (all_still low) still_rest (tree i d low rest) at (rescrollings low ++ (rescrollings rest ++ es)) h fit.0 here w later in
    let joined : (rescrolling i d.scroll ++ (rescrollings low ++ rescrollings rest)) ++ es ≡ rescrolling i d.scroll ++ (rescrollings low ++ (rescrollings rest ++ es)) =
    append_assoc (rescrolling i d.scroll) (rescrollings low ++ rescrollings rest) es ∙ ap (λ z. rescrolling i d.scroll ++ z) (append_assoc (rescrollings low) (rescrollings rest) es) in
    subst (λ z. Leads n z (at (all_still (tree i d low rest))) h) (sym joined) all
