-- A new box, and what is handed to it.
use Rattle.std.proofs.Common.{◌≡◌, refl, ap, ◌∙◌, sym, subst, ℕ, zero, suc, ℤ, pos, ◌+◌, ◌<◌, ◌≤◌, true, false, ◌||◌, ◌&&◌, cond, List, [], ◌∷◌, ◌++◌, length, inl, inr, arith}
use Rattle.std.proofs.lemmas.Int.{ints}
use Rattle.std.proofs.lemmas.List.{length-set, length-append}
use Rattle.std.specs.Prelude.{◌+ℤ◌, ◌-ℤ◌, ◌==◌, nat_lt, slice_index_or, slice_set, Option, Some}
use Rattle.rd_geom.specs.Plane.{Rectangle}
use Rattle.rd_style.specs.declared.styles.Style.{Style}
use Rattle.rd_style.specs.declared.kinds.Position.{Position}
use Rattle.rd_style.specs.declared.kinds.Position.TheVariants as position
use Rattle.rd_style.specs.Limits.{FitsRect, Fits}
use Rattle.rd_keys.specs.Keys.{same_key}
use Rattle.rd_keys.proofs.Keys.{same_key-sound, same_key-refl}
use Rattle.rd_tree.specs.declared.handed.ScrollSums.{ScrollSums}
use Rattle.rd_tree.specs.declared.scroll.Scroll.{Scroll}
use Rattle.rd_tree.specs.Forest.{empty, tree, has, item_of, children, insert_among, IsApart, IsPlaceIn}
use Rattle.rd_tree.specs.Document.{Document, Slot, BoxKey, Item, contains, AllFit, IsKeyed, IsNextOf, slot_of, with_child, with_taken}
use Rattle.rd_tree.specs.Limits.{FitsScroll}
use Rattle.rd_tree.specs.Changes.{unscrolled, insertion, new_item, with_rect}
use Rattle.rd_tree.specs.Drawn.{scrolled_by}
use Rattle.rd_tree.specs.Touching.{touch, touched_by, edited}
use Rattle.rd_tree.specs.Internal.Handing.{offset_in}
use Rattle.rd_tree.specs.Internal.Hands.{hand_at, PutsHand}
use Rattle.rd_tree.specs.Internal.Redraws.{drawn_anew}
use Rattle.rd_tree.specs.Internal.Laid.{laid_at, laid_by, laid_tree, unhanded, passed_from, AreHanded, IsHanding}
use Rattle.rd_tree.proofs.Linking.Standing.{cases, never, refute, from_left, from_right, differs}
use Rattle.rd_tree.proofs.Forests.ByKey.{by_items}
use Rattle.rd_tree.proofs.Summaries.Placed.{has-with_child}
use Rattle.rd_tree.proofs.Nodes.Each.{has-each}
use Rattle.rd_tree.proofs.Laying.Laid.{inserted-laid}
use Rattle.rd_tree.proofs.Laying.Rows.{inside_of, handed_where, handed_rows, handed_put, handed_among, handed_children}
use Rattle.rd_tree.proofs.Laying.Fits.{fit_inserted}
use Rattle.rd_tree.proofs.Laying.Kept.{IsTold, handing}

equal : (s t : ℕ) → (s == t) ≡ true → s ≡ t
equal s t e = grind arith

alike : (s t g h : ℕ) → s ≡ t → g ≡ h → ((s == t) && (g == h)) ≡ true
alike s t g h e f = grind arith

off : (s t g h : ℕ) → (s == t) ≡ false → ((s == t) && (g == h)) ≡ false
off s t g h e = grind arith

-- A slot has one box.
one_slot : (u : Document) → IsKeyed u → (i j : BoxKey) → contains u i ≡ true → contains u j ≡ true → i.slot ≡ j.slot → same_key i j ≡ true
one_slot u q i j m n e =
    let a : slot_of u.slots i ≡ record { generation = i.generation; taken = true } = (q i m).1 in
    let b : slot_of u.slots j ≡ record { generation = j.generation; taken = true } = (q j n).1 in
    let s : slot_of u.slots i ≡ slot_of u.slots j = ap (λ z. slice_index_or u.slots z (record { generation = 0; taken = false })) e in
    let g : i.generation ≡ j.generation = ap (λ y. y.generation) (sym a ∙ (s ∙ b)) in
    alike i.slot j.slot i.generation j.generation e g

pub puts_key : (u : Document) → IsKeyed u → (old new : List ScrollSums) (j : BoxKey) (h : ScrollSums) → PutsHand old new j h → contains u j ≡ true → (i : BoxKey) → contains u i ≡ true
    → hand_at new i ≡ cond (same_key i j) h (hand_at old i)
puts_key u q old new j h p n i m =
    elim (cases (i.slot == j.slot)) [
      | inl e ↦ let s : same_key i j ≡ true = one_slot u q i j m n (equal i.slot j.slot e) in p i ∙ ((λ x. cond (e x) h (hand_at old i)) ∙ (λ x. cond (sym s x) h (hand_at old i)))
      | inr e ↦ let s : same_key i j ≡ false = off i.slot j.slot i.generation j.generation e in p i ∙ ((λ x. cond (e x) h (hand_at old i)) ∙ (λ x. cond (sym s x) h (hand_at old i)))
    ]

-- The next key is that of no box.
pub new_key : (t : Document) → IsKeyed t → (j : BoxKey) → IsNextOf t.slots j → contains t j ≡ false
new_key t q j w = refute (contains t j) (λ u. by w (q j u)) where
  by : IsNextOf t.slots j → (j.slot < length t.slots) × (slot_of t.slots j ≡ record { generation = j.generation; taken = true }) → ⊥
  by (inl x) y = never true refl (ap (λ s. s.taken) (sym y.1 ∙ x.1))
  by (inr x) y = absurd (omega (arith, x.0, y.0))

less_yes : (a b : ℕ) → a < b → nat_lt a b ≡ true
less_yes a b h = grind arith

less_no : (a b : ℕ) → a ≡ b → nat_lt a b ≡ false
less_no a b h = grind arith

-- There are rows for the slots.
pub rows_for : (slots : List Slot) (j : BoxKey) (n m : ℕ) → IsNextOf slots j → length slots ≤ n → n ≤ m → j.slot < m → length (with_taken slots j) ≤ m
rows_for slots j n m (inl w) a b c =
    let y : Slot = record { generation = j.generation; taken = true } in
    let s : length (slice_set slots j.slot y) ≡ length slots = length-set slots j.slot y in
    rw (less_yes j.slot (length slots) w.0) (omega (arith, s, a, b))
rows_for slots j n m (inr w) a b c =
    let y : Slot = record { generation = j.generation; taken = true } in
    let s : length (slots ++ y ∷ []) ≡ length slots + 1 = length-append slots (y ∷ []) in
    rw (less_no j.slot (length slots) w.0) (omega (arith, s, w.0, c))

back_and_there : (x o : ℤ) → ((x +ℤ pos 0) -ℤ o) +ℤ o ≡ x
back_and_there x o = omega (arith, ints)

plus_none : (x : ℤ) → x +ℤ pos 0 ≡ x
plus_none x = omega (arith, ints)

-- A box that was not scrolled yet is drawn less how far it is scrolled.
pub from-none : (o : Scroll) (r : Rectangle) → drawn_anew unscrolled o r ≡ scrolled_by o r
from-none o r = λ i. record r { x = plus_none r.x i -ℤ o.x; y = plus_none r.y i -ℤ o.y }

module _ (t u : Document) (rows next : List ScrollSums) (k : IsTold t) (h : IsHanding t rows) (v : IsTold u) (p : BoxKey) (before : Option BoxKey) (j : BoxKey) (id : List ℕ) (q : Rectangle) (s : Style)
    (inside : ScrollSums) (m : contains t p ≡ true) (place : IsPlaceIn same_key before (children same_key p t.boxes)) (new : contains t j ≡ false)
    (is : inside ≡ passed_from (same_key p t.root) (hand_at rows p) (item_of same_key p t.boxes)) (put : PutsHand rows next j inside)
    (e : u ≡ edited (insertion p before j (new_item id (drawn_anew unscrolled (offset_in inside s.position) q) s)) t) where
  abbrev item : Item
  item = new_item id (drawn_anew unscrolled (offset_in inside s.position) q) s

  has_is : (i : BoxKey) → contains u i ≡ (has same_key i t.boxes || same_key i j)
  has_is i = ap (λ z. contains z i) e ∙ (has-each (touched_by (insertion p before j item) t) touch same_key i (with_child p before j item t.boxes)
      ∙ has-with_child p before j item t.boxes k.apart m place new i)

  at_new : hand_at next j ≡ inside
  at_new = puts_key u v.keyed rows next j inside put here j here ∙ rw (same_key-refl j) refl where
    here : contains u j ≡ true
    here = has_is j ∙ from_right (has same_key j t.boxes) (same_key j j) (same_key-refl j)

  at_old : (i : BoxKey) → has same_key i t.boxes ≡ true → hand_at next i ≡ hand_at rows i
  at_old i w =
      puts_key u v.keyed rows next j inside put (has_is j ∙ from_right (has same_key j t.boxes) (same_key j j) (same_key-refl j)) i (has_is i ∙ from_left (has same_key i t.boxes) (same_key i j) w)
      ∙ rw (differs same_key same_key-sound same_key-refl t.boxes i j w new) refl

  same_laid : laid_tree next t ≡ laid_tree rows t
  same_laid = ap (λ f. record t { boxes = f }) (by_items same_key same_key-refl (λ i d. laid_at (hand_at next i) d) (λ i d. laid_at (hand_at rows i) d) t.boxes
      (λ i d w. ap (λ z. laid_at z d) (at_old i w)))

  new_laid : laid_at (hand_at next j) item ≡ new_item id q s
  new_laid = ap (λ z. laid_at z item) at_new ∙ (λ i. record item { rect = record q { x = back_and_there q.x (offset_in inside s.position).x i; y = back_and_there q.y (offset_in inside s.position).y i } })

  pub added_laid : laid_tree next u ≡ edited (insertion p before j (new_item id q s)) (laid_tree rows t)
  added_laid = ap (laid_tree next) e ∙ (inserted-laid next t p before j item ∙ (λ i. edited (insertion p before j (new_laid i)) (same_laid i)))

  added_right : AreHanded next t.root unhanded (edited (insertion p before j item) t).boxes
  added_right =
      let again : AreHanded next t.root unhanded t.boxes = handed_rows rows next t.root unhanded t.boxes at_old h.right in
      handed_where next t.root (touched_by (insertion p before j item) t) touch (λ d. refl) (λ d. refl) unhanded (with_child p before j item t.boxes)
      (handed_put next t.root unhanded p (insert_among same_key before (tree j item empty empty) (children same_key p t.boxes)) t.boxes k.apart again (λ d w.
      let to : inside ≡ inside_of next t.root p d = is ∙ (ap (passed_from (same_key p t.root) (hand_at rows p)) w ∙ ap (λ z. passed_from (same_key p t.root) z (Some d)) (sym (at_old p m))) in
      handed_among next t.root (inside_of next t.root p d) before (tree j item empty empty) (children same_key p t.boxes) (at_new ∙ to, tt, tt)
      (handed_children next t.root unhanded p d t.boxes k.apart w again)))

  pub added : FitsRect q → Fits s → FitsScroll unscrolled → length u.slots ≤ length next → IsHanding u next
  added f w o n =
      handing u next v.rooted v.apart n (subst (λ z. AreHanded next z.root unhanded z.boxes) (sym e) added_right)
      (subst (λ z. AllFit z.boxes) (sym added_laid) (fit_inserted (laid_tree rows t) h.fits p before j (new_item id q s) (f, w, o)))

-- A tree with its root alone: nothing is scrolled.
no_offset : (p : Position) → offset_in unhanded p ≡ unscrolled
no_offset position.Fixed = refl
no_offset position.Absolute = refl
no_offset position.Relative = refl
no_offset position.Static = refl

laid_alone : (d : Item) → laid_at unhanded d ≡ d
laid_alone d =
    (λ i. with_rect (record d.rect { x = d.rect.x +ℤ (no_offset d.style.position i).x; y = d.rect.y +ℤ (no_offset d.style.position i).y }) d)
    ∙ (λ i. with_rect (record d.rect { x = plus_none d.rect.x i; y = plus_none d.rect.y i }) d)

one_row : (n : ℕ) → slice_index_or (unhanded ∷ []) n unhanded ≡ unhanded
one_row zero = refl
one_row (suc n) = refl

pub planted : (t : Document) (rows : List ScrollSums) (id : List ℕ) (q : Rectangle) (s : Style) → rows ≡ unhanded ∷ [] → IsNextOf [] t.root → t.boxes ≡ tree t.root (touch (new_item id q s)) empty empty
    → t.slots ≡ with_taken [] t.root → FitsRect q → Fits s → FitsScroll unscrolled → IsHanding t rows × (laid_by rows t.boxes ≡ tree t.root (touch (new_item id q s)) empty empty)
planted t rows id q s e next boxes slots f g o =
    let d : Item = touch (new_item id q s) in
    let row : hand_at rows t.root ≡ unhanded = ap (λ z. hand_at z t.root) e ∙ one_row t.root.slot in
    let same : laid_by rows t.boxes ≡ tree t.root d empty empty = ap (laid_by rows) boxes ∙ (λ i. tree t.root ((ap (λ h. laid_at h d) row ∙ laid_alone d) i) empty empty) in
    let here : t.root.slot < 1 = elim next [ inl w ↦ absurd (omega (arith, w.0)) | inr w ↦ omega (arith, w.0) ] in
    let n : length (with_taken [] t.root) ≤ 1 = rows_for [] t.root 1 1 next (omega arith) (omega arith) here in
    let m : length rows ≡ 1 = ap length e in
    let l : length t.slots ≡ length (with_taken [] t.root) = ap length slots in (
      handing t rows (d, empty, boxes) (subst (λ z. IsApart same_key z) (sym boxes) (refl, refl, λ j u. refl, tt, tt)) (omega (arith, n, m, l))
          (subst (AreHanded rows t.root unhanded) (sym boxes) (row, tt, tt)) (subst AllFit (sym same) (f, g, tt, tt, o)),
      same,
    )
