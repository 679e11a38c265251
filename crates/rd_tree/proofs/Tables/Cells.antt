-- Into which cells of the plane the rows of a table reach.
use Rattle.std.proofs.Common.{◌≡◌, ◌≢◌, refl, ap, ◌∙◌, sym, subst, ℕ, ◌+◌, ◌-◌, ◌/◌, ◌%◌, ◌^◌, ◌<◌, ◌≤◌, min, max, ℤ, ◌<ℤ◌, Bool, true, false, List, [], ◌∷◌, ◌++◌, length, arith, get_or, set, get_or-set_same, get_or-set_other, inl, inr}
use Rattle.std.proofs.lemmas.Bool.{cases_eq, cases_lt, false_from_ne_true}
use Rattle.std.proofs.lemmas.List.{get_or-append-add, get_or_append_left, get_or_default, length-append, length-set}
use Rattle.std.specs.Int.{bit_at, trailing_zeros, w64}
use Rattle.std.proofs.lemmas.Nat.{shr_le, shr-shr}
use Rattle.std.proofs.lemmas.Nat.Bits.{bit_at-trailing_zeros, bit_at-zero}
use Rattle.std.proofs.lemmas.Int.{ints}
use Rattle.rd_geom.specs.Plane.{Rectangle, right, bottom}
use Rattle.rd_tree.specs.Seeking.{reaches}
use Rattle.rd_tree.specs.declared.table.cells.Cells.{Cells}
use Rattle.rd_tree.specs.declared.table.cells.Reach.{Reach}
use Rattle.rd_tree.specs.declared.table.row.Summary.{Summary}
use Rattle.rd_tree.specs.Internal.Summaries.{row_at}
use Rattle.rd_tree.specs.Internal.Cells.{AreReached, AreSet, IsCell, IsReach, IsReached, KeepsRow, cells_at, word_at}

-- Of cells that follow each other each has the word of one of the first 32.
pub turn : (from to i c : ℕ) → min (to - from + 1) 32 ≤ i → from ≤ c → c ≤ to → ((c - from) % 32 < i) × ((from + (c - from) % 32) % 32 ≡ c % 32)
turn from to i c m a b = (omega (arith, m, a, b), omega (arith, a))

pub turned : (words : List ℕ) (from to i c s : ℕ) → min (to - from + 1) 32 ≤ i → from ≤ c → c ≤ to → ((j : ℕ) → j < i → bit_at (word_at words (from + j)) s ≡ 1) → bit_at (word_at words c) s ≡ 1
turned words from to i c s m a b h =
    let k = turn from to i c m a b in
    sym (ap (λ z. bit_at (get_or words z 0) s) k.1) ∙ h ((c - from) % 32) k.0

-- A row that is said to reach from one edge up to another has its bit, where the cells from another edge up to the last are asked, and both cross.
pub crossed : (words : List ℕ) (w slot left right l r : ℕ) (a b p q : ℤ) → a <ℤ q → p <ℤ b → IsCell a l → IsCell b r → l ≤ r → IsCell p left → IsCell q right → left ≤ right
    → AreSet words l r slot → ((c s : ℕ) → left ≤ c → c ≤ right → bit_at (word_at words c) s ≡ 1 → bit_at w s ≡ 1) → bit_at w (slot % 64) ≡ 1
crossed words w slot left right l r a b p q aq pb at_l at_r lr at_left at_right order set any =
    any (max l left) (slot % 64) (omega arith) (omega (arith, ints, at_l.from, at_right.to, aq, order))
    (set (max l left) (omega arith) (omega (arith, ints, at_left.from, at_r.to, pb, lr)))

-- two rectangles of which one reaches into the other
pub record Crosses (r h : Rectangle) : Type 0 where
  pub left : h.x <ℤ right r
  pub right : r.x <ℤ right h
  pub top : h.y <ℤ bottom r
  pub bottom : r.y <ℤ bottom h

pub crosses : (r h : Rectangle) → reaches r h ≡ true → Crosses r h
crosses r h e = record { left = grind (arith, ints); right = grind (arith, ints); top = grind (arith, ints); bottom = grind (arith, ints) }

-- ---- what is told of the rows of a page

-- another row of the page changes
kept_row : (old new : Cells) (slot s : ℕ) (h : Rectangle) → KeepsRow old new slot → s % 64 ≢ slot % 64 → IsReached old s h → IsReached new s h
kept_row old new slot s h k d r = record {
  reach = r.reach;
  is = r.is;
  order = r.order;
  columns = λ c i j. k.columns c s d ∙ r.columns c i j;
  lines = λ c i j. k.lines c s d ∙ r.lines c i j;
}

-- the cells of one page change, for one row
pub others_kept : (cells : List Cells) (slot : ℕ) (old new : Cells) → slot / 64 < length cells → old ≡ get_or cells (slot / 64) old → KeepsRow old new slot
    → (s : ℕ) (h : Rectangle) → s ≢ slot → IsReached (cells_at cells (s / 64)) s h → IsReached (cells_at (set cells (slot / 64) new) (s / 64)) s h
others_kept cells slot old new l is k s h d r = elim (cases_eq (s / 64) (slot / 64)) [
  | inl e ↦
      let here : cells_at (set cells (slot / 64) new) (s / 64) ≡ new = ap (cells_at (set cells (slot / 64) new)) e ∙ get_or-set_same cells (slot / 64) new _ l in
      let apart : s % 64 ≢ slot % 64 = omega (arith, e, d) in
      subst (λ cs. IsReached cs s h) (sym here) (kept_row old new slot s h k apart (subst (λ cs. IsReached cs s h) (ap (cells_at cells) e ∙ (get_or_default cells (slot / 64) _ old l ∙ sym is)) r))
  | inr n ↦ subst (λ cs. IsReached cs s h) (sym (get_or-set_other cells (slot / 64) (s / 64) new _ n)) r
]

pub here_put : (cells : List Cells) (slot : ℕ) (new : Cells) (h : Rectangle) → slot / 64 < length cells → IsReached new slot h
    → IsReached (cells_at (set cells (slot / 64) new) (slot / 64)) slot h
here_put cells slot new h l r = subst (λ cs. IsReached cs slot h) (sym (get_or-set_same cells (slot / 64) new _ l)) r

-- an edge is in one cell
one_cell : (e : ℤ) (c d : ℕ) → IsCell e c → IsCell e d → c ≡ d
one_cell e c d i j = omega (arith, ints, i.from, i.to, j.from, j.to)

-- a rectangle that begins and ends in the same cells
pub same_cells : (cs : Cells) (slot : ℕ) (w : Reach) (old new : Rectangle) → IsReach w old → IsReach w new → IsReached cs slot old → IsReached cs slot new
same_cells cs slot w old new i j r = record {
  reach = r.reach;
  is = record {
    left = subst (IsCell new.x) (one_cell old.x w.left r.reach.left i.left r.is.left) j.left;
    right = subst (IsCell (right new)) (one_cell (right old) w.right r.reach.right i.right r.is.right) j.right;
    top = subst (IsCell new.y) (one_cell old.y w.top r.reach.top i.top r.is.top) j.top;
    bottom = subst (IsCell (bottom new)) (one_cell (bottom old) w.bottom r.reach.bottom i.bottom r.is.bottom) j.bottom;
  };
  order = r.order;
  columns = r.columns;
  lines = r.lines;
}

-- ---- what is told of a table

-- a row is written
pub reached_written : (rows : List Summary) (cells new : List Cells) (slot : ℕ) (row : Summary) → AreReached rows cells → slot < length rows → length new ≡ length cells
    → IsReached (cells_at new (slot / 64)) slot row.hull
    → ((s : ℕ) (h : Rectangle) → s ≢ slot → IsReached (cells_at cells (s / 64)) s h → IsReached (cells_at new (s / 64)) s h)
    → AreReached (set rows slot row) new
reached_written rows cells new slot row a l e here others s u = elim (cases_eq s slot) [
  | inl m ↦
      let told = a s (omega (arith, m, l)) in
      let w = told.0 in
      let is : row_at (set rows slot row) s ≡ row = ap (row_at (set rows slot row)) m ∙ get_or-set_same rows slot row _ l in
      (omega (arith, w, e), subst (λ y. IsReached (cells_at new (s / 64)) s y.hull) (sym is) (subst (λ i. IsReached (cells_at new (i / 64)) i row.hull) (sym m) here))
  | inr n ↦
      let told = a s (omega (arith, u, length-set rows slot row)) in
      let w = told.0 in
      (omega (arith, w, e), subst (λ y. IsReached (cells_at new (s / 64)) s y.hull) (sym (get_or-set_other rows slot s row _ n)) (others s (row_at rows s).hull n told.1))
]

-- a row comes after the others
pub reached_more : (rows : List Summary) (cells new : List Cells) (row : Summary) → AreReached rows cells → length cells ≤ length new → length rows / 64 < length new
    → IsReached (cells_at new (length rows / 64)) (length rows) row.hull
    → ((s : ℕ) (h : Rectangle) → s < length rows → IsReached (cells_at cells (s / 64)) s h → IsReached (cells_at new (s / 64)) s h)
    → AreReached (rows ++ row ∷ []) new
reached_more rows cells new row a le page here others s u = elim (cases_lt s (length rows)) [
  | inl l ↦
      let told = a s l in
      let w = told.0 in
      (omega (arith, w, le), subst (λ y. IsReached (cells_at new (s / 64)) s y.hull) (sym (get_or_append_left rows (row ∷ []) _ s l)) (others s (row_at rows s).hull l told.1))
  | inr n ↦
      let m : s ≡ length rows = omega (arith, u, n, length-append rows (row ∷ [])) in
      let is : row_at (rows ++ row ∷ []) s ≡ row = ap (row_at (rows ++ row ∷ [])) (m ∙ (let z : length rows ≡ length rows + 0 = omega arith in z)) ∙ get_or-append-add rows (row ∷ []) 0 _ in
      (omega (arith, page, m), subst (λ y. IsReached (cells_at new (s / 64)) s y.hull) (sym is) (subst (λ i. IsReached (cells_at new (i / 64)) i row.hull) (sym m) here))
]

-- a row is written with the hull that it has
pub same_hull : (rows : List Summary) (cells : List Cells) (slot : ℕ) (old row : Summary) → AreReached rows cells → slot < length rows → old ≡ get_or rows slot old → row.hull ≡ old.hull → AreReached (set rows slot row) cells
same_hull rows cells slot old row a l is e =
    let was : row.hull ≡ (row_at rows slot).hull = e ∙ ap (λ y. y.hull) (is ∙ get_or_default rows slot old _ l) in
    reached_written rows cells cells slot row a l refl (subst (IsReached (cells_at cells (slot / 64)) slot) (sym was) (a slot l).1) (λ s h d r. r)

-- a row is read
pub told_here : (rows : List Summary) (cells : List Cells) (slot : ℕ) (row : Summary) → AreReached rows cells → slot < length rows → row ≡ get_or rows slot row → IsReached (cells_at cells (slot / 64)) slot row.hull
told_here rows cells slot row a l e = subst (λ y. IsReached (cells_at cells (slot / 64)) slot y.hull) (sym (e ∙ get_or_default rows slot row _ l)) (a slot l).1

-- ---- the next bit of a word

shifted : (w p k : ℕ) → bit_at (w / 2 ^ p) k ≡ bit_at w (p + k)
shifted w p k = ap (λ x. x % 2) (shr-shr w p k)

-- a word has no bit from a place on
pub none_on : (w p k : ℕ) → w / 2 ^ p ≡ 0 → bit_at w (p + k) ≡ 0
none_on w p k e = sym (shifted w p k) ∙ (ap (λ x. bit_at x k) e ∙ bit_at-zero k)

-- it has none before the next one
pub none_before : (w p k : ℕ) → 0 < w / 2 ^ p → w < 2 ^ 64 → k < trailing_zeros w64 (w / 2 ^ p) → bit_at w (p + k) ≡ 0
none_before w p k some fits l = sym (shifted w p k) ∙ (bit_at-trailing_zeros w64 (w / 2 ^ p) some (omega (arith, fits, shr_le w p))).2 k l

-- What holds only of slots with a bit holds of none whose bits are passed, in a page.
pub passed : (P : ℕ → Bool) (near from end slot t s : ℕ) → ((j : ℕ) → j < end → j / 64 ≡ from / 64 → P j ≡ true → bit_at near (j % 64) ≡ 1)
    → from % 64 + (end - from) ≤ 64 → from ≤ slot → slot ≤ s → s < end → ((k : ℕ) → k < t → bit_at near (slot % 64 + k) ≡ 0) → s < slot + t → P s ≡ false
passed P near from end slot t s told page a b l none u = false_from_ne_true (P s) (λ e.
    let at : s % 64 ≡ slot % 64 + (s - slot) = omega (arith, page, a, b, l) in
    let one = told s l (omega (arith, page, a, b, l)) e in
    let zero = ap (bit_at near) at ∙ none (s - slot) (omega (arith, b, u)) in
    omega (arith, one, zero))
