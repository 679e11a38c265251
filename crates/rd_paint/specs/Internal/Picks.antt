-- Entries that are picked from a list, in groups too.
use Rattle.std.specs.Prelude.{◌≡◌, ℕ, zero, suc, ℤ, pos, false, ◌<◌, ◌≤◌, ◌+ℤ◌, ◌≤ℤ◌, ◌<ℤ◌, IsTrue, List, [], ◌∷◌, ◌++◌, length, take, drop}
use Rattle.rd_geom.specs.Colors.{Premultiplied}
use Rattle.rd_geom.specs.Areas.{Region, in_area, in_span}
use Rattle.rd_geom.specs.declared.span.Span.{Span}
use Rattle.rd_item.specs.declared.leaf.Leaf.{Leaf}
use Rattle.rd_list.specs.Wrappers.{Wrapper}
use Rattle.rd_list.specs.Entries.{Entries, nil, leaf, group, ◌▷◌}
use Rattle.rd_list.specs.Lists.{composed}
use Rattle.rd_list.specs.Views.{levels}
use Rattle.rd_paint.specs.declared.picks.Pick.{Pick}

-- the entry at a place, where there is one; a group with what is made of its own list
unfoldable pub entry_at : (Entries Wrapper Leaf → Entries Wrapper Leaf)
    → ℕ → Entries Wrapper Leaf → Entries Wrapper Leaf
entry_at f i nil = nil
entry_at f zero (leaf l rest) = leaf l nil
entry_at f zero (group g inner rest) = group g (f inner) nil
entry_at f (suc i) (leaf l rest) = entry_at f i rest
entry_at f (suc i) (group g inner rest) = entry_at f i rest

-- the entries that the first n picks name: behind the pick of a group stand those of its own list
unfoldable pub picked_by : ℕ → List Pick → Entries Wrapper Leaf → Entries Wrapper Leaf
picked_by zero ps es = nil
picked_by (suc n) [] es = nil
picked_by (suc n) (p ∷ ps) es = entry_at (picked_by n (take p.inside ps)) p.place es ▷ picked_by n (drop p.inside ps) es

-- the entries that picks name
unfoldable pub picked : List Pick → Entries Wrapper Leaf → Entries Wrapper Leaf
picked ps es = picked_by (length ps) ps es

-- the entry at a place, a group with those of its entries that picks name
abbrev pub chosen : List Pick → ℕ → Entries Wrapper Leaf → Entries Wrapper Leaf
chosen own place es = entry_at (picked own) place es

-- the picks of each group among them are among them
abbrev pub IsClosed : List Pick → Type 0
IsClosed xs = (ys : List Pick) (es : Entries Wrapper Leaf) → picked (xs ++ ys) es ≡ picked xs es ▷ picked ys es

-- two lists show the same at some pixels
abbrev pub SameWhere : (ℤ → ℤ → Type 0) → Entries Wrapper Leaf → Entries Wrapper Leaf → Type 0
SameWhere p es fs = (x y : ℤ) (d : Premultiplied) → p x y → composed x y d es ≡ composed x y d fs

-- the first shows the same as the second at some pixels, and no leaf of it has more groups round it
abbrev pub ServesWhere : (ℤ → ℤ → Type 0) → Entries Wrapper Leaf → Entries Wrapper Leaf → Type 0
ServesWhere p es fs = SameWhere p es fs × (levels es ≤ levels fs)

-- an entry, alone in a list, stands at a place of another list
abbrev pub StandsAt : ℕ → Entries Wrapper Leaf → Entries Wrapper Leaf → Type 0
StandsAt place one es = (f : Entries Wrapper Leaf → Entries Wrapper Leaf) → entry_at f place es ≡ entry_at f 0 one

-- what these picks name of an entry at a place serves for what is wanted of it
abbrev pub ShowsFor : (ℤ → ℤ → Type 0) → ℕ → Entries Wrapper Leaf → Entries Wrapper Leaf → List Pick → Type 0
ShowsFor p place one want ps = (es : Entries Wrapper Leaf) → StandsAt place one es → ServesWhere p (picked ps es) want

-- in the rows from y0 up to y1
abbrev pub InRows : ℤ → ℤ → ℤ → ℤ → Type 0
InRows y0 y1 x y = (y0 ≤ℤ y) × (y <ℤ y1)

-- in an area
abbrev pub InArea : Region → ℤ → ℤ → Type 0
InArea a x y = IsTrue (in_area a x y)

-- in the columns of one span and the rows of another
abbrev pub InSpans : Span → Span → ℤ → ℤ → Type 0
InSpans columns rows x y = IsTrue (in_span columns x) × IsTrue (in_span rows y)

-- in an area, in these columns of these rows
abbrev pub InAreaWithin : Region → Span → Span → ℤ → ℤ → Type 0
InAreaWithin a columns rows x y = InArea a x y × InSpans columns rows x y

-- in row y, outside the columns of a span
abbrev pub OffSpan : Span → ℤ → ℤ → ℤ → Type 0
OffSpan s y x row = (row ≡ y) × (in_span s x ≡ false)

-- what is below a list does not show in n pixels from column x on of the rows from y0 up to y1
abbrev pub Hides : Entries Wrapper Leaf → ℤ → ℤ → ℤ → ℕ → Type 0
Hides es y0 y1 x n = (k : ℕ) (y : ℤ) (d e : Premultiplied) → k < n → y0 ≤ℤ y → y <ℤ y1
    → composed (x +ℤ pos k) y d es ≡ composed (x +ℤ pos k) y e es
