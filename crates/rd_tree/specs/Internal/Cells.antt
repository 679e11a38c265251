-- Into which cells of the plane the rows of a table reach.
use Rattle.std.specs.Prelude.{◌≡◌, ◌≢◌, ℕ, ◌+◌, ◌*◌, ◌/◌, ◌%◌, ◌^◌, ◌<◌, ◌≤◌, ℤ, pos, ◌+ℤ◌, ◌≤ℤ◌, List, [], length, slice_index_or}
use Rattle.std.specs.Int.{bit_at}
use Rattle.rd_geom.specs.Figures.{max_reach}
use Rattle.rd_geom.specs.Plane.{Rectangle, right, bottom}
use Rattle.rd_tree.specs.declared.table.cells.Cells.{Cells}
use Rattle.rd_tree.specs.declared.table.cells.Reach.{Reach}
use Rattle.rd_tree.specs.declared.table.row.Summary.{Summary}
use Rattle.rd_tree.specs.Internal.Glances.{pages}
use Rattle.rd_tree.specs.Internal.Summaries.{row_at}

-- the cell of an edge: they are counted from the least column or row on
pub record IsCell (e : ℤ) (c : ℕ) : Type 0 where
  pub from : pos (64 * c) ≤ℤ (e +ℤ max_reach)
  pub to : (e +ℤ max_reach) ≤ℤ pos (64 * c + 63)

-- the cells in which a rectangle begins and ends
pub record IsReach (r : Reach) (h : Rectangle) : Type 0 where
  pub left : IsCell h.x r.left
  pub right : IsCell (right h) r.right
  pub top : IsCell h.y r.top
  pub bottom : IsCell (bottom h) r.bottom

-- it ends where it begins, or after that
pub record IsOrdered (r : Reach) : Type 0 where
  pub across : r.left ≤ r.right
  pub down : r.top ≤ r.bottom
  pub wide : r.right + 1 < 2 ^ 64
  pub high : r.bottom + 1 < 2 ^ 64

-- the word of a cell: those 32 apart count as one
abbrev pub word_at : List ℕ → ℕ → ℕ
word_at words c = slice_index_or words (c % 32) 0

-- A row has its bit in the words of all cells from one up to another.
abbrev pub AreSet : List ℕ → ℕ → ℕ → ℕ → Type 0
AreSet words from to slot = (c : ℕ) → from ≤ c → c ≤ to → bit_at (word_at words c) (slot % 64) ≡ 1

-- All other rows of its page have the bits that they had.
abbrev pub KeepsBits : List ℕ → List ℕ → ℕ → Type 0
KeepsBits old new slot = (c s : ℕ) → s % 64 ≢ slot % 64 → bit_at (word_at new c) (s % 64) ≡ bit_at (word_at old c) (s % 64)

pub record KeepsRow (old new : Cells) (slot : ℕ) : Type 0 where
  pub columns : KeepsBits old.columns new.columns slot
  pub lines : KeepsBits old.lines new.lines slot

-- It is told of a row that it reaches wherever this rectangle does.
pub record IsReached (cs : Cells) (slot : ℕ) (h : Rectangle) : Type 0 where
  pub reach : Reach
  pub is : IsReach reach h
  pub order : IsOrdered reach
  pub columns : AreSet cs.columns reach.left reach.right slot
  pub lines : AreSet cs.lines reach.top reach.bottom slot

-- what is told of a page
abbrev pub cells_at : List Cells → ℕ → Cells
cells_at cells p = slice_index_or cells p (record { columns = []; lines = [] })

-- It is told of each row of a table.
abbrev pub AreReached : List Summary → List Cells → Type 0
AreReached rows cells = (s : ℕ) → s < length rows → (s / 64 < length cells) × IsReached (cells_at cells (s / 64)) s (row_at rows s).hull

-- the rows of a table, and for how many of them, and of their pages, there is room
pub record TableRows : Type 0 where
  pub rows : List Summary
  pub room : ℕ
  pub cell_room : ℕ

-- there is room for a row more
pub record HasRowRoom (t : TableRows) : Type 0 where
  pub row : length t.rows < t.room
  pub page : pages (length t.rows) < t.cell_room
