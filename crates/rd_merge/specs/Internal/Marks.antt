-- Marks of the boxes of which something is sought, by their slots.
use Rattle.std.specs.Prelude.{◌≡◌, ℕ, ◌<◌, ◌%◌, ◌/◌, Bool, true, false, List, length, map, slice_index, slice_index_or}
use Rattle.std.specs.Int.{bit_at}
use Rattle.rd_keys.specs.Keys.{BoxKey}
use Rattle.rd_keys.specs.declared.entry.EntryKey.{EntryKey}
use Rattle.rd_keys.specs.declared.entry.EntryKey.TheVariants as key

-- how many marks there are
abbrev pub box_marks : Bool → ℕ
box_marks true = 32768
box_marks false = 2048

-- where a box has its mark
abbrev pub box_mark : Bool → BoxKey → ℕ
box_mark wide k = k.slot % box_marks wide

-- the box of a name
abbrev pub box_of : EntryKey → BoxKey
box_of (key.Leaf k p) = k
box_of (key.Group k) = k

-- the page of a box, of which there are 256
abbrev pub page_mark : BoxKey → ℕ
page_mark k = (k.slot / 64) % 256

-- the mark of a box in its page
abbrev pub slot_mark : List ℕ → BoxKey → ℕ
slot_mark pages k = bit_at (slice_index pages (page_mark k)) (k.slot % 64)

-- where the boxes of names have their marks
abbrev pub name_marks : (BoxKey → ℕ) → List EntryKey → List ℕ
name_marks mark names = map (λ k. mark (box_of k)) names

-- as many marks as there are to be, and those of the boxes of these names are set
pub record AreMarkedBy (mark : BoxKey → ℕ) (count : ℕ) (names : List EntryKey) (marks : List Bool) : Type 0 where
  pub size : length marks ≡ count
  pub marked : (i : ℕ) → i < length names → slice_index_or marks (slice_index_or (name_marks mark names) i 0) false ≡ true

-- marks of boxes
abbrev pub AreMarked : Bool → List EntryKey → List Bool → Type 0
AreMarked wide names marks = AreMarkedBy (box_mark wide) (box_marks wide) names marks

-- as many words of marks as there are pages, and of each 64 pages which have some
pub record ArePages (pages groups : List ℕ) : Type 0 where
  pub size : length pages ≡ 256
  pub count : length groups ≡ 4
  pub right : (p : ℕ) → p < 256 → bit_at (slice_index groups (p / 64)) (p % 64) ≡ 0 → slice_index pages p ≡ 0

-- those of the boxes of these names are set
pub record ArePagesMarked (names : List EntryKey) (pages groups : List ℕ) : Type 0 where
  pub are : ArePages pages groups
  pub marked : (i : ℕ) (d : EntryKey) → i < length names → slot_mark pages (box_of (slice_index_or names i d)) ≡ 1
