-- The lines of a dump as they are read.
use Rattle.std.specs.Prelude.{ℕ, ◌+◌, ◌<◌, ◌^◌, List, [], ◌∷◌, ◌++◌, Option, Some, None, ℤ, Bool, if◌then◌else◌, ◌&&◌, pos, int_le, codes}
use Rattle.std.specs.Str.{bytes_eq}
use Rattle.rd_geom.specs.Plane.{Rectangle, right, bottom, int_low}
use Rattle.rd_geom.specs.Figures.{max_reach}
use Rattle.rd_geom.specs.declared.color.Color.{Color}
use Rattle.rd_geom.specs.declared.blend.Blend.{Blend}
use Rattle.rd_geom.specs.declared.blend.Blend.TheVariants.{Normal}
use Rattle.rd_keys.specs.declared.entry.Part.{Part}
use Rattle.rd_report.specs.Dumps.{NamedItem, NamedGroup, item_line, group_line}
use Rattle.rd_check.specs.Dumped.{IsItem, IsGroup}
use Rattle.rd_check.specs.Rows.{item, head, NamedRow}
use Rattle.rd_check.specs.Internal.Reading.{◌>>=◌, ◌⊗◌, made_by, field, word_before, number_of, byte_of, id_word, signed_of, part_of, color_of, pointer_of, mode_of, or_else}

-- its text
abbrev pub row_line : NamedRow → List ℕ
row_line (item depth i) = item_line depth i
row_line (head depth g entries) = group_line depth g entries

-- the texts of some lines
abbrev pub row_lines : List NamedRow → List ℕ
row_lines [] = []
row_lines (r ∷ rs) = row_line r ++ row_lines rs

-- an entry whose line a dump may have
abbrev pub FitsRow : NamedRow → Type 0
FitsRow (item depth i) = (depth < 2 ^ 64) × IsItem i
FitsRow (head depth g entries) = (depth < 2 ^ 64) × IsGroup g × (entries < 2 ^ 64)

-- ---- reading

abbrev pub is_placed : Rectangle → Bool
is_placed r =
    int_le (pos 0) r.w && int_le (pos 0) r.h && int_le int_low r.x && int_le int_low r.y
    && int_le (right r) max_reach && int_le (bottom r) max_reach

-- the rectangle of four numbers, where they are placed
abbrev pub placed_rect : Rectangle → Option Rectangle
placed_rect r = if is_placed r then Some r else None

abbrev pub rect_of : ℤ × (ℤ × (ℤ × ℤ)) → Option Rectangle
rect_of v = placed_rect (record { x = v.0; y = v.1.0; w = v.1.1.0; h = v.1.1.1 })

-- four numbers that are a rectangle
unfoldable pub rect_at : ℕ → List ℕ → Option (Rectangle × List ℕ)
rect_at gap = made_by rect_of (field signed_of 32 ⊗ (field signed_of 32 ⊗ (field signed_of 32 ⊗ field signed_of gap)))

-- below how many groups, and the id
abbrev pub Label : Type 0
Label = ℕ × List ℕ

unfoldable pub label_at : List ℕ → Option (Label × List ℕ)
label_at = field number_of 32 ⊗ field id_word 32

-- the visible rectangle, the outer and the inner one
abbrev pub Forms : Type 0
Forms = Rectangle × (Rectangle × Rectangle)

unfoldable pub forms_at : List ℕ → Option (Forms × List ℕ)
forms_at = rect_at 32 ⊗ (rect_at 32 ⊗ rect_at 32)

-- the colour, whether hits are taken, and the number of the paint
abbrev pub Paint : Type 0
Paint = Color × (Bool × ℕ)

unfoldable pub paint_at : List ℕ → Option (Paint × List ℕ)
paint_at = field color_of 32 ⊗ (field pointer_of 32 ⊗ field number_of 10)

abbrev pub to_item : Label × (Part × (Forms × Paint)) → Option NamedRow
to_item v = Some (item v.0.0 (record {
  id = v.0.1;
  part = v.1.0;
  visible = v.1.1.0.0;
  shape = record { outer = v.1.1.0.1.0; inner = v.1.1.0.1.1 };
  color = v.1.1.1.0;
  hits = v.1.1.1.1.0;
  made_at = v.1.1.1.1.1;
}))

-- what comes after `item`
unfoldable pub item_at : List ℕ → Option (NamedRow × List ℕ)
item_at = made_by to_item (label_at ⊗ (field part_of 32 ⊗ (forms_at ⊗ paint_at)))

-- the number of entries of a group, and its blend mode
abbrev pub Ending : Type 0
Ending = ℕ × Blend

abbrev pub plain_ending : ℕ → Option Ending
plain_ending n = Some (n, Normal)

-- a mode that is not normal is named after the number
unfoldable pub ending_at : List ℕ → Option (Ending × List ℕ)
ending_at bytes = or_else (made_by plain_ending (field number_of 10) bytes) ((field number_of 32 ⊗ field mode_of 10) bytes)

abbrev pub to_head : Label × (ℕ × Ending) → Option NamedRow
to_head v = Some (head v.0.0 (record { id = v.0.1; opacity = v.1.0; blend = v.1.1.1 }) v.1.1.0)

-- what comes after `group`
unfoldable pub head_at : List ℕ → Option (NamedRow × List ℕ)
head_at = made_by to_head (label_at ⊗ (field byte_of 32 ⊗ ending_at))

-- what comes after the first word of a line
abbrev pub after_word : List ℕ → List ℕ → Option (NamedRow × List ℕ)
after_word w rest = if bytes_eq w (codes "item") then item_at rest else if bytes_eq w (codes "group") then head_at rest else None

-- a line
abbrev pub row_at : List ℕ → Option (NamedRow × List ℕ)
row_at bytes = word_before 32 bytes >>= λ w. after_word w.0 w.1
