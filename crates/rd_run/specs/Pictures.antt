-- Pictures of trees, as Netpbm P6 has them.
use Rattle.std.specs.Prelude.{ℕ, zero, suc, ℤ, pos, List, [], ◌∷◌, ◌++◌, unsigned_abs}
use Rattle.rd_geom.specs.Colors.{Premultiplied}
use Rattle.rd_geom.specs.declared.rect.Size.{Size}
use Rattle.rd_item.specs.declared.leaf.Leaf.{Leaf}
use Rattle.rd_list.specs.Wrappers.{Wrapper}
use Rattle.rd_list.specs.Entries.{Entries}
use Rattle.rd_list.specs.EntryNames.{new_leaves}
use Rattle.rd_list.specs.Lists.{pixel}
use Rattle.rd_wire.specs.declared.wire.Wire.{Wire}
use Rattle.rd_tree.specs.Document.{Document}
use Rattle.rd_stack.specs.Fresh.{fresh_list}
use Rattle.rd_report.specs.Pictures.{p6_text}

-- the first pixels of a row, from the left
abbrev pub row_of : (ℤ → ℤ → Premultiplied) → ℕ → ℕ → List Premultiplied
row_of f y zero = []
row_of f y (suc x) = row_of f y x ++ f (pos x) (pos y) ∷ []

-- the pixels of the first rows, row by row from the top
abbrev pub rows_of : (ℤ → ℤ → Premultiplied) → ℕ → ℕ → List Premultiplied
rows_of f width zero = []
rows_of f width (suc y) = rows_of f width y ++ row_of f y width

-- Netpbm P6: the picture of a list on a canvas
abbrev pub picture_on : Size → Entries Wrapper Leaf → List ℕ
picture_on s list =
    p6_text (unsigned_abs s.w) (unsigned_abs s.h) (rows_of (pixel list) (unsigned_abs s.w) (unsigned_abs s.h))

-- Netpbm P6: the picture of what a tree paints
abbrev pub picture : Document → List ℕ
picture t = picture_on t.canvas (fresh_list t)

-- Netpbm P6: the picture of a wire
abbrev pub wire_picture : Wire → List ℕ
wire_picture w = picture_on w.size (new_leaves w.list)
