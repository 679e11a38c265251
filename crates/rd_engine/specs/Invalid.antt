-- What a paint has to paint anew. All of it is this project's own choice.
use Rattle.std.specs.Prelude.{ℕ, zero, suc, ◌*◌, ℤ, pos, Bool, nat_eq, if◌then◌else◌, List, [], ◌∷◌, ◌++◌, Option, Some, None, unsigned_abs}
use Rattle.rd_geom.specs.Plane.{holds_pixel}
use Rattle.rd_geom.specs.Canvas.{canvas_of}
use Rattle.rd_geom.specs.Areas.{Region}
use Rattle.rd_geom.specs.declared.rect.Size.{Size}
use Rattle.rd_geom.specs.declared.span.Span.{Span}
use Rattle.rd_item.specs.declared.leaf.Leaf.{Leaf}
use Rattle.rd_list.specs.Wrappers.{Wrapper}
use Rattle.rd_list.specs.Entries.{Entries}
use Rattle.rd_list.specs.Lists.{meeting}
use Rattle.rd_list.specs.EntryNames.{kept_leaves}
use Rattle.rd_tree.specs.Document.{Document}
use Rattle.rd_tree.specs.Drawn.{drawn}
use Rattle.rd_stack.specs.Fresh.{fresh_list}
use Rattle.rd_partial.specs.Invalid.{is_invalid}
use Rattle.rd_partial.specs.Looks.{looks_bound, is_visited}
use Rattle.rd_engine.specs.State.{EngineState}

-- the first n columns that pass a test, each as a span
abbrev pub columns_where : (ℤ → Bool) → ℕ → List Span
columns_where p zero = []
columns_where p (suc n) = columns_where p n ++ (if p (pos n) then record { x0 = pos n; x1 = pos (suc n) } ∷ [] else [])

-- n rows, of which the first is row y, with the columns of each that pass a test
abbrev pub rows_where : (ℤ → ℤ → Bool) → ℕ → ℕ → ℕ → List (List Span)
rows_where p width y zero = []
rows_where p width y (suc n) = columns_where (λ x. p x (pos y)) width ∷ rows_where p width (suc y) n

-- the pixels of a canvas that pass a test
abbrev pub region_where : (ℤ → ℤ → Bool) → Size → Region
region_where p size = record { size = size; rows = rows_where p (unsigned_abs size.w) 0 (unsigned_abs size.h) }

-- Is the pixel to be painted anew, where this is the list of the last paint? Each one of the canvas is before the first
-- paint; later one is where a touched box has a leaf, in that list or in that of the tree.
abbrev pub is_due : Option (Entries Wrapper Leaf) → Document → ℤ → ℤ → Bool
is_due None t x y = holds_pixel (canvas_of t.canvas) x y
is_due (Some painted) t x y = is_invalid t painted x y

-- the pixels of the canvas that a paint has to paint anew
abbrev pub area_due : Option (Entries Wrapper Leaf) → Document → Region
area_due painted t = region_where (is_due painted t) t.canvas

-- the leaves of which a paint of this area makes the items anew: those that may be seen in it
abbrev pub remade_in : Region → Document → Entries Wrapper Leaf
remade_in area t = meeting area (fresh_list t)

-- how often a paint of this area may look at boxes: twice for each that is the root, is touched, has one below it that is, or
-- is near the area, and for each of their children
abbrev pub looks_in : Region → Document → ℕ
looks_in area t = 2 * looks_bound (is_visited area) (drawn t).boxes

-- the list of an engine's last paint; none before the first
abbrev pub painted_list : EngineState → Option (Entries Wrapper Leaf)
painted_list s = if nat_eq s.paints 0 then None else Some (kept_leaves s.kept.entries)

-- the area of an engine's next paint
abbrev pub invalid_area : EngineState → Region
invalid_area s = area_due (painted_list s) s.tree
