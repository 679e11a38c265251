-- What an edit and a paint make of an engine. All of it is this project's own choice.
use Rattle.std.specs.Prelude.{◌≡◌, ℕ, ℤ, ◌+◌, ◌*◌, true, false, if◌then◌else◌, Option, Some, None, Contains, length, replicate}
use Rattle.rd_geom.specs.Plane.{holds_pixel}
use Rattle.rd_geom.specs.Canvas.{canvas_of}
use Rattle.rd_geom.specs.Areas.{Region, in_area, meets_area, count_of}
use Rattle.rd_geom.specs.Colors.{Premultiplied, white}
use Rattle.rd_geom.specs.declared.color.Color.{Color}
use Rattle.rd_item.specs.declared.leaf.Leaf.{Leaf}
use Rattle.rd_item.specs.Items.{Made}
use Rattle.rd_list.specs.Wrappers.{Wrapper}
use Rattle.rd_list.specs.Entries.{Entries, nil, flat}
use Rattle.rd_list.specs.Lists.{pixel}
use Rattle.rd_list.specs.Kept.{IsMerged}
use Rattle.rd_list.specs.EntryNames.{entry_names, kept_leaves, made_leaf}
use Rattle.rd_tree.specs.Forest.{map_where}
use Rattle.rd_tree.specs.Touching.{settled}
use Rattle.rd_tree.specs.Drawn.{drawn}
use Rattle.rd_tree.specs.Document.{Document, is_touched}
use Rattle.rd_stack.specs.Fresh.{fresh_list}
use Rattle.rd_partial.specs.Looks.{is_visited, looks_bound}
use Rattle.rd_partial.specs.Numbered.{numbered}
use Rattle.rd_paint.specs.Pictures.{size_of}
use Rattle.rd_paint.specs.Repainted.{IsRepainted}
use Rattle.rd_engine.specs.Kept.{stays}
use Rattle.rd_engine.specs.State.{EngineState}
use Rattle.rd_engine.specs.Invalid.{invalid_area, remade_in, looks_in}
use Rattle.rd_engine.specs.declared.note.PaintNote.{PaintNote}

-- each box of the tree counts as touched
abbrev pub IsAllTouched : Document → Type 0
IsAllTouched t = (k : _) → is_touched k t.boxes ≡ true

-- an engine that has not painted: no list, a white canvas, and all of it pending
pub record IsBegun (t : Document) (s : EngineState) : Type 0 where
  pub tree : s.tree ≡ t
  pub kept : s.kept.entries ≡ nil
  pub size : size_of s.canvas ≡ t.canvas
  pub canvas : s.canvas.pixels ≡ replicate (s.canvas.height * s.canvas.width) white
  pub pending : s.pending ≡ true
  pub paints : s.paints ≡ 0
  pub area : s.area ≡ None

-- an opaque colour
abbrev pub opaque : Premultiplied → Color
opaque p = record { r = p.r; g = p.g; b = p.b; a = 255 }

-- the tree with no box touched
abbrev pub untouched : Document → Document
untouched t = record t { boxes = map_where (λ _. true) settled t.boxes }

-- nothing is touched or pending any more, and one more paint is counted
pub record IsSettled (old new : EngineState) : Type 0 where
  pub tree : new.tree ≡ untouched old.tree
  pub pending : new.pending ≡ false
  pub paints : new.paints ≡ old.paints + 1

-- the leaves that are made anew: those of the fresh list that may be seen in the invalid area
abbrev pub remade : EngineState → Entries Wrapper Leaf
remade s = remade_in (invalid_area s) s.tree

-- The kept list without the leaves of touched boxes, joined with those that are made anew.
abbrev pub IsJoinedBy : EngineState → EngineState → Type 0
IsJoinedBy old new =
    IsMerged entry_names made_leaf (stays old.tree) old.kept (numbered (old.paints + 1) (remade old)) new.kept

-- the paint's number, the items that it made, the others, and the pixels that it painted anew
pub record IsNoted (old : EngineState) (note : PaintNote) : Type 0 where
  pub number : note.number ≡ old.paints + 1
  pub built : note.built ≡ length (flat (remade old))
  pub kept : note.built + note.kept ≡ length (flat (fresh_list old.tree))
  pub area : note.area ≡ count_of (invalid_area old)

-- The number of each item is that of the last paint whose area it met.
pub record AreNumbered (old new : EngineState) : Type 0 where
  -- one in the area has the number of this paint
  pub made : (i : Made) → Contains (flat new.kept.entries) i
      → meets_area (invalid_area old) i.leaf.visible ≡ true → i.made_at ≡ old.paints + 1
  -- any other is an item of the old list, with the number that it had
  pub kept : (i : Made) → Contains (flat new.kept.entries) i
      → meets_area (invalid_area old) i.leaf.visible ≡ false → Contains (flat old.kept.entries) i

-- the boxes that a paint goes to, each with its children: the root, and those that are touched, have a touched one below
-- them, or are near the area
abbrev pub half_looks : EngineState → ℕ
half_looks s = looks_bound (is_visited (invalid_area s)) (drawn s.tree).boxes

-- how often a paint may look at boxes: twice at each
abbrev pub most_looks : EngineState → ℕ
most_looks s = looks_in (invalid_area s) s.tree

-- the pixel of a tree in column x and row y; none off its canvas
abbrev pub shown_at : Document → ℤ → ℤ → Option Color
shown_at t x y = if holds_pixel (canvas_of t.canvas) x y then Some (opaque (pixel (fresh_list t) x y)) else None

-- the area of a paint has the pixels of the invalid area; those of the canvas became the list's, and no other pixel changed
pub record IsAreaPainted (old new : EngineState) : Type 0 where
  pub area : Region
  pub last : new.area ≡ Some area
  pub size : area.size ≡ old.tree.canvas
  pub pixels : (x y : ℤ) → in_area area x y ≡ in_area (invalid_area old) x y
  pub painted : IsRepainted (kept_leaves new.kept.entries) area old.canvas new.canvas
