-- A scene that is painted once. The form is this project's own choice.
use Rattle.std.specs.Prelude.{◌≡◌, ℕ, ℤ, pos, ◌*◌, ◌<◌, List, [], ◌∷◌, ◌++◌, length, take, drop, flat_map, Some, None}
use Rattle.rd_edits.specs.declared.edit.Edit.{Edit}
use Rattle.rd_list.specs.Lists.{pixel}
use Rattle.rd_paint.specs.Pictures.{Picture, size_of, pixel_at}
use Rattle.rd_stack.specs.Fresh.{fresh_list}
use Rattle.rd_tree.specs.Document.{Document}
use Rattle.rd_c.specs.Asked.{IsInsertion, AreDone, IsFirstRefused}
use Rattle.rd_c.specs.Batched.{part_of}
use Rattle.rd_c.specs.Copied.{quad}
use Rattle.rd_c.specs.Held.{IsPainted}
use Rattle.rd_c.specs.Made.{IsMade}
use Rattle.rd_c.specs.declared.painter.Painter.{Painter}
use Rattle.rd_c.specs.declared.render.RdBox.{RdBox}
use Rattle.rd_c.specs.declared.values.RdNote.{RdNote}

-- The insertion of the box, last among the children of its parent.
pub record IsPlanting (names : List ℕ) (b : RdBox) (e : Edit) : Type 0 where
  pub name : List ℕ
  pub parent : List ℕ
  pub named : part_of names b.name b.name_end ≡ Some name
  pub below : part_of names b.parent b.parent_end ≡ Some parent
  pub is : IsInsertion name parent [] b.place b.look e

-- The first of these boxes were inserted, so many of them, and the next is refused, by a fault with this number.
pub record IsRefusedAmong (names : List ℕ) (bs : List RdBox) (n : ℕ) (old : Painter) : Type 0 where
  pub count : ℕ
  pub mid : Painter
  pub planted : AreDone (IsPlanting names) (take count bs) old mid
  pub refused : IsFirstRefused (IsPlanting names) (drop count bs) n mid

-- an engine of a canvas of this size with the box as its root, which keeps nothing that undoes edits
pub record IsRootOf (w h : ℤ) (names : List ℕ) (b : RdBox) (p : Painter) : Type 0 where
  pub name : List ℕ
  pub named : part_of names b.name b.name_end ≡ Some name
  pub made : IsMade w h name b.place b.look p.engine
  pub keeps : p.undo ≡ None

-- an engine of these boxes, of which the first is the root
pub record IsBuilt (w h : ℤ) (names : List ℕ) (boxes : List RdBox) (p : Painter) : Type 0 where
  pub root : RdBox
  pub others : List RdBox
  pub begun : Painter
  pub are : boxes ≡ root ∷ others
  pub rooted : IsRootOf w h names root begun
  pub planted : AreDone (IsPlanting names) others begun p

-- One of these boxes is refused, by a fault with this number, after those before it.
pub record IsUnbuilt (w h : ℤ) (names : List ℕ) (boxes : List RdBox) (n : ℕ) : Type 0 where
  pub root : RdBox
  pub others : List RdBox
  pub begun : Painter
  pub are : boxes ≡ root ∷ others
  pub rooted : IsRootOf w h names root begun
  pub refused : IsRefusedAmong names others n begun

-- The picture has the size of the canvas of the tree, and each of its pixels is that of the tree.
pub record Shows (t : Document) (c : Picture) : Type 0 where
  pub size : size_of c ≡ t.canvas
  pub pixels : (x y : ℕ) → x < c.width → y < c.height → pixel_at c (pos x) (pos y) ≡ Some (pixel (fresh_list t) (pos x) (pos y))

-- The engine was painted, and the four bytes of each of its pixels stand at the front of memory, row by row from the top.
pub record IsShown (p : Painter) (note : RdNote) (old new : List ℕ) : Type 0 where
  pub painted : Painter
  pub is : IsPainted note p painted
  pub shows : Shows p.engine.tree painted.engine.canvas
  pub bytes : new ≡ flat_map (quad 0) painted.engine.canvas.pixels ++ drop (4 * length painted.engine.canvas.pixels) old

-- So it was of an engine of these boxes.
pub record IsRendered (w h : ℤ) (names : List ℕ) (boxes : List RdBox) (note : RdNote) (old new : List ℕ) : Type 0 where
  pub scene : Painter
  pub built : IsBuilt w h names boxes scene
  pub shown : IsShown scene note old new
