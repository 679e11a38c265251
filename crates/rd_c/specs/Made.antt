-- The engines that C makes. All of it is this project's own choice.
use Rattle.std.specs.Prelude.{◌≡◌, ℕ, ℤ, List}
use Rattle.rd_geom.specs.Plane.{Rectangle}
use Rattle.rd_geom.specs.declared.rect.Size.{Size}
use Rattle.rd_style.specs.declared.styles.Style.{Style}
use Rattle.rd_tree.specs.Changes.{new_item}
use Rattle.rd_tree.specs.Forest.{tree, empty}
use Rattle.rd_tree.specs.Touching.{touch}
use Rattle.rd_engine.specs.Painted.{IsBegun}
use Rattle.rd_engine.specs.State.{EngineState}
use Rattle.rd_c.specs.Spelled.{IsStyle, rectangle_of}
use Rattle.rd_c.specs.declared.values.RdRect.{RdRect}
use Rattle.rd_c.specs.declared.values.RdStyle.{RdStyle}

-- an engine that has not painted, of a canvas of this size and a root with this id, rectangle and style
pub record IsStarted (size : Size) (root : List ℕ) (place : Rectangle) (style : Style) (e : EngineState) : Type 0 where
  pub canvas : e.tree.canvas ≡ size
  pub boxes : e.tree.boxes ≡ tree e.tree.root (touch (new_item root place style)) empty empty
  pub begun : IsBegun e.tree e

-- the same, of the numbers of C
pub record IsMade (w h : ℤ) (root : List ℕ) (place : RdRect) (look : RdStyle) (e : EngineState) : Type 0 where
  pub style : Style
  pub is : IsStyle look style
  pub started : IsStarted (record { w = w; h = h }) root (rectangle_of place) style e
