-- How a leaf is spelled, and which leaves have a spelling. The form is this project's own choice.
use Rattle.std.specs.Prelude.{◌≡◌, ℕ, ◌<◌, ◌^◌, List, ◌++◌, Bool, false, IsTrue}
use Rattle.std.specs.Int.{w64, to_be_bytes}
use Rattle.rd_geom.specs.Plane.{Rectangle, IsPlaced, IsWithin, has_none, no_pixels}
use Rattle.rd_geom.specs.declared.color.Color.{Color}
use Rattle.rd_item.specs.declared.leaf.Leaf.{Leaf}
use Rattle.rd_keys.specs.Keys.{BoxKey}
use Rattle.rd_keys.specs.declared.entry.Part.{Part}
use Rattle.rd_item.specs.Items.{Made}
use Rattle.rd_wire.specs.Fields.{key, part, rectangle, color, flag, IsKey, IsColor}

-- its box and its part
unfoldable pub name_form : BoxKey → Part → List ℕ
name_form owner p = key owner ++ part p

-- where it may be seen, and its outer and inner rectangle
unfoldable pub place_form : Rectangle → Rectangle → Rectangle → List ℕ
place_form visible outer inner = rectangle visible ++ (rectangle outer ++ rectangle inner)

-- its colour, whether it takes hits, and the number of its paint in 64 bits
unfoldable pub look_form : Color → Bool → ℕ → List ℕ
look_form c hits made = color c ++ (flag hits ++ to_be_bytes w64 made)

abbrev pub leaf_form : Made → List ℕ
leaf_form m =
    name_form m.leaf.owner m.leaf.part
    ++ (place_form m.leaf.visible m.leaf.shape.outer m.leaf.shape.inner ++ look_form m.leaf.color m.leaf.hits m.made_at)

-- its numbers fit the bytes that they are given, and its rectangles keep the limits of their type
pub record FitsLeaf (m : Made) : Type 0 where
  pub owner : IsKey m.leaf.owner
  pub visible : IsPlaced m.leaf.visible
  pub outer : IsPlaced m.leaf.shape.outer
  pub inner : IsPlaced m.leaf.shape.inner
  pub color : IsColor m.leaf.color
  pub made : m.made_at < 2 ^ 64

-- It may be seen somewhere, in its outer rectangle and on the canvas, and an inner rectangle without a pixel is that of four zeros.
pub record IsSeen (canvas : Rectangle) (l : Leaf) : Type 0 where
  pub some : has_none l.visible ≡ false
  pub in_outer : IsWithin l.visible l.shape.outer
  pub on_canvas : IsWithin l.visible canvas
  pub inner : IsTrue (has_none l.shape.inner) → l.shape.inner ≡ no_pixels
