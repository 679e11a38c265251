-- The canonical text of a script reads as that script again. Which values a script may hold beyond its rules is what
-- its types say: an id is an id, and a number fits its bits.
use Rattle.std.specs.Prelude.{◌≡◌, ◌<◌, ℕ, ℤ, pos, negsuc, List, All, Option, IfSome, IsTrue}
use Rattle.rd_geom.specs.declared.color.Color.{Color}
use Rattle.rd_style.specs.Limits.{is_between}
use Rattle.rd_style.specs.declared.styles.Style.{Style}
use Rattle.rd_style.specs.declared.styles.StyleChange.{StyleChange}
use Rattle.rd_tree.specs.Ids.{is_id}
use Rattle.rd_edits.specs.declared.edit.Edit.{Edit}
use Rattle.rd_edits.specs.declared.edit.Edit.TheVariants.{Insert, Remove, Move, SetStyle, SetRect, Shift, Scroll}
use Rattle.rd_scene.specs.declared.script.SceneBox.{SceneBox}
use Rattle.rd_scene.specs.declared.script.Command.{Command}
use Rattle.rd_scene.specs.declared.script.Command.TheVariants.{Change, Paint, Hit, Pixel, Dump, Shot, Undo}
use Rattle.rd_scene.specs.Checked.{good}
use Rattle.rd_scene.specs.Scripts.{Script, IsScript, reading_of}
use Rattle.rd_scene.specs.Writing.{scene_value}

-- the text of an id
abbrev pub IsId : List ℕ → Type 0
IsId id = IsTrue (is_id id)

-- the same, where there is one
abbrev pub IsIdOrNone : Option (List ℕ) → Type 0
IsIdOrNone id = IfSome id IsId

-- a channel of 8 bits
abbrev pub IsChannel : ℕ → Type 0
IsChannel n = n < 256

-- a colour of such channels
pub record IsColor (c : Color) : Type 0 where
  pub r : IsChannel c.r
  pub g : IsChannel c.g
  pub b : IsChannel c.b
  pub a : IsChannel c.a

-- a z-index of 32 bits, or none
abbrev pub IsLevel : Option ℤ → Type 0
IsLevel z = IfSome z (λ n. IsTrue (is_between (negsuc 2147483647) n (pos 2147483647)))

-- the colour of a content, or none
abbrev pub IsContent : Option Color → Type 0
IsContent c = IfSome c IsColor

-- a style whose numbers fit their bits
pub record IsStyle (s : Style) : Type 0 where
  pub z : IsLevel s.z
  pub opacity : IsChannel s.opacity
  pub background : IsColor s.background
  pub border_color : IsColor s.border_color
  pub content : IsContent s.content
  pub outline_color : IsColor s.outline_color

-- a change of style whose numbers fit their bits
pub record IsChange (c : StyleChange) : Type 0 where
  pub z : IfSome c.z IsLevel
  pub opacity : IfSome c.opacity IsChannel
  pub background : IfSome c.background IsColor
  pub border_color : IfSome c.border_color IsColor
  pub content : IfSome c.content IsContent
  pub outline_color : IfSome c.outline_color IsColor

-- a box with ids and such a style
pub record IsBox (b : SceneBox) : Type 0 where
  pub id : IsId b.id
  pub parent : IsIdOrNone b.parent
  pub style : IsStyle b.style

-- an edit of ids and such styles
abbrev pub IsEdit : Edit → Type 0
IsEdit (Insert id parent before rect style) = IsId id × IsId parent × IsIdOrNone before × IsStyle style
IsEdit (Remove id) = IsId id
IsEdit (Move id parent before) = IsId id × IsId parent × IsIdOrNone before
IsEdit (SetStyle id change) = IsId id × IsChange change
IsEdit (SetRect id rect) = IsId id
IsEdit (Shift id dx dy) = IsId id
IsEdit (Scroll id x y) = IsId id

-- a command of such an edit
abbrev pub IsCommand : Command → Type 0
IsCommand (Change e) = IsEdit e
IsCommand Paint = Unit {0}
IsCommand (Hit x y) = Unit {0}
IsCommand (Pixel x y) = Unit {0}
IsCommand Dump = Unit {0}
IsCommand Shot = Unit {0}
IsCommand Undo = Unit {0}

-- the values that the types of a script's parts have
pub record HasItsTypes (s : Script) : Type 0 where
  pub boxes : All IsBox s.boxes
  pub commands : All IsCommand s.commands

-- The value that is written of a script breaks no rule, and is that script.
abbrev pub CanonicalLaw : Type 0
CanonicalLaw = (s : Script) → IsScript s → HasItsTypes s → reading_of (scene_value s) ≡ good s
