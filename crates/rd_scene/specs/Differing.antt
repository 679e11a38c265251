-- What of a style differs from the defaults.
use Rattle.std.specs.Prelude.{ℕ, ◌==◌, ◌&&◌, if◌then◌else◌, Option, Some, None, option_map}
use Rattle.rd_geom.specs.declared.color.Color.{Color}
use Rattle.rd_geom.specs.Colors.{black, transparent}
use Rattle.rd_geom.specs.declared.rect.Sides.{Sides}
use Rattle.rd_geom.specs.declared.blend.Blend.{Blend}
use Rattle.rd_geom.specs.declared.blend.Blend.TheVariants as blend
use Rattle.rd_style.specs.declared.styles.Style.{Style}
use Rattle.rd_style.specs.declared.styles.StyleChange.{StyleChange}
use Rattle.rd_style.specs.declared.kinds.Position.{Position}
use Rattle.rd_style.specs.declared.kinds.Position.TheVariants as position
use Rattle.rd_style.specs.declared.kinds.Overflow.{Overflow}
use Rattle.rd_style.specs.declared.kinds.Overflow.TheVariants as overflow
use Rattle.rd_style.specs.declared.kinds.Display.{Display}
use Rattle.rd_style.specs.declared.kinds.Display.TheVariants as display
use Rattle.rd_style.specs.declared.kinds.Floating.{Floating}
use Rattle.rd_style.specs.declared.kinds.Floating.TheVariants as floating
use Rattle.rd_style.specs.declared.kinds.Visibility.{Visibility}
use Rattle.rd_style.specs.declared.kinds.Visibility.TheVariants as visibility
use Rattle.rd_style.specs.declared.kinds.Pointer.{Pointer}
use Rattle.rd_style.specs.declared.kinds.Pointer.TheVariants as pointer
use Rattle.rd_style.specs.declared.kinds.Isolation.{Isolation}
use Rattle.rd_style.specs.declared.kinds.Isolation.TheVariants as isolation

-- a position other than the default
abbrev pub position_unless : Position → Option Position
position_unless position.Static = None
position_unless position.Relative = Some position.Relative
position_unless position.Absolute = Some position.Absolute
position_unless position.Fixed = Some position.Fixed

-- an overflow other than the default
abbrev pub overflow_unless : Overflow → Option Overflow
overflow_unless overflow.Visible = None
overflow_unless overflow.Hidden = Some overflow.Hidden
overflow_unless overflow.Scroll = Some overflow.Scroll
overflow_unless overflow.Auto = Some overflow.Auto

-- a display other than the default
abbrev pub display_unless : Display → Option Display
display_unless display.Block = None
display_unless display.Inline = Some display.Inline
display_unless display.InlineBlock = Some display.InlineBlock

-- a float other than the default
abbrev pub float_unless : Floating → Option Floating
float_unless floating.No = None
float_unless floating.Left = Some floating.Left
float_unless floating.Right = Some floating.Right

-- a visibility other than the default
abbrev pub visibility_unless : Visibility → Option Visibility
visibility_unless visibility.Visible = None
visibility_unless visibility.Hidden = Some visibility.Hidden
visibility_unless visibility.Collapse = Some visibility.Collapse

-- a pointer other than the default
abbrev pub pointer_unless : Pointer → Option Pointer
pointer_unless pointer.Auto = None
pointer_unless pointer.Off = Some pointer.Off

-- a blend mode other than the default
abbrev pub blend_unless : Blend → Option Blend
blend_unless blend.Normal = None
blend_unless blend.Multiply = Some blend.Multiply
blend_unless blend.Screen = Some blend.Screen
blend_unless blend.Darken = Some blend.Darken
blend_unless blend.Lighten = Some blend.Lighten

-- an isolation other than the default
abbrev pub isolation_unless : Isolation → Option Isolation
isolation_unless isolation.Auto = None
isolation_unless isolation.Isolate = Some isolation.Isolate

-- a number other than this
abbrev pub number_unless : ℕ → ℕ → Option ℕ
number_unless default n = if n == default then None else Some n

-- a colour other than this
abbrev pub color_unless : Color → Color → Option Color
color_unless d c = if (c.r == d.r) && (c.g == d.g) && (c.b == d.b) && (c.a == d.a) then None else Some c

-- widths other than none
abbrev pub sides_unless : Sides → Option Sides
sides_unless s = if (s.top == 0) && (s.right == 0) && (s.bottom == 0) && (s.left == 0) then None else Some s

-- the members of a style that differ from the defaults
unfoldable pub differing : Style → StyleChange
differing s = record {
  position = position_unless s.position;
  z = option_map Some s.z;
  opacity = number_unless 255 s.opacity;
  overflow = overflow_unless s.overflow;
  display = display_unless s.display;
  float = float_unless s.float;
  background = color_unless transparent s.background;
  border_width = sides_unless s.border_width;
  border_color = color_unless black s.border_color;
  content = option_map Some s.content;
  outline_width = number_unless 0 s.outline_width;
  outline_color = color_unless black s.outline_color;
  visibility = visibility_unless s.visibility;
  pointer = pointer_unless s.pointer;
  blend = blend_unless s.blend;
  isolation = isolation_unless s.isolation;
}
