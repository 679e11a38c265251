-- The values that the numbers of C stand for. The numbers are this project's own choice, in the order of the keywords.
use Rattle.std.specs.Prelude.{◌≡◌, ℕ, ◌==◌, if◌then◌else◌, bit_and, Option, Some, None}
use Rattle.rd_geom.specs.Plane.{Rectangle}
use Rattle.rd_geom.specs.declared.blend.Blend.{Blend}
use Rattle.rd_geom.specs.declared.blend.Blend.TheVariants as blend
use Rattle.rd_geom.specs.declared.color.Color.{Color}
use Rattle.rd_geom.specs.declared.rect.Sides.{Sides}
use Rattle.rd_style.specs.declared.styles.Style.{Style}
use Rattle.rd_style.specs.declared.styles.StyleChange.{StyleChange}
use Rattle.rd_style.specs.declared.kinds.Position.{Position}
use Rattle.rd_style.specs.declared.kinds.Position.TheVariants as position
use Rattle.rd_style.specs.declared.kinds.Overflow.{Overflow}
use Rattle.rd_style.specs.declared.kinds.Overflow.TheVariants as overflow
use Rattle.rd_style.specs.declared.kinds.Display.{Display}
use Rattle.rd_style.specs.declared.kinds.Display.TheVariants as display
use Rattle.rd_style.specs.declared.kinds.Floating.{Floating}
use Rattle.rd_style.specs.declared.kinds.Floating.TheVariants as floating
use Rattle.rd_style.specs.declared.kinds.Visibility.{Visibility}
use Rattle.rd_style.specs.declared.kinds.Visibility.TheVariants as visibility
use Rattle.rd_style.specs.declared.kinds.Pointer.{Pointer}
use Rattle.rd_style.specs.declared.kinds.Pointer.TheVariants as pointer
use Rattle.rd_style.specs.declared.kinds.Isolation.{Isolation}
use Rattle.rd_style.specs.declared.kinds.Isolation.TheVariants as isolation
use Rattle.rd_c.specs.declared.values.RdColor.{RdColor}
use Rattle.rd_c.specs.declared.values.RdRect.{RdRect}
use Rattle.rd_c.specs.declared.values.RdStyle.{RdStyle}

-- CSS 2.2 section 9.3.1
abbrev pub position_of : ℕ → Option Position
position_of n = if n == 0 then Some position.Static else if n == 1 then Some position.Relative else if n == 2 then Some position.Absolute else if n == 3 then Some position.Fixed else None

-- CSS 2.2 section 11.1.1
abbrev pub overflow_of : ℕ → Option Overflow
overflow_of n = if n == 0 then Some overflow.Visible else if n == 1 then Some overflow.Hidden else if n == 2 then Some overflow.Scroll else if n == 3 then Some overflow.Auto else None

-- CSS 2.2 section 9.2.4
abbrev pub display_of : ℕ → Option Display
display_of n = if n == 0 then Some display.Block else if n == 1 then Some display.Inline else if n == 2 then Some display.InlineBlock else None

-- CSS 2.2 section 9.5.1
abbrev pub floating_of : ℕ → Option Floating
floating_of n = if n == 0 then Some floating.No else if n == 1 then Some floating.Left else if n == 2 then Some floating.Right else None

-- CSS 2.2 section 11.2
abbrev pub visibility_of : ℕ → Option Visibility
visibility_of n = if n == 0 then Some visibility.Visible else if n == 1 then Some visibility.Hidden else if n == 2 then Some visibility.Collapse else None

-- whether a box takes hits
abbrev pub pointer_of : ℕ → Option Pointer
pointer_of n = if n == 0 then Some pointer.Auto else if n == 1 then Some pointer.Off else None

-- CSS Compositing 1 section 3.4.1
abbrev pub blend_of : ℕ → Option Blend
blend_of n = if n == 0 then Some blend.Normal else if n == 1 then Some blend.Multiply else if n == 2 then Some blend.Screen else if n == 3 then Some blend.Darken else if n == 4 then Some blend.Lighten else None

-- CSS Compositing 1 section 3.5
abbrev pub isolation_of : ℕ → Option Isolation
isolation_of n = if n == 0 then Some isolation.Auto else if n == 1 then Some isolation.Isolate else None

-- the same channels
abbrev pub color_of : RdColor → Color
color_of c = record { r = c.r; g = c.g; b = c.b; a = c.a }

-- the same corner and sides
abbrev pub rectangle_of : RdRect → Rectangle
rectangle_of r = record { x = r.x; y = r.y; w = r.w; h = r.h }

-- the four widths of a border
abbrev pub sides_of : RdStyle → Sides
sides_of s = record { top = s.border_top; right = s.border_right; bottom = s.border_bottom; left = s.border_left }

-- a value that is there where its flag is not 0
abbrev pub flagged : {A : Type 0} → ℕ → A → Option A
flagged flag x = if flag == 0 then None else Some x

-- a value where its bit is among those that are named
abbrev pub picked : {A : Type 0} → ℕ → ℕ → Option A → Option A
picked names bit o = if bit_and names bit == 0 then None else o

abbrev pub named : {A : Type 0} → ℕ → ℕ → A → Option A
named names bit x = picked names bit (Some x)

-- The numbers are those of this style.
pub record IsStyle (s : RdStyle) (t : Style) : Type 0 where
  pub position : position_of s.position ≡ Some t.position
  pub z : t.z ≡ flagged s.has_z s.z
  pub opacity : t.opacity ≡ s.opacity
  pub overflow : overflow_of s.overflow ≡ Some t.overflow
  pub display : display_of s.display ≡ Some t.display
  pub float : floating_of s.float ≡ Some t.float
  pub background : t.background ≡ color_of s.background
  pub border_width : t.border_width ≡ sides_of s
  pub border_color : t.border_color ≡ color_of s.border_color
  pub content : t.content ≡ flagged s.has_content (color_of s.content)
  pub outline_width : t.outline_width ≡ s.outline_width
  pub outline_color : t.outline_color ≡ color_of s.outline_color
  pub visibility : visibility_of s.visibility ≡ Some t.visibility
  pub pointer : pointer_of s.pointer ≡ Some t.pointer
  pub blend : blend_of s.blend ≡ Some t.blend
  pub isolation : isolation_of s.isolation ≡ Some t.isolation

-- The change gives the members whose bits are named these values: the first member has bit 1, the next 2, and so on.
pub record IsChange (s : RdStyle) (names : ℕ) (c : StyleChange) : Type 0 where
  pub position : c.position ≡ picked names 1 (position_of s.position)
  pub z : c.z ≡ named names 2 (flagged s.has_z s.z)
  pub opacity : c.opacity ≡ named names 4 s.opacity
  pub overflow : c.overflow ≡ picked names 8 (overflow_of s.overflow)
  pub display : c.display ≡ picked names 16 (display_of s.display)
  pub float : c.float ≡ picked names 32 (floating_of s.float)
  pub background : c.background ≡ named names 64 (color_of s.background)
  pub border_width : c.border_width ≡ named names 128 (sides_of s)
  pub border_color : c.border_color ≡ named names 256 (color_of s.border_color)
  pub content : c.content ≡ named names 512 (flagged s.has_content (color_of s.content))
  pub outline_width : c.outline_width ≡ named names 1024 s.outline_width
  pub outline_color : c.outline_color ≡ named names 2048 (color_of s.outline_color)
  pub visibility : c.visibility ≡ picked names 4096 (visibility_of s.visibility)
  pub pointer : c.pointer ≡ picked names 8192 (pointer_of s.pointer)
  pub blend : c.blend ≡ picked names 16384 (blend_of s.blend)
  pub isolation : c.isolation ≡ picked names 32768 (isolation_of s.isolation)
