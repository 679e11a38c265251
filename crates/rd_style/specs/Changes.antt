-- Changes of style. What a change touches is this project's own choice.
use Rattle.std.specs.Prelude.{Bool, ◌&&◌, ◌||◌, None, is_some, unwrap_or}
pub use Rattle.rd_geom.specs.Colors.{black, transparent}
use Rattle.rd_geom.specs.declared.blend.Blend.TheVariants as blend
use Rattle.rd_style.specs.declared.styles.Style.{Style}
use Rattle.rd_style.specs.declared.styles.StyleChange.{StyleChange}
use Rattle.rd_style.specs.declared.kinds.Position.TheVariants as position
use Rattle.rd_style.specs.declared.kinds.Overflow.TheVariants as overflow
use Rattle.rd_style.specs.declared.kinds.Display.TheVariants as display
use Rattle.rd_style.specs.declared.kinds.Floating.TheVariants as floating
use Rattle.rd_style.specs.declared.kinds.Visibility.TheVariants as visibility
use Rattle.rd_style.specs.declared.kinds.Pointer.TheVariants as pointer
use Rattle.rd_style.specs.declared.kinds.Isolation.TheVariants as isolation
use Rattle.rd_style.specs.Classes.{clips}

-- the initial values of the property tables of CSS 2.2, CSS Color 3 and CSS Compositing 1; a border and an outline of no width, and no content
abbrev pub plain : Style
plain = record {
  position = position.Static;
  z = None;
  opacity = 255;
  overflow = overflow.Visible;
  display = display.Block;
  float = floating.No;
  background = transparent;
  border_width = record { top = 0; right = 0; bottom = 0; left = 0 };
  border_color = black;
  content = None;
  outline_width = 0;
  outline_color = black;
  visibility = visibility.Visible;
  pointer = pointer.Auto;
  blend = blend.Normal;
  isolation = isolation.Auto;
}

-- a style with the named members replaced
abbrev pub changed : Style → StyleChange → Style
changed s c = record {
  position = unwrap_or c.position s.position;
  z = unwrap_or c.z s.z;
  opacity = unwrap_or c.opacity s.opacity;
  overflow = unwrap_or c.overflow s.overflow;
  display = unwrap_or c.display s.display;
  float = unwrap_or c.float s.float;
  background = unwrap_or c.background s.background;
  border_width = unwrap_or c.border_width s.border_width;
  border_color = unwrap_or c.border_color s.border_color;
  content = unwrap_or c.content s.content;
  outline_width = unwrap_or c.outline_width s.outline_width;
  outline_color = unwrap_or c.outline_color s.outline_color;
  visibility = unwrap_or c.visibility s.visibility;
  pointer = unwrap_or c.pointer s.pointer;
  blend = unwrap_or c.blend s.blend;
  isolation = unwrap_or c.isolation s.isolation;
}

-- the change that names no member
abbrev pub nothing_named : StyleChange
nothing_named = record {
  position = None;
  z = None;
  opacity = None;
  overflow = None;
  display = None;
  float = None;
  background = None;
  border_width = None;
  border_color = None;
  content = None;
  outline_width = None;
  outline_color = None;
  visibility = None;
  pointer = None;
  blend = None;
  isolation = None;
}

-- Is a member named from which the class, the level, the group or the clip of the box and of those below it follow?
abbrev pub names_class : StyleChange → Bool
names_class c =
    is_some c.position || is_some c.z || is_some c.opacity
    || is_some c.overflow || is_some c.display || is_some c.float
    || is_some c.blend || is_some c.isolation

-- Is a member named at all?
abbrev pub names_any : StyleChange → Bool
names_any c =
    names_class c || is_some c.background || is_some c.border_width || is_some c.border_color
    || is_some c.content
    || is_some c.outline_width || is_some c.outline_color || is_some c.visibility
    || is_some c.pointer

-- Does the change touch the whole subtree? So it does where a class may follow, and where the borders of a box that clips change.
abbrev pub whole : Style → Bool → StyleChange → Bool
whole s root c = names_class c || (is_some c.border_width && clips s root)
