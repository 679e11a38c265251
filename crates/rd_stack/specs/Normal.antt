-- Trees without blend modes and isolation: they are painted as CSS 2.2 Appendix E and CSS Color 3 say alone.
use Rattle.std.specs.Prelude.{◌≡◌, ℤ, pos, nat_lt, Bool, true, false, not, ◌&&◌, ◌||◌, if◌then◌else◌, Option, Some, None}
use Rattle.rd_geom.specs.Canvas.{canvas_of}
use Rattle.rd_geom.specs.Colors.{white}
use Rattle.rd_list.specs.Lists.{pixel}
use Rattle.rd_list.specs.NormalModes.{AreNormal, layered}
use Rattle.rd_style.specs.declared.styles.Style.{Style}
use Rattle.rd_style.specs.declared.kinds.Class.{Class}
use Rattle.rd_style.specs.declared.kinds.Class.TheVariants.{Layer, Float, Block}
use Rattle.rd_style.specs.Classes.{is_normal, is_isolate, positioned, floats, in_flow_class, is_fixed, class, level}
use Rattle.rd_tree.specs.Forest.{AllItems}
use Rattle.rd_tree.specs.Document.{Document}
use Rattle.rd_tree.specs.Drawn.{drawn}
use Rattle.rd_stack.specs.Paths.{is_context}
use Rattle.rd_stack.specs.Fresh.{Grouping, root_order, fresh_list}

-- a style of normal mode that does not isolate
pub record IsNormal (s : Style) : Type 0 where
  pub mode : is_normal s.blend ≡ true
  pub isolation : is_isolate s.isolation ≡ false

-- CSS 2.2 section 9.9.1 and CSS Color 3 section 3.2: the positioned and the translucent boxes
abbrev pub is_positioned_or_translucent : Style → Bool → Bool
is_positioned_or_translucent s root = not root && (positioned s || nat_lt s.opacity 255)

-- CSS 2.2 Appendix E.2: how a box takes part in painting, without modes
abbrev pub plain_class : Style → Bool → Class
plain_class s root =
    if is_positioned_or_translucent s root then Layer else
    if floats s root then Float else
    if root then Block else in_flow_class s.display

-- CSS 2.2 section 9.9.1: the used z-index, without modes
abbrev pub plain_z : Style → Option ℤ → Option ℤ
plain_z s (Some z) = Some z
plain_z s None = if nat_lt s.opacity 255 || is_fixed s.position then Some (pos 0) else None

-- CSS 2.2 section 9.9.1 and CSS Color 3 section 3.2: the level of a box, without modes
abbrev pub plain_level : Style → Bool → Option ℤ
plain_level s root =
    if root then Some (pos 0) else
    if is_positioned_or_translucent s root then (if positioned s then plain_z s s.z
    else Some (pos 0)) else None

-- CSS Color 3 section 3.2: a stacking context of opacity below one, which is 255
abbrev pub translucent : Grouping
translucent e below = is_context e && nat_lt e.here.style.opacity 255

-- Painting asks a style for its class, its level, its grouping and the mode of its group, and for nothing else that rests on
-- a mode; and what such groups show is what groups showed before there were modes.
pub record IsPaintedPlainly (t : Document) : Type 0 where
  pub classes : AllItems (λ d. (root : Bool) → class d.style root ≡ plain_class d.style root) t.boxes
  pub levels : AllItems (λ d. (root : Bool) → level d.style root ≡ plain_level d.style root) t.boxes
  pub order : fresh_list t ≡ root_order translucent (canvas_of t.canvas) (drawn t).boxes
  pub modes : AreNormal (fresh_list t)
  pub pixels : (x y : ℤ) → pixel (fresh_list t) x y ≡ layered x y white (fresh_list t)

-- so it is for every tree of such styles
abbrev pub NormalLaw : Type 0
NormalLaw = (t : Document) → AllItems (λ d. IsNormal d.style) t.boxes → IsPaintedPlainly t
