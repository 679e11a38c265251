-- Values that are changed and changed back.
use Rattle.std.proofs.Common.{◌≡◌, refl, ap, ◌∙◌, ℕ, ℤ, ◌+ℤ◌, ◌≤◌, true, ◌&&◌, arith}
use lib.IntN.{+ℤ_assoc, +ℤ_invr, +ℤ_idr}
use Rattle.std.specs.Prelude.{Option, Some, None, option_map, unwrap_or, neg_ℤ, nat_le}
use Rattle.std.specs.Option.{option_map_or}
use Rattle.rd_geom.specs.Plane.{Rectangle}
use Rattle.rd_geom.specs.declared.rect.Sides.{Sides}
use Rattle.rd_style.specs.declared.styles.Style.{Style}
use Rattle.rd_style.specs.declared.styles.StyleChange.{StyleChange}
use Rattle.rd_style.specs.Changes.{changed}
use Rattle.rd_style.specs.Limits.{Fits}
use Rattle.rd_style.proofs.Bounds.{WidthBounds, fits-open}
use Rattle.rd_tree.specs.Changes.{shifted}
use Rattle.rd_edits.specs.Ranges.{fits_sides, fits_change}
use Rattle.rd_undo.specs.Inverse.{previous}

back : {A : Type 0} (o : Option A) (x : A) → unwrap_or (option_map (λ _. x) o) (unwrap_or o x) ≡ x
back None x = refl
back (Some y) x = refl

-- A style that is changed and then gets its own values back.
pub style_back : (s : Style) (c : StyleChange) → changed (changed s c) (previous s c) ≡ s
style_back s c = rw (
  back c.position s.position,
  back c.z s.z,
  back c.opacity s.opacity,
  back c.overflow s.overflow,
  back c.display s.display,
  back c.float s.float,
  back c.background s.background,
  back c.border_width s.border_width,
  back c.border_color s.border_color,
  back c.content s.content,
  back c.outline_width s.outline_width,
  back c.outline_color s.outline_color,
  back c.visibility s.visibility,
  back c.pointer s.pointer,
  back c.blend s.blend,
  back c.isolation s.isolation,
) refl

within : (a : ℕ) → a ≤ 1000 → nat_le a 1000 ≡ true
within a h = grind arith

sides_fit : (s : Style) → Fits s → fits_sides s.border_width ≡ true
sides_fit s h =
    let w : WidthBounds s = fits-open s h in
    rw (within s.border_width.top w.top, within s.border_width.right w.right, within s.border_width.bottom w.bottom, within s.border_width.left w.left) refl

-- Its values are within the limits.
pub previous_fits : (s : Style) (c : StyleChange) → Fits s → fits_change (previous s c) ≡ true
previous_fits s c h = both c.border_width c.outline_width where
  both : (o : Option Sides) (q : Option ℕ) → (option_map_or fits_sides (option_map (λ _. s.border_width) o) true && option_map_or (λ w. nat_le w 1000) (option_map (λ _. s.outline_width) q) true) ≡ true
  both None None = refl
  both None (Some y) = within s.outline_width (fits-open s h).outline
  both (Some x) None = rw (sides_fit s h) refl
  both (Some x) (Some y) = rw (sides_fit s h) (within s.outline_width (fits-open s h).outline)

number_back : (x d : ℤ) → (x +ℤ d) +ℤ neg_ℤ d ≡ x
number_back x d = +ℤ_assoc x d (neg_ℤ d) ∙ (ap (λ z. x +ℤ z) (+ℤ_invr d) ∙ +ℤ_idr x)

-- A rectangle that is shifted and shifted back.
pub rect_back : (dx dy : ℤ) (r : Rectangle) → shifted (neg_ℤ dx) (neg_ℤ dy) (shifted dx dy r) ≡ r
rect_back dx dy r = rw (number_back r.x dx, number_back r.y dy) refl
