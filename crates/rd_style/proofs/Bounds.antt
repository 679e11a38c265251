-- What the tests of limits say, as facts about numbers.
use Rattle.std.proofs.Common.{◌≡◌, None, ℕ, ℤ, pos, ◌-ℤ◌, ◌≤◌, Bool, true, false, T, nat_le, int_le, refl}
use Rattle.std.specs.Prelude.{◌≤ℤ◌}
use Rattle.std.specs.Bool.{Decides, passes}
use Rattle.std.specs.Int.Signed.{le_z_yes}
use Rattle.std.proofs.lemmas.Bool.Decides.{Decides-and, Decides-like}
use Rattle.std.proofs.lemmas.Bool.{leb-true, le-leb}
use Rattle.rd_geom.specs.Plane.{Rectangle}
use Rattle.rd_style.specs.declared.styles.Style.{Style}
use Rattle.rd_style.specs.declared.styles.StyleChange.{StyleChange}
use Rattle.rd_style.specs.Changes.{plain, changed}
use Rattle.rd_style.specs.Figures.{max_line_width, max_coordinate, max_extent}
use Rattle.rd_style.specs.Limits.{is_between, fits_rect, FitsRect, fits, Fits}

-- a number from the one to the other, both included
pub record IsBetween (low v high : ℤ) : Type 0 where
  pub from : low ≤ℤ v
  pub to : v ≤ℤ high

-- where the rectangle of a box lies, and how large it is
pub record RectBounds (r : Rectangle) : Type 0 where
  pub x : IsBetween (pos 0 -ℤ pos 1000000) r.x (pos 1000000)
  pub y : IsBetween (pos 0 -ℤ pos 1000000) r.y (pos 1000000)
  pub w : IsBetween (pos 0) r.w (pos 1000000)
  pub h : IsBetween (pos 0) r.h (pos 1000000)

-- how wide the borders and the outline of a box are
pub record WidthBounds (s : Style) : Type 0 where
  pub top : s.border_width.top ≤ 1000
  pub right : s.border_width.right ≤ 1000
  pub bottom : s.border_width.bottom ≤ 1000
  pub left : s.border_width.left ≤ 1000
  pub outline : s.outline_width ≤ 1000

at_most : (a b : ℕ) → Decides (nat_le a b) (a ≤ b)
at_most a b = (leb-true a b, le-leb a b)

at_most_int : (a b : ℤ) → Decides (int_le a b) (a ≤ℤ b)
at_most_int a b = (λ e. le_z_yes (passes _ e), λ h. yes (int_le a b) h.le)
  where
    yes : (x : Bool) → T x → x ≡ true
    yes true h = refl
    yes false h = absurd h

between_decides : (low v high : ℤ) → Decides (is_between low v high) (IsBetween low v high)
between_decides low v high =
    Decides-like _ (λ p. record { from = p.0; to = p.1 }) (λ p. (p.from, p.to))
    (Decides-and _ _ (at_most_int low v) (at_most_int v high))

pub fits_rect-bounds : (r : Rectangle) → Decides (fits_rect r) (RectBounds r)
unfolding fits_rect
fits_rect-bounds r =
    Decides-like _
    (λ p. record { x = p.0.0; y = p.0.1; w = p.1.0; h = p.1.1 })
    (λ p. ((p.x, p.y), (p.w, p.h)))
    (Decides-and _ _
    (Decides-and _ _ (between_decides (pos 0 -ℤ max_coordinate) r.x max_coordinate) (between_decides (pos 0 -ℤ max_coordinate) r.y max_coordinate))
    (Decides-and _ _ (between_decides (pos 0) r.w max_extent) (between_decides (pos 0) r.h max_extent)))

pub fits-bounds : (s : Style) → Decides (fits s) (WidthBounds s)
unfolding fits
fits-bounds s =
    Decides-like _
    (λ p. record { top = p.0.0.0.0; right = p.0.0.0.1; bottom = p.0.0.1; left = p.0.1; outline = p.1 })
    (λ p. ((((p.top, p.right), p.bottom), p.left), p.outline))
    (Decides-and _ _ (Decides-and _ _
    (Decides-and _ _ (Decides-and _ _ (at_most s.border_width.top max_line_width) (at_most s.border_width.right max_line_width))
    (at_most s.border_width.bottom max_line_width)) (at_most s.border_width.left max_line_width)) (at_most s.outline_width max_line_width))

pub fits_rect-open : (r : Rectangle) → FitsRect r → RectBounds r
fits_rect-open r = (fits_rect-bounds r).0

pub fits_rect-close : (r : Rectangle) → RectBounds r → FitsRect r
fits_rect-close r = (fits_rect-bounds r).1

pub fits-open : (s : Style) → Fits s → WidthBounds s
fits-open s = (fits-bounds s).0

pub fits-close : (s : Style) → WidthBounds s → Fits s
fits-close s = (fits-bounds s).1

-- the style that nothing is said of, and each that a change gives which names no width
pub plain_fits : Fits plain
unfolding fits
plain_fits = refl

pub changed_fits : (s : Style) (c : StyleChange) → c.border_width ≡ None → c.outline_width ≡ None → Fits s → Fits (changed s c)
unfolding fits
changed_fits s c b o h = rw (b, o) h
