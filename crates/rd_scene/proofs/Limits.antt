-- What is within the limits.
use Rattle.std.proofs.Common.{◌≡◌, ℕ, ◌≤◌, nat_le, unwrap_or, ℤ, pos, ◌-ℤ◌, Bool, true, false, ◌&&◌, refl, ap, sym, subst, arith, Option, Some, None, Ok}
use Rattle.std.specs.Prelude.{IsTrue, IfSome, IfNone}
use Rattle.std.proofs.lemmas.Int.{ints}
use Rattle.rd_geom.specs.Plane.{Rectangle, IsPlaced}
use Rattle.rd_geom.specs.declared.color.Color.{Color}
use Rattle.rd_style.specs.Figures.{max_coordinate, max_extent}
use Rattle.rd_style.specs.Limits.{is_between, fits_rect, fits, FitsRect, Fits}
use Rattle.rd_style.specs.Changes.{plain, changed}
use Rattle.rd_style.proofs.Bounds.{fits_rect-open}
use Rattle.rd_style.specs.declared.styles.StyleChange.{StyleChange}
use Rattle.rd_style.specs.declared.kinds.Visibility.{Visibility}
use Rattle.rd_style.specs.declared.kinds.Pointer.{Pointer}
use Rattle.rd_style.specs.Figures.{max_line_width}
use Rattle.rd_geom.specs.declared.rect.Sides.{Sides}
use Rattle.std.proofs.lemmas.Bool.Decides.{nat_tests}
use Rattle.rd_scene.specs.Styles.{painting, joined}
use Rattle.rd_scene.specs.Rects.{Four, coordinate, extent, placed}
use Rattle.rd_scene.specs.Internal.Widths.{AreWidths}
use Rattle.rd_geom.specs.declared.blend.Blend.{Blend}
use Rattle.rd_geom.specs.declared.blend.Blend.TheVariants as blend
use Rattle.rd_style.specs.declared.kinds.Isolation.{Isolation}
use Rattle.rd_style.specs.declared.kinds.Isolation.TheVariants as isolation
use Rattle.rd_scene.specs.Versions.{HasStyle, HasChange}

both : (a b : Bool) → IsTrue a → IsTrue b → IsTrue (a && b)
both true b p q = q
both false b p q = absurd (let no : false ≡ true = p in cc)

five : (a b c d e : ℕ) → a ≤ max_line_width → b ≤ max_line_width → c ≤ max_line_width → d ≤ max_line_width → e ≤ max_line_width
    → IsTrue (nat_le a max_line_width && nat_le b max_line_width && nat_le c max_line_width && nat_le d max_line_width && nat_le e max_line_width)
five a b c d e p q r s t = grind (arith, nat_tests)

-- a rectangle whose numbers are within the limits
pub fits_four : (x y w h : ℤ) → IsTrue (is_between (pos 0 -ℤ max_coordinate) x max_coordinate) → IsTrue (is_between (pos 0 -ℤ max_coordinate) y max_coordinate)
    → IsTrue (is_between (pos 0) w max_extent) → IsTrue (is_between (pos 0) h max_extent) → FitsRect (record { x = x; y = y; w = w; h = h })
unfolding fits_rect
fits_four x y w h a b c d = both _ _ (both _ _ a b) (both _ _ c d)

pub fits_four_at : (x y w h : ℤ) (r : Rectangle) → r ≡ record { x = x; y = y; w = w; h = h } → IsTrue (is_between (pos 0 -ℤ max_coordinate) x max_coordinate)
    → IsTrue (is_between (pos 0 -ℤ max_coordinate) y max_coordinate) → IsTrue (is_between (pos 0) w max_extent) → IsTrue (is_between (pos 0) h max_extent) → FitsRect r
fits_four_at x y w h r e a b c d = subst FitsRect (sym e) (fits_four x y w h a b c d)

-- is where a rectangle may be
pub fits_placed : (r : Rectangle) → FitsRect r → IsPlaced r
fits_placed r f =
    let b = fits_rect-open r f in
    let x = b.x in
    let y = b.y in
    let w = b.w in
    let h = b.h in
    grind (arith, ints)

pub made_some : (o : Option Rectangle) (r q : Rectangle) → r ≡ q → FitsRect q → IfNone o (IsPlaced r → ⊥) → o ≡ None → ⊥
made_some None r q same f n e = n (subst IsPlaced (sym same) (fits_placed q f))
made_some (Some s) r q same f n e = cc

pub placed_is : (n : Four) (x y w h : ℤ) (r : Rectangle) → r ≡ record { x = x; y = y; w = w; h = h } → Ok x ≡ (coordinate n.0).first → Ok y ≡ (coordinate n.1).first
    → Ok w ≡ (extent n.2).first → Ok h ≡ (extent n.3).first → Ok r ≡ (placed n).first
unfolding placed
placed_is n x y w h r e a b c d = rw (sym a, sym b, sym c, sym d) (ap Ok e)

-- the default style, and ones with other widths
pub plain_fits : Fits plain
unfolding fits
plain_fits = refl

pub painting_fits : (b : Option Color) (w : Option Sides) (c : Option Color) (t : Option (Option Color)) (n : Option ℕ) (o : Option Color)
    → IfSome w AreWidths → IfSome n (λ m. m ≤ max_line_width) → Fits (changed plain (painting b w c t n o))
unfolding fits painting
painting_fits b w c t n o ws m = five _ _ _ _ _ (top w ws) (right w ws) (bottom w ws) (left w ws) (outline n m)
  where
    top : (w : Option Sides) → IfSome w AreWidths → (unwrap_or w plain.border_width).top ≤ max_line_width
    top None h = omega arith
    top (Some s) h = h.top

    right : (w : Option Sides) → IfSome w AreWidths → (unwrap_or w plain.border_width).right ≤ max_line_width
    right None h = omega arith
    right (Some s) h = h.right

    bottom : (w : Option Sides) → IfSome w AreWidths → (unwrap_or w plain.border_width).bottom ≤ max_line_width
    bottom None h = omega arith
    bottom (Some s) h = h.bottom

    left : (w : Option Sides) → IfSome w AreWidths → (unwrap_or w plain.border_width).left ≤ max_line_width
    left None h = omega arith
    left (Some s) h = h.left

    outline : (n : Option ℕ) → IfSome n (λ m. m ≤ max_line_width) → unwrap_or n 0 ≤ max_line_width
    outline None h = omega arith
    outline (Some k) h = h

pub joined_fits : (c p : StyleChange) (v : Option Visibility) (h : Option Pointer) (b : StyleChange) → Fits (changed plain p) → Fits (changed plain (joined c p v h b))
unfolding fits joined
joined_fits c p v h b f = f

-- what a version has

pub joined_had : (version : ℕ) (c p : StyleChange) (v : Option Visibility) (h : Option Pointer) (b : StyleChange) → HasChange version b → HasChange version (joined c p v h b)
unfolding joined
joined_had version c p v h b n = λ e. record { blend = (n e).blend; isolation = (n e).isolation }

pub changed_had : (version : ℕ) (c : StyleChange) → HasChange version c → HasStyle version (changed plain c)
changed_had version c n = λ e. record { blend = ap (λ (o : Option Blend). unwrap_or o blend.Normal) (n e).blend; isolation = ap (λ (o : Option Isolation). unwrap_or o isolation.Auto) (n e).isolation }

pub plain_had : (version : ℕ) → HasStyle version plain
plain_had version = λ e. record { blend = refl; isolation = refl }
