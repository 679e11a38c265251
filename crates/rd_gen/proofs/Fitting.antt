-- What is drawn is within the limits.
use Rattle.std.proofs.Common.{◌≡◌, ℕ, zero, suc, ℤ, pos, ◌-ℤ◌, ◌<◌, ◌≤◌, ◌==◌, Bool, true, false, ◌&&◌, T, int_le, nat_lt, if◌then◌else◌, List, All, refl, arith}
use Rattle.std.specs.Prelude.{IsTrue}
use Rattle.std.proofs.lemmas.Int.{ints}
use Rattle.std.proofs.lemmas.List.Elements.{All-nil, All-push}
use Rattle.rd_geom.specs.declared.color.Color.{Color}
use Rattle.rd_style.specs.Changes.{plain}
use Rattle.rd_scene.specs.Figures.{max_distance}
use Rattle.rd_style.specs.Limits.{is_between, fits, fits_rect, FitsRect, Fits}
use Rattle.rd_style.specs.declared.styles.Style.{Style}
use Rattle.rd_style.proofs.Bounds.{fits_rect-close, IsBetween}
use Rattle.rd_scene.specs.declared.script.SceneBox.{SceneBox}
use Rattle.rd_scene.specs.Scripts.{FitsBox}
use Rattle.rd_gen.specs.Draws.{Drawing, drawn, below, below_less, give, ◌>>=◌}
use Rattle.rd_gen.specs.Values.{rectangle}
use Rattle.rd_gen.specs.Boxes.{root, parent_by, style_by, style, box_below, box, boxes}

pub below_under : (n s : ℕ) → 1 ≤ n → (below n s).0 < n
unfolding below drawn
below_under n s h = omega arith

-- a number below n, less so many
pub between_less : (n less s : ℕ) → 1 ≤ n → n ≤ 1000 → less ≤ 1000 → IsBetween (pos 0 -ℤ pos 1000) (below_less n less s).0 (pos 1000)
unfolding below_less
between_less n less s some most little =
    let h = below_under n s some in
    record { from = omega (arith, ints); to = omega (arith, ints) }

low_enough : (v : ℕ) → v < 65 → IsBetween (pos 0) (pos v) (pos 1000000)
low_enough v h = record { from = omega (arith, ints); to = omega (arith, ints) }

near_enough : (v : ℤ) → IsBetween (pos 0 -ℤ pos 1000) v (pos 1000) → IsBetween (pos 0 -ℤ pos 1000000) v (pos 1000000)
near_enough v h = record { from = omega (arith, ints); to = omega (arith, ints) }

pub rectangle_fits : (s : ℕ) → FitsRect (rectangle s).0
unfolding rectangle
rectangle_fits s = fits_rect-close _ (record {
  x = near_enough _ (between_less 288 32 _ (omega arith) (omega arith) (omega arith));
  y = near_enough _ (between_less 288 32 _ (omega arith) (omega arith) (omega arith));
  w = low_enough _ (below_under 65 _ (omega arith));
  h = low_enough _ (below_under 65 _ (omega arith));
})

-- whichever of two is drawn
pub either : {A : Type 0} (P : A → Type 0) (b : Bool) (d e : Drawing A) (s : ℕ) → P (d s).0 → P (e s).0 → P ((if b then d else e) s).0
either P true d e s p q = p
either P false d e s p q = q

style_by_fits : (k s : ℕ) → Fits (style_by k s).0
unfolding style_by fits
style_by_fits k s =
    either Fits (nat_lt k 6) _ _ s refl (either Fits (k == 6) _ _ s refl (either Fits (k == 7) _ _ s refl
    (either Fits (k == 8) _ _ s refl (either Fits (k == 9) _ _ s refl (either Fits (k == 10) _ _ s refl
    (either Fits (k == 11) _ _ s refl (either Fits (k == 12) _ _ s refl (either Fits (k == 13) _ _ s refl
    (either Fits (k == 14) _ _ s refl refl)))))))))

pub recoloured : (s : Style) (c : Color) → Fits s → Fits (record s { background = c })
unfolding fits
recoloured s c h = h

style_fits : (s : ℕ) → Fits (style s).0
unfolding style
style_fits s = recoloured _ _ (style_by_fits _ _)

box_below_fits : (i parent s : ℕ) → FitsBox (box_below i parent s).0
unfolding box_below
box_below_fits i parent s = record { rect = rectangle_fits _; style = style_fits _ }

root_fits : FitsBox root
unfolding fits fits_rect
root_fits = record { rect = refl; style = refl }

box_fits : (i : ℕ) (before : List SceneBox) (s : ℕ) → FitsBox (box i before s).0
unfolding box
box_fits i before s = either FitsBox (i == 0) (give root) (below i >>= λ p. box_below i (parent_by before p)) s root_fits (box_below_fits _ _ _)

pub boxes_fit : (n s : ℕ) → All FitsBox (boxes n s).0
unfolding boxes
boxes_fit zero s = All-nil FitsBox
boxes_fit (suc i) s = All-push FitsBox (boxes i s).0 _ (boxes_fit i s) (box_fits i (boxes i s).0 (boxes i s).1)

pub plain_fits : Fits plain
unfolding fits
plain_fits = refl

between_closed : (low v high : ℤ) → IsBetween low v high → IsTrue (is_between low v high)
between_closed low v high h = both (int_le low v) (int_le v high) h.from.le h.to.le
  where
    both : (a b : Bool) → T a → T b → (a && b) ≡ true
    both true true p q = refl
    both true false p q = absurd q
    both false b p q = absurd p

-- a distance that a box may be shifted by
pub is_true_between : (v : ℤ) → IsBetween (pos 0 -ℤ pos 1000) v (pos 1000) → IsTrue (is_between (pos 0 -ℤ max_distance) v max_distance)
is_true_between v h = between_closed (pos 0 -ℤ max_distance) v max_distance (record { from = omega (arith, ints); to = omega (arith, ints) })
