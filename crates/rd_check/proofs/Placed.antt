-- Rectangles that are placed.
use Rattle.std.proofs.Common.{◌≡◌, ℤ, pos, Bool, true, false, cond, T, Some, None, refl}
use Rattle.std.specs.Prelude.{int_le, ◌≤ℤ◌}
use Rattle.std.specs.Bool.{Decides, passes}
use Rattle.std.specs.Int.Signed.{le_z_yes}
use Rattle.std.proofs.lemmas.Bool.Decides.{Decides-and, Decides-like}
use Rattle.rd_geom.specs.Plane.{Rectangle, IsPlaced, right, bottom, int_low}
use Rattle.rd_geom.specs.Figures.{max_reach}
use Rattle.rd_check.specs.Internal.Rows.{is_placed, placed_rect}

at_most : (a b : ℤ) → Decides (int_le a b) (a ≤ℤ b)
at_most a b = (λ e. le_z_yes (passes _ e), λ h. yes (int_le a b) h.le)
  where
    yes : (x : Bool) → T x → x ≡ true
    yes true h = refl
    yes false h = absurd h

-- the test says so
pub placed_decides : (r : Rectangle) → Decides (is_placed r) (IsPlaced r)
placed_decides r =
    Decides-like _
    (λ p. record { wide = p.0.0.0.0.0; high = p.0.0.0.0.1; from_left = p.0.0.0.1; from_top = p.0.0.1; to_right = p.0.1; to_bottom = p.1 })
    (λ p. (((((p.wide, p.high), p.from_left), p.from_top), p.to_right), p.to_bottom))
    (Decides-and _ _ (Decides-and _ _ (Decides-and _ _ (Decides-and _ _ (Decides-and _ _ (at_most (pos 0) r.w) (at_most (pos 0) r.h))
    (at_most int_low r.x)) (at_most int_low r.y)) (at_most (right r) max_reach)) (at_most (bottom r) max_reach))

pub placed_back : (r : Rectangle) → is_placed r ≡ true → IsPlaced r
placed_back r h = (placed_decides r).0 h

pub placed_true : (r : Rectangle) → IsPlaced r → is_placed r ≡ true
placed_true r p = (placed_decides r).1 p

pub placed_some : (r : Rectangle) → IsPlaced r → placed_rect r ≡ Some r
placed_some r p = rw (placed_true r p) refl

pub placed_none : (r : Rectangle) → (IsPlaced r → ⊥) → placed_rect r ≡ None
placed_none r never = by_test (is_placed r) refl
  where
    by_test : (b : Bool) → is_placed r ≡ b → cond b (Some r) None ≡ None
    by_test true e = absurd (never (placed_back r e))
    by_test false e = refl

pub ruleset placing = (placed_some, placed_none)
