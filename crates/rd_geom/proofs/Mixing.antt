use Rattle.std.proofs.Common.{◌≡◌, ℕ, ◌+◌, ◌-◌, ◌≤◌, arith, ap, ◌∙◌, refl}
use Rattle.std.proofs.Math.Nat.{mul-le-mul_left}
use Rattle.rd_geom.specs.Colors.{Premultiplied, times, laid_over, scaled, clear}
use Rattle.rd_geom.specs.Blends.{blended}
use Rattle.rd_geom.specs.declared.blend.Blend.{Blend}
use Rattle.rd_geom.specs.declared.blend.Blend.TheVariants.{Normal, Multiply, Screen, Darken, Lighten}
use Rattle.rd_geom.proofs.Products.{times_none, times_by_none, times_by_whole}

-- a product is at most its first factor
pub times_fits_left : (a b : ℕ) → b ≤ 255 → times a b ≤ a
times_fits_left a b p = let h = mul-le-mul_left a p in omega (arith, h)

abbrev px : ℕ → ℕ → ℕ → ℕ → Premultiplied
px r g b a = record { r = r; g = g; b = b; a = a }

same_px : (r g b a s h c e : ℕ) → r ≡ s → g ≡ h → b ≡ c → a ≡ e → px r g b a ≡ px s h c e
same_px r g b a s h c e i j k l = ap (λ n. px n g b a) i ∙ ap (λ n. px s n b a) j ∙ ap (λ n. px s h n a) k ∙ ap (λ n. px s h c n) l

-- what has no colour has none at any opacity
pub scaled_clear : (k : ℕ) → scaled clear k ≡ clear
scaled_clear k = same_px _ _ _ _ 0 0 0 0 (times_none k) (times_none k) (times_none k) (times_none k)

-- nor has anything at no opacity
pub scaled_none : (q : Premultiplied) → scaled q 0 ≡ clear
scaled_none q = same_px _ _ _ _ 0 0 0 0 (times_by_none q.r) (times_by_none q.g) (times_by_none q.b) (times_by_none q.a)

under : (d : ℕ) → 0 + times d (255 - 0) ≡ d
under d = let h = times_by_whole d in omega (arith, h)

-- what has no colour leaves the backdrop, whatever the mode
pub clear_over : (d : Premultiplied) → laid_over clear d ≡ d
clear_over d = same_px _ _ _ _ d.r d.g d.b d.a (under d.r) (under d.g) (under d.b) (under d.a)

pub clear_blended : (m : Blend) (d : Premultiplied) → blended m clear d ≡ d
clear_blended Normal d = clear_over d
clear_blended Multiply d = refl
clear_blended Screen d = refl
clear_blended Darken d = refl
clear_blended Lighten d = refl

pub nothing_blended : (m : Blend) (k : ℕ) (d : Premultiplied) → blended m (scaled clear k) d ≡ d
nothing_blended m k d = ap (λ (q : Premultiplied). blended m q d) (scaled_clear k) ∙ clear_blended m d
