-- Lists laid over a run of pixels.
use Rattle.std.specs.Prelude.{◌≡◌, ◌<◌, ◌≤◌, length, ℕ, suc, ℤ, pos, ◌+ℤ◌, ◌&&◌, not, if◌then◌else◌, List, [], ◌∷◌, get_or}
use Rattle.rd_geom.specs.Blends.{blended}
use Rattle.rd_geom.specs.Colors.{Premultiplied, laid_over, scaled, clear}
use Rattle.rd_geom.specs.Areas.{in_span}
use Rattle.rd_geom.specs.Plane.{Rectangle, is_among, holds_pixel}
use Rattle.rd_geom.specs.declared.blend.Blend.{Blend}
use Rattle.rd_geom.specs.declared.span.Span.{Span}
use Rattle.rd_item.specs.declared.leaf.Leaf.{Leaf}
use Rattle.rd_list.specs.Wrappers.{Wrapper}
use Rattle.rd_list.specs.Entries.{Entries}
use Rattle.rd_list.specs.Lists.{composed}

-- each element changed by its place, of which the first is i
abbrev pub each_from : {A : Type 0} → ℕ → (ℕ → A → A) → List A → List A
each_from i f [] = []
each_from i f (x ∷ xs) = f i x ∷ each_from (suc i) f xs

-- each element changed by its place
abbrev pub each_at : {A : Type 0} → (ℕ → A → A) → List A → List A
each_at f xs = each_from 0 f xs

-- pixels of row y from column x on, with a list laid over each of them
abbrev pub laid_along : ℤ → ℤ → Entries Wrapper Leaf → List Premultiplied → List Premultiplied
laid_along y x es ps = each_at (λ k p. composed (x +ℤ pos k) y p es) ps

-- a row put onto pixels by a blend mode, as the group that it is of lets through
abbrev pub row_laid : Blend → ℕ → List Premultiplied → List Premultiplied → List Premultiplied
row_laid blend opacity row ps = each_at (λ k p. blended blend (scaled (get_or row k clear) opacity) p) ps

-- pixels of row y from column x on, with a group of a list put onto each of them by a blend mode
abbrev pub laid_along_group : ℤ → ℤ → Blend → ℕ → Entries Wrapper Leaf → List Premultiplied → List Premultiplied
laid_along_group y x blend opacity inner ps =
    each_at (λ k p. blended blend (scaled (composed (x +ℤ pos k) y clear inner) opacity) p) ps

-- one pixel laid over each
abbrev pub tinted : Premultiplied → List Premultiplied → List Premultiplied
tinted q ps = each_at (λ k p. laid_over q p) ps

-- one pixel laid over those of the pixels from column x on that are in a span
abbrev pub piece_laid : Span → Premultiplied → ℤ → List Premultiplied → List Premultiplied
piece_laid s q x ps = each_at (λ k p. if in_span s (x +ℤ pos k) then laid_over q p else p) ps

-- one pixel laid over those of the pixels from column x on that are in a span and not in the columns of a hole
abbrev pub round_laid : Span → Rectangle → Premultiplied → ℤ → List Premultiplied → List Premultiplied
round_laid s h q x ps = each_at (λ k p.
    if in_span s (x +ℤ pos k) && not (is_among h.x h.w (x +ℤ pos k)) then laid_over q p else p) ps

-- one pixel laid over those of the pixels of row y from column x on that are in a span and not in a hole
abbrev pub holed_laid : Span → Rectangle → Premultiplied → ℤ → ℤ → List Premultiplied → List Premultiplied
holed_laid s h q y x ps = each_at (λ k p.
    if in_span s (x +ℤ pos k) && not (holds_pixel h (x +ℤ pos k) y) then laid_over q p else p) ps

-- one pixel laid over those of the pixels of row y from column x on that are not in a hole
abbrev pub laid_around : Rectangle → Premultiplied → ℤ → ℤ → List Premultiplied → List Premultiplied
laid_around h q y x ps = each_at (λ k p. if not (holds_pixel h (x +ℤ pos k) y) then laid_over q p else p) ps

-- the pixels from place i up to place j were all p and became q, and no other pixel changed
pub record IsTurned (p q : Premultiplied) (i j : ℕ) (old new : List Premultiplied) : Type 0 where
  pub count : length new ≡ length old
  pub were : (k : ℕ) → i ≤ k → k < j → get_or old k clear ≡ p
  pub are : (k : ℕ) → i ≤ k → k < j → get_or new k clear ≡ q
  pub before : (k : ℕ) → k < i → get_or new k clear ≡ get_or old k clear
  pub after : (k : ℕ) → j ≤ k → get_or new k clear ≡ get_or old k clear
