-- What is on a canvas stays there while its pixels change.
use Rattle.std.proofs.Common.{◌≡◌, ℕ, pos, ◌+◌, ◌<◌, ◌≤◌, ◌≤ℤ◌, arith, sym, subst}
use Rattle.rd_paint.specs.Pictures.{Picture}
use Rattle.rd_paint.specs.declared.strip.Strip.{Strip}
use Rattle.rd_paint.specs.declared.strip.PixelRect.{PixelRect}
use Rattle.rd_paint.specs.Internal.Strips.{IsRectOn, IsStripOn}

module _ (old new : Picture) where
  pub strip_still : (s : Strip) → new.width ≡ old.width → new.height ≡ old.height → IsStripOn old s → IsStripOn new s
  strip_still s w h o = record {
    limits = record { wide = subst (λ (n : ℕ). s.corner.left + n ≤ 4096) (sym w) o.limits.wide; high = subst (λ (n : ℕ). s.corner.top + n ≤ 4096) (sym h) o.limits.high };
    rows = o.rows;
    above = o.above;
    on = subst (λ (n : ℕ). s.y1 ≤ s.corner.top + n) (sym h) o.on;
  }

  pub rect_still : (b : PixelRect) → new.width ≡ old.width → new.height ≡ old.height → IsRectOn old b → IsRectOn new b
  rect_still b w h o = record {
    strip = strip_still b.strip w h o.strip;
    from = o.from;
    order = o.order;
    within = subst (λ (n : ℕ). b.span.x1 ≤ℤ pos (b.strip.corner.left + n)) (sym w) o.within;
  }

-- rows among those of a strip
pub strip_part : (c : Picture) (s : Strip) (y0 y1 : ℕ) → s.y0 ≤ y0 → y0 ≤ y1 → y1 ≤ s.y1 → IsStripOn c s → IsStripOn c (record { corner = s.corner; y0 = y0; y1 = y1 })
strip_part c s y0 y1 a b d o = record { limits = o.limits; rows = b; above = omega (arith, a, o.above); on = omega (arith, d, o.on) }
