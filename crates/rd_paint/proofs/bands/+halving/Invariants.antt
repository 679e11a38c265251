use Rattle.std.proofs.Common.{◌+◌, ◌-◌, ◌*◌}
use Rattle.rd_paint.proofs.bands.+halving.Given as goal

abbrev pub decreases-paint_band : goal.decreases-paint_band
decreases-paint_band g l = 2 * (l.band.strip.y1 - l.band.strip.y0)

abbrev pub decreases-paint_half : goal.decreases-paint_half
decreases-paint_half g l = 2 * (l.band.strip.y1 - l.band.strip.y0) + 1
