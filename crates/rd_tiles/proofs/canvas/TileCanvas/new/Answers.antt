use Rattle.rd_tiles.proofs.Whitening.{blank_pixels, blank_stamps, blank_tiled}
use Rattle.rd_tiles.proofs.canvas.TileCanvas.new.Goals as goal

pub invariant_of-result : goal.invariant_of-result
invariant_of-result c = blank_tiled c.args.size c.in_ok-tiles.tiles.items c.requires c.in_ok-tiles.ensures

pub returns-clause-pixels : goal.returns-clause-pixels
returns-clause-pixels c = blank_pixels c.args.size c.in_ok-tiles.tiles.items c.requires c.in_ok-tiles.ensures

pub returns-clause-stamps : goal.returns-clause-stamps
returns-clause-stamps c = blank_stamps c.args.size c.in_ok-tiles.tiles.items c.requires c.in_ok-tiles.ensures
