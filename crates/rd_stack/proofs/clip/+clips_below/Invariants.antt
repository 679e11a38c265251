use Rattle.std.proofs.Common.{length}
use Rattle.rd_stack.proofs.clip.+clips_below.Given as goal

abbrev pub decreases-clips_below : goal.decreases-clips_below
decreases-clips_below l = length l.above.now
