use Rattle.std.proofs.Common.{◌-◌, length}
use Rattle.rd_list.specs.Chunks.{AreCovered, IsAt}
use Rattle.rd_list.proofs.retelling.retell.Given as goal

abbrev pub invariant-loop-block : goal.invariant-loop-block
invariant-loop-block g l = record {
  covers : AreCovered l.level l.entries;
  at : IsAt l.level.blocks.items l.block l.place;
}

abbrev pub decreases-loop-block : goal.decreases-loop-block
decreases-loop-block g l = length l.level.blocks.items - l.block
