-- A level as a walk reads it.
-- All of it is this project's own choice.
use Rattle.rd_list.specs.Chunks.{AreEights, Covers, IsAt, counts}
use Rattle.rd_list.specs.declared.blocks.Blocked.{Blocked}
use Rattle.rd_list.specs.declared.blocks.Chunks.{Chunks}
use Rattle.rd_list.specs.declared.seeking.BlockCursor.{BlockCursor}

-- its chunks are those of its first entries, and so are the blocks, each of eight of the chunks
pub record AreBlocked {A : Type 0} (l : Blocked A) : Type 0 where
  pub chunks : Covers l.chunks.now l.entries.now
  pub blocks : Covers l.blocks.now l.entries.now
  pub eights : AreEights (counts l.blocks.now) (counts l.chunks.now)

-- so many blocks come before one, and so many chunks before one
pub record IsAtBoth (c : Chunks) (last : BlockCursor) : Type 0 where
  pub block : IsAt c.blocks.items last.block.at last.block.start
  pub chunk : IsAt c.chunks.items last.chunk.at last.chunk.start
