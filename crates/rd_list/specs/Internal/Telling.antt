-- What is told of some entries and of others.
use Rattle.std.specs.Prelude.{◌≡◌, ◌+◌}
use Rattle.rd_list.specs.Chunks.{IsWider}
use Rattle.rd_list.specs.declared.told.ChunkBounds.{ChunkBounds}

-- what is told of both
pub record IsBoth (first second both : ChunkBounds) : Type 0 where
  pub left : IsWider first both
  pub right : IsWider second both
  pub leaves : both.leaves ≡ first.leaves + second.leaves
