-- What every tree of a run keeps, as a document alone.
use Rattle.rd_keys.specs.Keys.{same_key}
use Rattle.rd_tree.specs.Document.{Document, IsKeyed}
use Rattle.rd_tree.specs.Forest.{IsApart}

-- each key at one place, each of a taken slot
pub record IsWellFormed (t : Document) : Type 0 where
  pub apart : IsApart same_key t.boxes
  pub keyed : IsKeyed t
