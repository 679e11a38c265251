-- What every tree keeps.
use Rattle.std.specs.Prelude.{◌≤◌}
use Rattle.rd_keys.specs.Keys.{same_key}
use Rattle.rd_tree.specs.Figures.{max_boxes, max_depth}
use Rattle.rd_tree.specs.Forest.{height, IsApart}
use Rattle.rd_tree.specs.Document.{Document, taken, IsKeyed, IsRooted, AllFit}
use Rattle.rd_tree.specs.ByIds.{HasDistinctIds}

-- The root is first and alone; no key and no id comes twice; each key is that of a taken slot, of which there are at most
-- as many as there may be boxes; all boxes are within the limits, and none is too deep.
pub record IsProper (t : Document) : Type 0 where
  pub rooted : IsRooted t
  pub apart : IsApart same_key t.boxes
  pub distinct : HasDistinctIds t.boxes
  pub keyed : IsKeyed t
  pub room : taken t ≤ max_boxes
  pub limits : AllFit t.boxes
  pub shallow : height t.boxes ≤ max_depth
