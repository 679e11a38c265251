-- What is known of the tree of a machine, and of the list of its last paint.
use Rattle.std.specs.Prelude.{◌≡◌, ◌<◌, Option, Some, None}
use Rattle.rd_geom.specs.Canvas.{IsCanvas}
use Rattle.rd_list.specs.EntryNames.{kept_leaves}
use Rattle.rd_list.specs.Lists.{StandsFor}
use Rattle.rd_tree.specs.Document.{Document}
use Rattle.rd_stack.specs.Fresh.{fresh_list}
use Rattle.rd_engine.specs.State.{EngineState}
use Rattle.rd_scene.specs.Internal.WellFormed as scene

-- each key at one place and of a taken slot, on a canvas within the limits
pub record IsWellFormed (t : Document) : Type 0 where
  pub boxes : scene.IsWellFormed t
  pub canvas : IsCanvas t.canvas

-- the list of the last paint is that of the tree at that time
abbrev pub IsLast : Option Document → EngineState → Type 0
IsLast None e = e.paints ≡ 0
IsLast (Some t) e = (0 < e.paints) × StandsFor (kept_leaves e.kept.entries) (fresh_list t)
