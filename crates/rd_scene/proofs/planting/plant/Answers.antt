use Rattle.rd_scene.proofs.Keyed.{planted_slots}
use Rattle.rd_scene.proofs.planting.plant.Goals as goal

pub returns-clause-slots : goal.returns-clause-slots
returns-clause-slots g c = planted_slots c.args.script.now c.in_ok-tree.tree c.in_ok-tree.ensures
