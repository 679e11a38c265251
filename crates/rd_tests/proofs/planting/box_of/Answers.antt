use Rattle.std.proofs.Common.{◌∙◌, sym}
use Rattle.rd_tree.proofs.Nodes.Naming.{named_there}
use Rattle.rd_tests.proofs.planting.box_of.Goals as goal

pub returns : goal.returns
returns g c = named_there _ c.expect.result c.args.tree.now.boxes (sym c.find.ensures.found ∙ c.expect.ensures)
