use Rattle.std.proofs.Common.{refl, sym}
use Rattle.rd_tree.specs.Internal.Links.{with_item}
use Rattle.rd_tree.specs.Touching.{settled}
use Rattle.rd_tree.proofs.Nodes.Marks.{relinks_written}
use Rattle.rd_tree.proofs.held.Nodes.settle.Goals as goal

pub returns-in-Some : goal.returns-in-Some
returns-in-Some c = rw (← c.self.view_is) (relinks_written c.self.inside.held c.args.key _ c.in-Some.node.now (with_item settled) (sym c.in-Some.ensures.value) refl)
