use Rattle.rd_graph.specs.Internal.Seen.{seen}
use Rattle.rd_graph.proofs.Patches.Thinned.Thinnings.{thinner_left}
use Rattle.rd_graph.proofs.thinning.thinner.Goals as goal

pub returns : goal.returns
returns c = thinner_left (seen c.args.nodes.now) c.args.list.now c.in_ok-names.names.items c.deref.result.now c.in_ok-left.left.items c.deref.ensures c.in_ok-names.ensures c.in_ok-left.ensures
