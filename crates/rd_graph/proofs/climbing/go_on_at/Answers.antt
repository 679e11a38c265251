use Rattle.rd_graph.proofs.Patches.Thinned.Climbings.{adds_before}
use Rattle.rd_graph.proofs.climbing.go_on_at.Goals as goal

pub returns-clause-left : goal.returns-clause-left
returns-clause-left c = adds_before c.args.nodes.now c.args.key c.args.place c.index-nodes-place.result c.deref.result.now c.args.climb.now.left.items _ c.requires.named c.index-nodes-place.is c.deref.ensures c.in_ok-sort_out.ensures.left

pub returns-clause-found : goal.returns-clause-found
returns-clause-found c = adds_before c.args.nodes.now c.args.key c.args.place c.index-nodes-place.result c.deref.result.now c.args.climb.now.found.items _ c.requires.named c.index-nodes-place.is c.deref.ensures c.in_ok-sort_out.ensures.found
