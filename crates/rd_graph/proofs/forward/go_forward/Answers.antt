use Rattle.std.proofs.Common.{refl, sym, true}
use Rattle.rd_graph.proofs.Lists.Listing.{never}
use Rattle.rd_graph.proofs.Reaching.Forward.{after_more, after_all, not_after}
use Rattle.rd_graph.proofs.forward.go_forward.Goals as goal

pub loop-node-preserved : goal.loop-node-preserved
loop-node-preserved c = record { so_far = after_more c.args.line.now c.args.nodes.now c.loop-node.node-index c.node-item.result c.loop-node-test.true c.node-item.is c.loop-node.invariant.so_far (c.is_after.ensures.0 c.if-not-is_after.false) }

pub returns : goal.returns
returns c = (λ _. after_all c.args.line.now c.args.nodes.now c.loop-node.node-index c.loop-node-test.false c.loop-node.invariant.so_far, λ _. refl)

pub returns-then-not-is_after : goal.returns-then-not-is_after
returns-then-not-is_after c =
    (λ e. absurd (never true refl (sym e)), λ h. absurd (not_after c.args.line.now c.args.nodes.now c.loop-node.node-index c.node-item.result c.loop-node-test.true c.node-item.is (λ k. never c.is_after.result (c.is_after.ensures.1 k) c.if-not-is_after.true) h))
