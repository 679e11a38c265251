use Rattle.std.proofs.Common.{refl, sym, subst, ◌∙◌}
use Rattle.rd_graph.specs.Orders.{Once}
use Rattle.rd_graph.specs.Internal.Seen.{seen}
use Rattle.rd_graph.proofs.Reaching.Lines.{order_more, order_all}
use Rattle.rd_graph.proofs.thinning.places_of.Goals as goal

pub loop-node-preserved : goal.loop-node-preserved
loop-node-preserved c = record { names = order_more c.args.nodes.now c.loop-node.node-index c.node-item.result _ _ c.loop-node-test.true c.node-item.is c.loop-node.invariant.names c.in_ok-push.ensures.items }

pub new-requires : goal.new-requires
new-requires c =
    let all = order_all c.args.nodes.now c.args.nodes.now (seen c.args.nodes.now) c.loop-node.node-index c.loop-node.names.items c.loop-node-test.false refl refl c.loop-node.invariant.names in
    subst (λ ks. Once ks) (sym all) c.requires.once

pub returns : goal.returns
returns c = c.in_ok-places.ensures ∙ order_all c.args.nodes.now c.args.nodes.now (seen c.args.nodes.now) c.loop-node.node-index c.loop-node.names.items c.loop-node-test.false refl refl c.loop-node.invariant.names
