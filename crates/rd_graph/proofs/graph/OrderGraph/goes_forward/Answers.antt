use Rattle.rd_graph.proofs.Reaching.Forward.{reach_forward, step_forward}
use Rattle.rd_graph.proofs.graph.OrderGraph.goes_forward.Goals as goal

pub returns : goal.returns
returns c = (
  λ t. reach_forward c.args.line.now c.self.inside.nodes.items c.deref.result.now c.args.self.now c.requires c.self.view_is c.deref.ensures.value (c.go_forward.ensures.0 t),
  λ h. c.go_forward.ensures.1 (step_forward c.args.line.now c.self.inside.nodes.items c.deref.result.now c.args.self.now c.requires c.self.view_is c.deref.ensures.value h),
)
