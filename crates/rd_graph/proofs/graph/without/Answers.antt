use Rattle.std.proofs.Common.{refl}
use Rattle.std.proofs.lemmas.Result.{IfOk-weaker}
use Rattle.rd_graph.specs.Internal.Seen.{seen}
use Rattle.rd_graph.specs.Internal.Tables.{has_it}
use Rattle.rd_graph.proofs.Reaching.Dropping.{dropped_by}
use Rattle.rd_graph.proofs.graph.without.Goals as goal

pub returns-clause-order : goal.returns-clause-order
returns-clause-order c = IfOk-weaker c.stitch.result _ _ (λ v h. (dropped_by c.args.gone.now (has_it c.in_ok-table.table) (seen c.args.nodes.now) (seen c.args.nodes.now) (seen v.items) c.in_ok-table.ensures c.requires refl h).0) c.stitch.ensures

pub returns-clause-drops : goal.returns-clause-drops
returns-clause-drops c = IfOk-weaker c.stitch.result _ _ (λ v h. (dropped_by c.args.gone.now (has_it c.in_ok-table.table) (seen c.args.nodes.now) (seen c.args.nodes.now) (seen v.items) c.in_ok-table.ensures c.requires refl h).1) c.stitch.ensures
