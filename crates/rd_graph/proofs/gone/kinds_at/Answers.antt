use Rattle.std.proofs.Common.{ℕ, List, subst, sym}
use Rattle.std.specs.Prelude.{Contains}
use Rattle.rd_graph.specs.Gathered.{gathered}
use Rattle.rd_graph.specs.Graphs.{nodes}
use Rattle.rd_graph.specs.Internal.Chunks.{HasKind}
use Rattle.rd_graph.specs.Internal.Seen.{seen}
use Rattle.rd_graph.specs.declared.graph.Node.{Node}
use Rattle.rd_graph.proofs.Lists.Listing.{has_from}
use Rattle.rd_graph.proofs.Patches.Kinds.{kinds_gone}
use Rattle.rd_graph.proofs.Patches.Marks.{take_whole}
use Rattle.rd_graph.proofs.gone.kinds_at.Goals as goal

pub loop-place-preserved : goal.loop-place-preserved
loop-place-preserved c = record {
  kinds = kinds_gone c.args.nodes.now c.args.gone.now c.loop-place.place-index c.index-nodes-place.result c.loop-place.kinds c.with_kind-kinds.result c.loop-place-test.true
      (c.requires c.loop-place.place-index c.loop-place-test.true) c.index-nodes-place.is c.loop-place.invariant.kinds c.with_kind-kinds.ensures.keeps
      (subst (λ (n : Node). HasKind c.with_kind-kinds.result n.key) (sym c.index-nodes-place.is) c.with_kind-kinds.ensures.has);
}

pub returns : goal.returns
returns c = λ k h. c.loop-place.invariant.kinds k
    (has_from _ k (subst (λ (ps : List ℕ). Contains (gathered ps (nodes (seen c.args.nodes.now))) k) (sym (take_whole c.args.gone.now c.loop-place.place-index c.loop-place-test.false)) h))
