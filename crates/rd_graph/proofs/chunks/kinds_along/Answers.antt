use Rattle.std.proofs.Common.{arith, subst, sym}
use Rattle.rd_graph.specs.Internal.Chunks.{HasKinds}
use Rattle.rd_graph.specs.Internal.Seen.{seen, seen_one}
use Rattle.rd_graph.specs.declared.graph.Node.{Node}
use Rattle.rd_graph.proofs.Patches.Kinds.{along_next}
use Rattle.rd_graph.proofs.Patches.SeenAt.{seen_at}
use Rattle.rd_graph.proofs.chunks.kinds_along.Goals as goal

pub loop-place-preserved : goal.loop-place-preserved
loop-place-preserved c =
    let ns = c.args.nodes.now in
    let i = c.loop-place.place in
    let n = c.index-nodes-place.result in
    let new = c.with_kinds-kinds.result in
    let l = c.loop-place-test.true in
    let r = c.requires in
    record {
      has = along_next (seen ns) c.loop-place.kinds new c.args.from i (seen_one n) (seen_at ns i n (omega (arith, l, r)) c.index-nodes-place.is) c.loop-place.invariant.has
          c.with_kinds-kinds.ensures.keeps (subst (λ (m : Node). HasKinds new m.before.items) (sym c.index-nodes-place.is) (subst (HasKinds new) c.deref.ensures c.with_kinds-kinds.ensures.has));
    }
