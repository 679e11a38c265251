use Rattle.rd_graph.specs.Internal.Patching.{lists_seen}
use Rattle.rd_graph.specs.Internal.Seen.{seen, seen_one}
use Rattle.rd_graph.proofs.Patches.SeenAt.{seen_at, seen_whole}
use Rattle.rd_graph.proofs.Patches.Thinned.Thinnings.{thin_next, thin_all}
use Rattle.rd_graph.proofs.thinning.thinned_by.Goals as goal

pub loop-place-preserved : goal.loop-place-preserved
loop-place-preserved c =
    let n = c.index-nodes-place.result in
    record {
      so_far = thin_next (seen c.args.nodes.now) c.loop-place.place (seen_one n) (seen c.loop-place.thin.items) _ (lists_seen c.loop-place.lists.items) _
          (seen_at c.args.nodes.now c.loop-place.place n c.loop-place-test.true c.index-nodes-place.is) c.loop-place.invariant.so_far c.in_ok-thin_one.ensures;
    }

pub returns : goal.returns
returns c = thin_all (seen c.args.nodes.now) c.loop-place.place (seen c.loop-place.thin.items) (lists_seen c.loop-place.lists.items) (seen_whole c.args.nodes.now c.loop-place.place c.loop-place-test.false) c.loop-place.invariant.so_far
