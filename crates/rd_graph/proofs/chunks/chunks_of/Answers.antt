use Rattle.rd_graph.specs.Internal.Seen.{seen}
use Rattle.rd_graph.proofs.chunks.chunks_of.Goals as goal

pub loop-place-preserved : goal.loop-place-preserved
loop-place-preserved c = record {
  within = c.chunk_end-end.ensures.within;
  told = c.put_kinds.ensures (seen c.args.nodes.now) c.chunk_end-end.result c.chunk_end-end.ensures.one c.kinds_along.ensures c.loop-place.invariant.told;
}
