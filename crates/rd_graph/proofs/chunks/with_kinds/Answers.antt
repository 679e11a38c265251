use Rattle.std.proofs.Common.{◌∙◌}
use Rattle.rd_graph.proofs.Patches.Kinds.{kinds_next}
use Rattle.rd_graph.proofs.chunks.with_kinds.Goals as goal

pub loop-name-preserved : goal.loop-name-preserved
loop-name-preserved c = record {
  has = kinds_next c.loop-name.all c.with_kind-all.result c.args.names.now c.loop-name.name-index _ _ c.loop-name-test.true (c.name.view_is ∙ c.name-item.is) c.loop-name.invariant.has c.with_kind-all.ensures.keeps c.with_kind-all.ensures.has;
  keeps = λ k h. c.with_kind-all.ensures.keeps k (c.loop-name.invariant.keeps k h);
}
