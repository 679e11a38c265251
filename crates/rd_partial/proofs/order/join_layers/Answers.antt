use Rattle.std.proofs.Common.{◌∙◌, sym}
use Rattle.std.specs.Vec.Iter.{into_iter_items}
use Rattle.rd_list.specs.Nested.{laid_out}
use Rattle.rd_partial.proofs.Pass.Laid.{lay_more, none_left}
use Rattle.rd_partial.proofs.order.join_layers.Goals as goal

pub loop-layer-preserved : goal.loop-layer-preserved
loop-layer-preserved g c =
    lay_more (into_iter_items c.loop-layer.layer-iterator) (into_iter_items c.next.new.self) c.in-Some.layer (laid_out c.loop-layer.out) _ (laid_out c.join.new.self)
    c.in-Some.ensures.steps.0 c.in_ok-join.ensures c.loop-layer.invariant

pub returns : goal.returns
returns g c =
    none_left (into_iter_items c.loop-layer.layer-iterator) (laid_out c.loop-layer.out) _ (sym c.loop-layer.layer-iterator.rest.ok.0 ∙ c.in-None.ensures.steps.0) c.loop-layer.invariant
