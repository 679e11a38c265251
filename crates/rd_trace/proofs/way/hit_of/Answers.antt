use Rattle.std.proofs.Common.{◌∙◌, sym, ap}
use Rattle.std.specs.Prelude.{Some}
use Rattle.rd_trace.specs.Ways.{Traced}
use Rattle.rd_trace.proofs.Hits.{hit_past, hit_here, hit_end}
use Rattle.rd_trace.proofs.way.hit_of.Goals as goal

pub loop-t-preserved : goal.loop-t-preserved
loop-t-preserved c = hit_past c.args.ts.now c.loop-t.t-index c.t-item.result _ c.loop-t-test.true c.t-item.is (sym c.takes_hit.ensures ∙ c.if-takes_hit.false) c.loop-t.invariant

pub returns-then-takes_hit : goal.returns-then-takes_hit
returns-then-takes_hit c = ap (λ (t : Traced). Some t.leaf.owner) c.t.view_is ∙ hit_here c.args.ts.now c.loop-t.t-index c.t-item.result _ c.loop-t-test.true c.t-item.is (sym c.takes_hit.ensures ∙ c.if-takes_hit.true) c.loop-t.invariant

pub returns : goal.returns
returns c = hit_end c.args.ts.now c.loop-t.t-index _ c.loop-t-test.false c.loop-t.invariant
