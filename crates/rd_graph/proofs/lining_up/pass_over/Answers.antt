use Rattle.std.proofs.Common.{◌∙◌, ap, drop, arith}
use Rattle.std.specs.Vec.Iter.{into_iter_items}
use Rattle.std.proofs.lemmas.List.{drop-drop}
use Rattle.rd_graph.proofs.LinedUp.RunLines.{one_passed}
use Rattle.rd_graph.proofs.lining_up.pass_over.Goals as goal

pub loop-preserved : goal.loop-preserved
loop-preserved g c =
    let then = c.loop.rest.rest.ok in
    let now = c.next-passed.new.self.rest.ok in
    record {
      left = one_passed c.loop.rest c.next-passed.new.self c.next-passed.result (omega (arith, then.0)) (omega (arith, now.0)) c.next-passed.ensures.cases ∙ ap (drop 1) c.loop.invariant.left ∙ drop-drop 1 c.loop.counter (into_iter_items c.args.rest.now);
    }
