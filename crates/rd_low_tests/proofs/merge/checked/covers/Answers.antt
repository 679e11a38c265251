use Rattle.rd_low_tests.specs.DrawnLevels.{IsSpotCovered, Spot}
use Rattle.rd_low_tests.proofs.DrawnLevels.{all_more, all_whole, covering_all}
use Rattle.rd_low_tests.proofs.merge.checked.covers.Goals as goal

pub loop-a-preserved : goal.loop-a-preserved
loop-a-preserved c = record {
  so_far = all_more (λ (s : Spot). IsSpotCovered c.args.touched.now c.args.area.now c.args.spots.now s) c.args.spots.now c.loop-a.a-index c.a-item.result c.loop-a-test.true c.a-item.is c.loop-a.invariant.so_far
      (c.is_covered.ensures c.if-not-is_covered.false);
}

pub returns : goal.returns
returns c = λ _. covering_all c.args.touched.now c.args.area.now c.args.spots.now
    (all_whole (λ (s : Spot). IsSpotCovered c.args.touched.now c.args.area.now c.args.spots.now s) c.args.spots.now c.loop-a.a-index c.loop-a-test.false c.loop-a.invariant.so_far)
