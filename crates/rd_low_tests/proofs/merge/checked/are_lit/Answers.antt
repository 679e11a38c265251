use Rattle.std.proofs.Common.{◌≡◌, true}
use Rattle.std.specs.Prelude.{IsTrue}
use Rattle.rd_geom.specs.Plane.{meets}
use Rattle.rd_low_tests.specs.DrawnLevels.{Spot, is_of}
use Rattle.rd_low_tests.proofs.DrawnLevels.{all_more, all_whole}
use Rattle.rd_low_tests.proofs.merge.checked.are_lit.Goals as goal

pub loop-b-preserved : goal.loop-b-preserved
loop-b-preserved c = record {
  so_far = all_more (λ (s : Spot). IsTrue (meets c.args.rect s.1) → is_of c.args.area.now s ≡ true) c.args.spots.now c.loop-b.b-index c.b-item.result c.loop-b-test.true c.b-item.is c.loop-b.invariant.so_far
      (c.is_lit.ensures c.if-not-is_lit.false);
}

pub returns : goal.returns
returns c = λ _. all_whole (λ (s : Spot). IsTrue (meets c.args.rect s.1) → is_of c.args.area.now s ≡ true) c.args.spots.now c.loop-b.b-index c.loop-b-test.false c.loop-b.invariant.so_far
