use Rattle.rd_check.specs.Internal.Sights.{sight_of, sights_of}
use Rattle.rd_check.proofs.Nearby.{entered_on, pair_on, pair_here}
use Rattle.rd_check.proofs.Crossed.{sight_here, pairs_over}
use Rattle.rd_check.proofs.crossing.first_crossed.Goals as goal

pub returns-in-Some-clause-found : goal.returns-in-Some-clause-found
returns-in-Some-clause-found c = pair_here (sights_of c.args.seen.now) c.in-Some.i c.loop-j.j c.loop-j.invariant.none c.in-Some.ensures

pub loop-j-preserved : goal.loop-j-preserved
loop-j-preserved c = record {
  entered =
      entered_on c.loop-j.near.clusters.items c.enter.new.near.clusters.items (sights_of c.args.seen.now) c.loop-j.j (sight_of c.index-seen-j.result) c.loop-j.invariant.entered
      (sight_here c.args.seen.now c.loop-j.j c.index-seen-j.result c.loop-j-test.true c.index-seen-j.is)
      c.in_ok-enter-in-None.ensures.kept c.in_ok-enter-in-None.ensures.entered c.in_ok-enter-in-None.ensures.before;
  none = pair_on (sights_of c.args.seen.now) c.loop-j.j c.loop-j.invariant.none c.in-None.ensures;
}

pub returns-clause-found : goal.returns-clause-found
returns-clause-found c = pairs_over c.args.seen.now c.loop-j.j c.loop-j.invariant.none c.loop-j-test.false
