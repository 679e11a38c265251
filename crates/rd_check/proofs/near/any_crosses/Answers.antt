use Rattle.std.proofs.Common.{sym, ◌∙◌}
use Rattle.rd_check.specs.Internal.Near.{crosses}
use Rattle.rd_check.proofs.Nearby.{any_here, none_on, none_whole}
use Rattle.rd_check.proofs.near.any_crosses.Goals as goal

pub returns-then-spot_crosses : goal.returns-then-spot_crosses
returns-then-spot_crosses c =
    any_here (crosses c.args.seen c.args.place) c.args.spots.now c.loop-spot.spot-index c.spot-item.result c.loop-spot-test.true c.spot-item.is
    (sym c.spot_crosses.ensures ∙ c.if-spot_crosses.true)

pub loop-spot-preserved : goal.loop-spot-preserved
loop-spot-preserved c =
    none_on (crosses c.args.seen c.args.place) c.args.spots.now c.loop-spot.spot-index c.spot-item.result c.loop-spot-test.true c.spot-item.is c.loop-spot.invariant
    (sym c.spot_crosses.ensures ∙ c.if-spot_crosses.false)

pub returns : goal.returns
returns c = none_whole (crosses c.args.seen c.args.place) c.args.spots.now c.loop-spot.spot-index c.loop-spot.invariant c.loop-spot-test.false
