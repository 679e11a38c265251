use Rattle.rd_merge.specs.Plans.{filled}
use Rattle.rd_merge.proofs.Whole.{fits_whole, stands_after}
use Rattle.rd_merge.proofs.preparing.prepare.Goals as goal

pub plan_level-requires : goal.plan_level-requires
plan_level-requires g c = fits_whole (g.T.Touches.is_touched c.args.tree.now) c.args.kept.now c.args.new.now c.requires

pub returns-clause-stands : goal.returns-clause-stands
returns-clause-stands g c =
    stands_after (g.T.Touches.is_touched c.args.tree.now) c.args.kept.now c.args.new.now (filled c.in_ok-plan.plan c.args.kept.now c.args.new.now) c.in_ok-plan.ensures.merged
