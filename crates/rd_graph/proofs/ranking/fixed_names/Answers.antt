use Rattle.rd_graph.proofs.LinedUp.ByRanks.Ranks.{fixed_next}
use Rattle.rd_graph.proofs.ranking.fixed_names.Goals as goal

pub loop-i-preserved : goal.loop-i-preserved
loop-i-preserved c = record { names = fixed_next c.args.stays.now c.args.places.now c.args.chain.now c.loop-i.i _ _ c.loop-i.names.items c.push_fixed.new.names.items _ c.loop-i-test.true c.requires c.loop-i.invariant.names c.has.ensures.stays c.in_ok-push_fixed.ensures }
