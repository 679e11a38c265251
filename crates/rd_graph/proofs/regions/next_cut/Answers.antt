use Rattle.std.proofs.Common.{arith}
use Rattle.rd_graph.proofs.LinedUp.ByRanks.Cuts.{met_first, met_more, met_cut}
use Rattle.rd_graph.proofs.regions.next_cut.Goals as goal

pub loop-met-init : goal.loop-met-init
loop-met-init c = record { so_far = met_first c.args.places.now c.args.least.now c.args.end c.requires.least c.args.from c.requires.from c.requires.below c.requires.some }

pub loop-met-preserved : goal.loop-met-preserved
loop-met-preserved c = record { so_far = met_more c.args.places.now c.args.least.now c.args.end c.requires.least c.args.from c.requires.from c.requires.below c.loop-met.met c.loop-met.place c.max-place.result c.loop-met.invariant.so_far c.loop-met-test.true c.max-place.ensures }

pub returns-else-least-met : goal.returns-else-least-met
returns-else-least-met c =
    let so = c.loop-met.invariant.so_far in
    record {
      cut = met_cut c.args.places.now c.args.least.now c.args.end c.requires.least c.args.from c.requires.from c.loop-met.met c.loop-met.place so (λ l. c.if-least-met.false);
      after = so.after;
      more = so.more;
    }

pub returns-after-loop-met : goal.returns-after-loop-met
returns-after-loop-met c =
    let so = c.loop-met.invariant.so_far in
    let f = c.loop-met-test.false in
    record {
      cut = met_cut c.args.places.now c.args.least.now c.args.end c.requires.least c.args.from c.requires.from c.loop-met.met c.loop-met.place so (λ l. omega (arith, l, f));
      after = so.after;
      more = so.more;
    }
