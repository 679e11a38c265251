use Rattle.std.proofs.Common.{arith}
use Rattle.rd_graph.proofs.LinedUp.ByRanks.Cuts.{risen_first, risen_more, risen_cut, risen_after, risen_rises}
use Rattle.rd_graph.proofs.regions.risen.Goals as goal

pub loop-met-init : goal.loop-met-init
loop-met-init c = record { so_far = risen_first c.args.places.now c.args.least.now c.args.end c.requires.least c.args.from c.requires.from }

pub loop-met-preserved : goal.loop-met-preserved
loop-met-preserved c = record { so_far = risen_more c.args.places.now c.args.least.now c.args.end c.requires.least c.args.from c.requires.from c.loop-met.met c.loop-met.invariant.so_far c.loop-met-test.true c.if-places-met.true }

pub returns : goal.returns
returns c =
    let so = c.loop-met.invariant.so_far in
    record {
      cut = risen_cut c.args.places.now c.args.least.now c.args.end c.requires.least c.args.from c.requires.from c.loop-met.met so;
      after = risen_after c.args.places.now c.args.least.now c.args.end c.requires.least c.args.from c.requires.from c.loop-met.met so;
      rises = risen_rises c.args.places.now c.args.least.now c.args.end c.requires.least c.args.from c.requires.from c.loop-met.met so;
    }

pub bounds-least-met-2 : goal.bounds-least-met-2
bounds-least-met-2 c = let so = c.loop-met.invariant.so_far in let w = so.within in let e = c.requires.least.count in omega (arith, w, e)
