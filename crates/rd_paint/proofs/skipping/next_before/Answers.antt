use Rattle.std.proofs.Common.{◌+◌, refl, arith}
use Rattle.rd_paint.specs.Internal.Picks.{InSpans}
use Rattle.rd_paint.proofs.Shown.Passing.{past_none, past_one, past_more}
use Rattle.rd_paint.proofs.skipping.next_before.Goals as goal

pub loop-i-init : goal.loop-i-init
loop-i-init g c = record { from = omega arith; end = c.requires.from; same = past_none (InSpans c.args.columns c.args.rows) c.args.entries.now c.args.from c.args.from refl }

pub loop-i-preserved : goal.loop-i-preserved
loop-i-preserved g c = record {
  from = omega (arith, c.loop-i.invariant.from);
  end = omega (arith, c.loop-i-test.true, c.loop-i.invariant.end);
  same = past_more (InSpans c.args.columns c.args.rows) c.args.entries.now c.args.from c.loop-i.i (c.loop-i.i + 4) c.loop-i.invariant.same (c.four_unseen.ensures c.if-four_unseen.true);
}

pub loop-i-2-preserved : goal.loop-i-2-preserved
loop-i-2-preserved g c = record {
  from = omega (arith, c.loop-i-2.invariant.from);
  end = omega (arith, c.loop-i-2-test.true);
  same =
      past_more (InSpans c.args.columns c.args.rows) c.args.entries.now c.args.from c.loop-i-2.i (c.loop-i-2.i + 1) c.loop-i-2.invariant.same
      (past_one (InSpans c.args.columns c.args.rows) c.args.entries.now c.loop-i-2.i c.index-entries-i.result (omega (arith, c.loop-i-2-test.true, c.requires.end)) c.index-entries-i.is (c.is_unseen.ensures c.if-is_unseen.true));
}
