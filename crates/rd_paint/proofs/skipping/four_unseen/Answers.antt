use Rattle.std.proofs.Common.{◌+◌, arith}
use Rattle.rd_paint.specs.Internal.Picks.{InSpans}
use Rattle.rd_paint.proofs.Shown.Passing.{past_one, past_four}
use Rattle.rd_paint.proofs.skipping.four_unseen.Goals as goal

pub returns : goal.returns
returns g c = λ t.
    let a = past_one (InSpans c.args.columns c.args.rows) c.args.entries.now c.args.i c.index-entries-i.result (omega (arith, c.requires)) c.index-entries-i.is (c.is_unseen.ensures c.if-not-is_unseen.false) in
    let b = past_one (InSpans c.args.columns c.args.rows) c.args.entries.now (c.args.i + 1) c.index-entries-i-2.result (omega (arith, c.requires)) c.index-entries-i-2.is (c.is_unseen-2.ensures c.if-not-is_unseen-2.false) in
    let d = past_one (InSpans c.args.columns c.args.rows) c.args.entries.now (c.args.i + 2) c.index-entries-i-3.result (omega (arith, c.requires)) c.index-entries-i-3.is (c.is_unseen-3.ensures c.if-not-is_unseen-3.false) in
    let e = past_one (InSpans c.args.columns c.args.rows) c.args.entries.now (c.args.i + 3) c.index-entries-i-4.result (omega (arith, c.requires)) c.index-entries-i-4.is (c.is_unseen-4.ensures t) in
    past_four (InSpans c.args.columns c.args.rows) c.args.entries.now c.args.i a b d e
