use Rattle.std.proofs.Common.{arith}
use Rattle.rd_paint.proofs.Places.{ended}
use Rattle.rd_paint.proofs.runs.mix_row.Goals as goal

pub returns : goal.returns
returns c = ended _ c.args.out.now c.loop-from.out c.loop-from.from (omega (arith, c.loop-from-test.false, c.loop-from.invariant.done.len)) c.loop-from.invariant.done
