use Rattle.std.proofs.Common.{refl, arith, slice_index_or}
use Rattle.rd_run.proofs.Digits.{digit_at, at_least, number_on}
use Rattle.rd_run.proofs.words.number.Goals as goal

pub overflow_sub-c : goal.overflow_sub-c
overflow_sub-c c = (at_least (slice_index_or c.args.digits.now c.loop-c.c-index 0) (digit_at c.args.digits.now c.loop-c.c-index 0 (slice_index_or c.args.digits.now c.loop-c.c-index 0) c.requires.digits c.loop-c-test.true refl)).0

pub loop-c-preserved : goal.loop-c-preserved
loop-c-preserved c =
    let from = c.from.ensures in
    let low = (at_least (slice_index_or c.args.digits.now c.loop-c.c-index 0) (digit_at c.args.digits.now c.loop-c.c-index 0 (slice_index_or c.args.digits.now c.loop-c.c-index 0) c.requires.digits c.loop-c-test.true refl)).0 in
    number_on c.args.digits.now c.loop-c.c-index 0 (slice_index_or c.args.digits.now c.loop-c.c-index 0) c.loop-c.number c.from.result c.loop-c-test.true refl c.requires.digits (omega (arith, from, low)) c.loop-c.invariant
