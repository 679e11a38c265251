use Rattle.std.proofs.Common.{sym, refl, arith, slice_index_or}
use Rattle.rd_run.proofs.Digits.{no_digit_at, digits_on, is_below, is_above}
use Rattle.rd_run.proofs.words.all_digits.Goals as goal
use Rattle.rd_run.proofs.words.all_digits.Goals.{then-c-lt48-via-then-c-lt48, then-c-lt48-via-else-c-lt48+then-c-gt57}

pub returns-then-c-lt48 : goal.returns-then-c-lt48
returns-then-c-lt48 c = elim c.then-c-lt48.branch [
  | then-c-lt48-via-then-c-lt48 w ↦ sym (no_digit_at c.args.text.now c.loop-c.c-index 0 (slice_index_or c.args.text.now c.loop-c.c-index 0) (is_below (slice_index_or c.args.text.now c.loop-c.c-index 0) w.if-c-lt48.true) c.loop-c-test.true refl)
  | then-c-lt48-via-else-c-lt48+then-c-gt57 w ↦ sym (no_digit_at c.args.text.now c.loop-c.c-index 0 (slice_index_or c.args.text.now c.loop-c.c-index 0) (is_above (slice_index_or c.args.text.now c.loop-c.c-index 0) w.if-c-gt57.true) c.loop-c-test.true refl)
]

pub loop-c-preserved : goal.loop-c-preserved
loop-c-preserved c =
    let h = c.if-c-lt48.false in
    let k = c.if-c-gt57.false in
    digits_on c.args.text.now c.loop-c.c-index 0 (slice_index_or c.args.text.now c.loop-c.c-index 0) c.loop-c-test.true refl (omega (arith, h)) (omega (arith, k)) c.loop-c.invariant
