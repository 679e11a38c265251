use Rattle.std.proofs.Common.{◌≡◌, take, true}
use Rattle.rd_run.specs.Words.{all_digits}
use Rattle.rd_run.proofs.words.all_digits.Given as goal

-- the bytes so far are digits
abbrev pub invariant-loop-c : goal.invariant-loop-c
invariant-loop-c l = all_digits (take l.c-index l.text) ≡ true
