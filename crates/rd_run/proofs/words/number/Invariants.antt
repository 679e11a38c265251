use Rattle.std.proofs.Common.{◌≡◌, ◌<◌, ◌^◌, take}
use Rattle.rd_run.specs.Words.{number_after}
use Rattle.rd_run.proofs.words.number.Given as goal

-- the number that the digits so far write
abbrev pub invariant-loop-c : goal.invariant-loop-c
invariant-loop-c l = (l.number ≡ number_after 0 (take l.c-index l.digits)) × (l.number < 10 ^ l.c-index)
