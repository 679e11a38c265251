use Rattle.std.proofs.Common.{◌≡◌, take}
use Rattle.rd_low_tests.proofs.Graphs.{sought}
use Rattle.rd_low_tests.proofs.graph.checked.sought.Given as goal

abbrev pub invariant-loop-key : goal.invariant-loop-key
invariant-loop-key l = record { found : l.found.items ≡ sought l.order l.chain (take l.key-index l.chain) }
