use Rattle.std.proofs.Common.{◌≡◌, false, take}
use Rattle.rd_graph.specs.Internal.Relisting.{some_gone}
use Rattle.rd_graph.specs.Internal.Tables.{has_it}
use Rattle.rd_graph.proofs.gone.some_goes.Given as goal

abbrev pub invariant-loop-key : goal.invariant-loop-key
invariant-loop-key l = record { none : some_gone (has_it l.gone.names) (take l.key-index l.keys) ≡ false }
