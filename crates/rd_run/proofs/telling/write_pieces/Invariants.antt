use Rattle.std.proofs.Common.{◌≡◌, map, take}
use Rattle.std.specs.Io.KnownBytes.{Appends}
use Rattle.rd_run.specs.Internal.Telling.{joined}
use Rattle.rd_run.proofs.telling.write_pieces.Given as goal

-- the pieces so far were written, without a fault
abbrev pub invariant-loop-piece : goal.invariant-loop-piece
invariant-loop-piece g l = record {
  gained : Appends (g.E.Sink.written l.fn.err) (g.E.Sink.written l.err) (joined (map (λ s. s.now) (take l.piece-index l.pieces)));
  faultless : g.E.Sink.faults l.err ≡ g.E.Sink.faults l.fn.err;
}
