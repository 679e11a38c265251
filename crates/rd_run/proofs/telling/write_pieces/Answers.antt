use Rattle.std.proofs.Common.{◌∙◌, ap, subst}
use Rattle.std.proofs.lemmas.Result.{err_from_is_err_and}
use Rattle.std.specs.Io.KnownBytes.{Appends}
use Rattle.rd_io.proofs.Bytes.{appends_more}
use Rattle.rd_io.specs.Causes.{one_more}
use Rattle.rd_run.proofs.Pieces.{piece_next, piece_split, part_on}
use Rattle.rd_run.proofs.telling.write_pieces.Goals as goal

pub loop-piece-preserved : goal.loop-piece-preserved
loop-piece-preserved g c = record {
  gained = subst (Appends (g.E.Sink.written c.args.err.now) (g.E.Sink.written c.write_all.new.sink))
      (piece_next (λ s. s.now) _ c.args.pieces.now c.loop-piece.piece-index c.as_bytes.result.now c.loop-piece-test.true c.as_bytes.ensures.value)
      (appends_more _ _ _ _ _ c.loop-piece.invariant.gained c.in_ok-write_all.ensures.all);
  faultless = c.in_ok-write_all.ensures.cause.passed ∙ c.loop-piece.invariant.faultless;
}

pub returns-in_err-write_all-clause-part : goal.returns-in_err-write_all-clause-part
returns-in_err-write_all-clause-part g c =
    let r = err_from_is_err_and c.from_residual.result c.from_residual.ensures.1 in
    rw (r.1) (part_on _ _ _ _ _ _ _ c.loop-piece.invariant.gained c.in_err-write_all.ensures.part
    (piece_split (λ s. s.now) _ c.args.pieces.now c.loop-piece.piece-index c.as_bytes.result.now c.loop-piece-test.true c.as_bytes.ensures.value))

pub returns-in_err-write_all-clause-fault : goal.returns-in_err-write_all-clause-fault
returns-in_err-write_all-clause-fault g c =
    let r = err_from_is_err_and c.from_residual.result c.from_residual.ensures.1 in
    rw (r.1) (c.in_err-write_all.ensures.cause.failed ∙ ap one_more c.loop-piece.invariant.faultless)
