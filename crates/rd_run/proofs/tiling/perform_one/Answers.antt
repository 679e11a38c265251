use Rattle.std.proofs.Common.{sym, subst}
use Rattle.std.proofs.lemmas.Result.{on_ok_weaker}
use Rattle.rd_engine.specs.State.{EngineState}
use Rattle.rd_paint.specs.Pictures.{size_of}
use Rattle.rd_run.specs.Machine.{Step}
use Rattle.rd_run.specs.Internal.OnTiles.{AreOf}
use Rattle.rd_run.proofs.Following.{follows, goes_on_tiles, of_size, watched_size}
use Rattle.rd_run.proofs.Steps.{on_err, may_from}
use Rattle.rd_run.proofs.tiling.perform_one.Goals as goal

pub follow-requires : goal.follow-requires
follow-requires g c =
    subst (λ (e : EngineState). AreOf (size_of e.canvas) c.args.tiles.now) (sym c.engine.ensures)
    (of_size _ _ c.args.tiles.now (watched_size c.args.session.now.engine _ c.in_ok-perform.ensures.watched) c.requires.shows.of)

pub returns-in_err-perform-clause-part : goal.returns-in_err-perform-clause-part
returns-in_err-perform-clause-part g c = on_err c.from_residual.result c.in_err-perform.ensures.err

pub returns-clause-all : goal.returns-clause-all
returns-clause-all g c =
    on_ok_weaker c.follow.result
    (λ f s sh. goes_on_tiles (Step c.args.command.now) _ _ s c.args.session.now _ c.args.tiles.now _ sh (c.in_ok-perform.ensures.ok s sh)
    (follows c.args.session.now c.perform.new.self c.engine.result.now c.paints-before.result c.args.tiles.now _ c.engine.ensures c.paints-before.ensures.count c.paints-before.ensures.state
    c.requires.shows c.in_ok-perform.ensures.watched f))
    c.follow.ensures

pub returns-clause-shows : goal.returns-clause-shows
returns-clause-shows g c =
    on_ok_weaker c.follow.result
    (λ f. (follows c.args.session.now c.perform.new.self c.engine.result.now c.paints-before.result c.args.tiles.now _ c.engine.ensures c.paints-before.ensures.count c.paints-before.ensures.state
    c.requires.shows c.in_ok-perform.ensures.watched f).shows)
    c.follow.ensures

pub returns-clause-part : goal.returns-clause-part
returns-clause-part g c =
    on_err c.follow.result
    (λ s sh. let d = c.in_ok-perform.ensures.ok s sh in may_from (Step c.args.command.now) _ _ s (d.0) _ d.1)
