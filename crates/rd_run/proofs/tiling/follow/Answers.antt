use Rattle.std.proofs.Common.{◌≡◌, ◌∙◌, sym, subst, Option}
use Rattle.std.specs.Prelude.{IfSome}
use Rattle.std.proofs.lemmas.Result.{on_ok_weaker}
use Rattle.rd_geom.specs.Areas.{Region}
use Rattle.rd_paint.specs.Pictures.{size_of}
use Rattle.rd_run.proofs.Following.{follow_unpainted, follow_painted, not_once, not_still, none_lent, lent_area}
use Rattle.rd_run.proofs.tiling.follow.Goals as goal

pub returns-then-is_still : goal.returns-then-is_still
returns-then-is_still g c = λ old e size sh w.
    follow_unpainted old c.args.engine.now c.args.tiles.now sh
    (not_once old c.args.engine.now (sym e ∙ sym c.if-is_still.true ∙ c.paints.ensures) w)

pub retile-requires-clause-area : goal.retile-requires-clause-area
retile-requires-clause-area g c =
    subst (λ (o : Option Region). IfSome o (λ a. a.size ≡ size_of c.args.engine.now.canvas)) (sym c.in-Some.ensures.value) c.in-Some.ensures.size

pub returns-in-Some : goal.returns-in-Some
returns-in-Some g c =
    on_ok_weaker c.retile.result
    (λ r old e size sh w.
    let p = not_still old c.args.engine.now (λ q. c.if-is_still.false (c.paints.ensures ∙ sym q ∙ sym e)) w in
    follow_painted old c.args.engine.now c.args.tiles.now _ size sh p _ (lent_area old c.args.engine.now _ p c.in-Some.ensures.value) r)
    c.retile.ensures

pub returns-in-None : goal.returns-in-None
returns-in-None g c = λ old e size sh w.
    absurd (none_lent old c.args.engine.now (λ q. c.if-is_still.false (c.paints.ensures ∙ sym q ∙ sym e)) c.in-None.ensures.some w)
