use Rattle.std.proofs.Common.{refl}
use Rattle.rd_run.proofs.Finishing.{compose_ends, untouched_as, wire_refused}
use Rattle.rd_run.proofs.composing.compose.Goals as goal

pub draw-requires : goal.draw-requires
draw-requires g c = c.in-Ok.ensures.wire.1.0.rules.canvas

pub returns-in-Ok : goal.returns-in-Ok
returns-in-Ok g c = λ m l.
    let w = c.in-Ok.ensures.wire in
    compose_ends (Unit {0}) _ _ _ _ _ c.in-Ok.wire (w.0) _ w.1 w.2 (untouched_as _ _ _ _ _ _ _ (λ e. (e, refl, refl)) (c.draw.ensures m l))

pub returns-in-Err : goal.returns-in-Err
returns-in-Err g c = λ m l. wire_refused (Unit {0}) _ _ _ _ _ _ c.in-Err.ensures.refused (refl, refl, refl)
