use Rattle.std.proofs.Common.{sym}
use Rattle.rd_geom.proofs.Pixels.{none_is_within, within_around_left, within_around_right, around_least}
use Rattle.rd_geom.proofs.enclosing.hull.Goals as goal

pub returns-in-false-true-clause-second : goal.returns-in-false-true-clause-second
returns-in-false-true-clause-second c = none_is_within c.args.b c.args.a (sym c.in-false-true.ensures')

pub returns-in-false-false-clause-first : goal.returns-in-false-false-clause-first
returns-in-false-false-clause-first c = rw c.around.ensures (within_around_left c.args.a c.args.b)

pub returns-in-false-false-clause-second : goal.returns-in-false-false-clause-second
returns-in-false-false-clause-second c = rw c.around.ensures (within_around_right c.args.a c.args.b)

pub returns-in-false-false-clause-least : goal.returns-in-false-false-clause-least
returns-in-false-false-clause-least c =
    rw c.around.ensures (λ r. around_least c.args.a c.args.b r (sym c.in-false-false.ensures) (sym c.in-false-false.ensures'))
