use Rattle.std.proofs.Common.{ap, ◌+◌, take, drop, get_or, arith}
use Rattle.std.proofs.lemmas.List.{get_or_default}
use Rattle.rd_paint.specs.declared.picks.Pick.{Pick}
use Rattle.rd_paint.proofs.Picking.{picked_from}
use Rattle.rd_paint.proofs.picks.pick_at.Goals as goal

abbrev none : Pick
none = record { place = 0; inside = 0 }

pub returns-clause-parts : goal.returns-clause-parts
returns-clause-parts c = λ es.
    picked_from c.args.picks.now c.args.i c.min-inside.result (get_or c.args.picks.now c.args.i none) _ es c.requires (get_or_default c.args.picks.now c.args.i none _ c.requires) c.min-inside.ensures
    (ap (λ k. take k (drop (c.args.i + 1) c.args.picks.now)) (omega arith))
