use Rattle.std.proofs.Common.{w32}
use Rattle.std.proofs.lemmas.Int.{to_z-of_z}
use Rattle.rd_c.proofs.Asking.{made_at, sized}
use Rattle.rd_c.proofs.making.begun.Goals as goal

pub returns : goal.returns
returns c =
    made_at c.started.result _ _ _ _ c.args.width c.args.height c.args.root.now c.args.place.now c.args.look.now
    (sized _ _ _ c.args.width c.args.height c.in-Some.ensures.value (to_z-of_z w32 c.args.width c.ranges.width) (to_z-of_z w32 c.args.height c.ranges.height))
    c.in_ok-root.ensures c.in_ok-place.ensures c.in_ok-look.ensures c.started.ensures
