use Rattle.std.proofs.Common.{sym, ap}
use Rattle.rd_tree.specs.Changes.{moving}
use Rattle.rd_edits.proofs.moves.move_to.Goals as goal

pub returns-clause-done : goal.returns-clause-done
returns-clause-done g c =
    let k = c.in-Some.key in
    let p = c.in-Some-find.above in (
      moving k p c.in-Some-place_of.place,
      (
        k,
        p,
        sym c.in-Some.ensures.found,
        sym c.in-Some-find.ensures.found,
        ap (moving k p)
            c.in-Some-place_of.ensures.place,
      ),
      c.relink.ensures,
    )
