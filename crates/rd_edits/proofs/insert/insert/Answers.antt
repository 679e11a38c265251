use Rattle.std.proofs.Common.{sym, ap}
use Rattle.rd_tree.specs.Changes.{insertion, new_item}
use Rattle.rd_edits.proofs.insert.insert.Goals as goal

pub returns-clause-done : goal.returns-clause-done
returns-clause-done g c =
    let k = c.in_ok-insert.field-0 in
    let p = c.in-Some.above in (
      insertion p c.in-Some-place_of.place k (new_item c.args.id.now c.args.rect c.args.style.now),
      (
        p,
        k,
        sym c.in-Some.ensures.found,
        c.in_ok-insert.ensures.next,
        ap (λ o. insertion p o k (new_item c.args.id.now c.args.rect c.args.style.now))
            c.in-Some-place_of.ensures.place,
      ),
      c.in_ok-insert.ensures.inserted,
    )
