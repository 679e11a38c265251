use Rattle.std.proofs.Common.{◌≡◌, refl, sym, ap, ◌∙◌, to_z, of_z, w32}
use Rattle.std.proofs.lemmas.Int.{to_z-of_z}
use Rattle.rd_tree.specs.Changes.{shifting}
use Rattle.rd_tree.specs.Touching.{edited}
use Rattle.rd_edits.proofs.values.shift.Goals as goal

pub returns-clause-done : goal.returns-clause-done
returns-clause-done g c =
    let right : to_z w32 (of_z w32 c.args.dx) ≡ c.args.dx = to_z-of_z w32 c.args.dx c.ranges.dx in
    let down : to_z w32 (of_z w32 c.args.dy) ≡ c.args.dy = to_z-of_z w32 c.args.dy c.ranges.dy in (
      shifting c.in-Some.key c.args.dx c.args.dy,
      (c.in-Some.key, sym c.in-Some.ensures.found, refl),
      c.shift.ensures ∙ (ap (λ x. edited (shifting c.in-Some.key x (to_z w32 (of_z w32 c.args.dy))) c.args.tree.now) right ∙ ap (λ y. edited
          (shifting c.in-Some.key c.args.dx y) c.args.tree.now) down),
    )
