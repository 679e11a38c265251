use Rattle.std.proofs.Common.{◌≡◌, refl, sym, ap, ◌∙◌, to_z, of_z, w32}
use Rattle.std.proofs.lemmas.Int.{to_z-of_z}
use Rattle.rd_tree.specs.Changes.{scrolling}
use Rattle.rd_tree.specs.Touching.{edited}
use Rattle.rd_edits.proofs.values.scroll.Goals as goal

pub returns-clause-done : goal.returns-clause-done
returns-clause-done g c =
    let right : to_z w32 (of_z w32 c.args.x) ≡ c.args.x = to_z-of_z w32 c.args.x c.ranges.x in
    let down : to_z w32 (of_z w32 c.args.y) ≡ c.args.y = to_z-of_z w32 c.args.y c.ranges.y in (
      scrolling c.in-Some.key (record { x = c.args.x; y = c.args.y }),
      (c.in-Some.key, sym c.in-Some.ensures.found, refl),
      c.scroll.ensures ∙ (ap (λ x. edited (scrolling c.in-Some.key (record { x = x; y = to_z w32 (of_z w32 c.args.y) })) c.args.tree.now) right ∙ ap (λ y. edited
          (scrolling c.in-Some.key (record { x = c.args.x; y = y })) c.args.tree.now) down),
    )
