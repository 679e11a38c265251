use Rattle.std.proofs.Common.{◌≡◌, ◌∙◌, ap, sym, inl, inr}
use Rattle.rd_geom.specs.Plane.{hull_of}
use Rattle.rd_geom.proofs.Hulls.{hull_moved_off, hull_moved_none, hull_moved_held, within_holds}
use Rattle.rd_geom.proofs.enclosing.moved_hull.Goals as goal

pub returns-then-off : goal.returns-then-off
returns-then-off c rest e =
    let same : c.hull.result ≡ hull_of (hull_of rest c.args.lost) c.args.gained = c.hull.ensures.value ∙ ap (λ r. hull_of r c.args.gained) e in
    same ∙ elim c.if-off.either [
      | inl u ↦ hull_moved_none rest c.args.lost c.args.gained (sym c.is_empty-none.ensures ∙ u)
      | inr v ↦ elim v [
        | inl u ↦ hull_moved_held rest c.args.lost c.args.gained (within_holds c.args.lost c.args.gained (sym c.is_empty-none.ensures ∙ u.0) (c.is_within-held.ensures.within u.1))
        | inr u ↦ hull_moved_off rest c.args.lost c.args.gained (rw (← e) (record {
          left = c.is_off-off.ensures.left u.2;
          top = c.is_off-off.ensures.top u.2;
          right = c.is_off-off.ensures.right u.2;
          bottom = c.is_off-off.ensures.bottom u.2;
        }))
      ]
    ]
