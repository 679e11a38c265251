use Rattle.std.proofs.Common.{◌≡◌, ◌∙◌, ap, refl, sym, subst, w32}
use Rattle.std.proofs.lemmas.Int.{to_z-of_z}
use Rattle.rd_keys.specs.Keys.{same_key}
use Rattle.rd_tree.specs.Forest.{has}
use Rattle.rd_tree.specs.Document.{BoxForest}
use Rattle.rd_tree.specs.Internal.Linked.{IsRead, seen, seen_from}
use Rattle.rd_tree.specs.Internal.Hands.{HasHands}
use Rattle.rd_tree.specs.Internal.Laid.{laid_by}
use Rattle.rd_tree.specs.Internal.Works.{ShiftFits}
use Rattle.rd_tree.proofs.Linking.Cutting.{in_children}
use Rattle.rd_tree.proofs.Nodes.Each.{under_box}
use Rattle.rd_tree.proofs.Nodes.Shifts.{shift_within, can_shift, shift_parts, laid_here, laid_below}
use Rattle.rd_keys.proofs.Keys.{same_key-sound, same_key-refl}
use Rattle.rd_tree.proofs.drawn_tree.DrawnTree.shift_fits.Goals as goal

pub shift_one_fits-fits-requires-clause-here : goal.shift_one_fits-fits-requires-clause-here
shift_one_fits-fits-requires-clause-here g c = c.requires.has_rows c.args.key c.requires.live

pub shift_one_fits-fits-requires-clause-fits : goal.shift_one_fits-fits-requires-clause-fits
shift_one_fits-fits-requires-clause-fits g c = laid_here c.args.rows.now c.self.inside.nodes c.self.inside.root c.args.key c.args.dx c.args.dy _
    c.self.invariant.sound.tree (rw (← c.self.view_is) at c.requires.live) refl (rw (← c.self.view_is) at c.requires.fits)

pub shift_from_fits-requires-clause-read : goal.shift_from_fits-requires-clause-read
shift_from_fits-requires-clause-read g c = subst (λ o. IsRead c.self.inside.nodes o) (sym (ap (λ o. o.0) c.shift_one_fits-fits.ensures.onward))
    (under_box c.self.inside.nodes c.self.inside.root c.args.key c.self.invariant.sound.tree (rw (← c.self.view_is) at c.requires.live)).read

pub shift_from_fits-requires-clause-has_rows : goal.shift_from_fits-requires-clause-has_rows
shift_from_fits-requires-clause-has_rows g c =
    let u = under_box c.self.inside.nodes c.self.inside.root c.args.key c.self.invariant.sound.tree (rw (← c.self.view_is) at c.requires.live) in
    let rows : HasHands c.args.rows.now (seen c.self.inside.nodes c.self.inside.root) = rw (← c.self.view_is) at c.requires.has_rows in
    λ j v. rows j (in_children same_key same_key-sound same_key-refl j c.args.key (seen c.self.inside.nodes c.self.inside.root)
    (sym (ap (has same_key j) (ap (seen_from c.self.inside.nodes) (ap (λ o. o.0) c.shift_one_fits-fits.ensures.onward) ∙ u.told)) ∙ v))

pub shift_from_fits-requires-clause-fits : goal.shift_from_fits-requires-clause-fits
shift_from_fits-requires-clause-fits g c = laid_below c.args.rows.now c.self.inside.nodes c.self.inside.root c.args.key c.args.dx c.args.dy c.shift_one_fits-fits.result.1
    c.self.invariant.sound.tree (rw (← c.self.view_is) at c.requires.live) (ap (λ o. o.0) c.shift_one_fits-fits.ensures.onward) (rw (← c.self.view_is) at c.requires.fits)

pub returns-then-fits : goal.returns-then-fits
returns-then-fits g c =
    let F : BoxForest = laid_by c.args.rows.now c.args.self.now.boxes in
    let x : c.new-by.result.dx ≡ c.args.dx = c.new-by.ensures.dx ∙ to_z-of_z w32 c.args.dx c.ranges.dx in
    let y : c.new-by.result.dy ≡ c.args.dy = c.new-by.ensures.dy ∙ to_z-of_z w32 c.args.dy c.ranges.dy in
    let to : ShiftFits c.new-by.result.dx c.new-by.result.dy c.args.key F → ShiftFits c.args.dx c.args.dy c.args.key F =
    λ v. subst (λ z. ShiftFits z c.args.dy c.args.key F) x (subst (λ z. ShiftFits c.new-by.result.dx z c.args.key F) y v) in
    let back : ShiftFits c.args.dx c.args.dy c.args.key F → ShiftFits c.new-by.result.dx c.new-by.result.dy c.args.key F =
    λ v. subst (λ z. ShiftFits c.new-by.result.dx z c.args.key F) (sym y) (subst (λ z. ShiftFits z c.args.dy c.args.key F) (sym x) v) in
    shift_within c.args.dx c.args.dy c.args.key F _ (
      (λ u. to (rw (← c.self.view_is) (can_shift c.args.rows.now c.self.inside.nodes c.self.inside.root c.args.key c.new-by.result.dx c.new-by.result.dy
          c.shift_one_fits-fits.result.1 c.self.invariant.sound.tree (rw (← c.self.view_is) at c.requires.live) (ap (λ o. o.0)
          c.shift_one_fits-fits.ensures.onward) (c.shift_one_fits-fits.ensures.fits.0 c.if-fits.true) (c.shift_from_fits.ensures.0 u)))),
      (λ v. c.shift_from_fits.ensures.1 (shift_parts c.args.rows.now c.self.inside.nodes c.self.inside.root c.args.key c.new-by.result.dx c.new-by.result.dy
          c.shift_one_fits-fits.result.1 c.self.invariant.sound.tree (rw (← c.self.view_is) at c.requires.live) (ap (λ o. o.0)
          c.shift_one_fits-fits.ensures.onward) (rw (← c.self.view_is) at (back v))).1),
    )

pub returns-else-fits : goal.returns-else-fits
returns-else-fits g c =
    let F : BoxForest = laid_by c.args.rows.now c.args.self.now.boxes in
    let x : c.new-by.result.dx ≡ c.args.dx = c.new-by.ensures.dx ∙ to_z-of_z w32 c.args.dx c.ranges.dx in
    let y : c.new-by.result.dy ≡ c.args.dy = c.new-by.ensures.dy ∙ to_z-of_z w32 c.args.dy c.ranges.dy in
    let back : ShiftFits c.args.dx c.args.dy c.args.key F → ShiftFits c.new-by.result.dx c.new-by.result.dy c.args.key F =
    λ v. subst (λ z. ShiftFits c.new-by.result.dx z c.args.key F) (sym y) (subst (λ z. ShiftFits z c.args.dy c.args.key F) (sym x) v) in
    shift_within c.args.dx c.args.dy c.args.key F _ (
      (λ u. absurd (cc (u, c.if-fits.false))),
      (λ v. c.shift_one_fits-fits.ensures.fits.1 (shift_parts c.args.rows.now c.self.inside.nodes c.self.inside.root c.args.key c.new-by.result.dx c.new-by.result.dy
          c.shift_one_fits-fits.result.1 c.self.invariant.sound.tree (rw (← c.self.view_is) at c.requires.live) (ap (λ o. o.0)
          c.shift_one_fits-fits.ensures.onward) (rw (← c.self.view_is) at (back v))).0),
    )
