use Rattle.std.proofs.Common.{◌≡◌, ◌∙◌, sym, ap, to_z, of_z, w32}
use Rattle.std.proofs.lemmas.Int.{to_z-of_z}
use Rattle.rd_keys.specs.Keys.{same_key}
use Rattle.rd_tree.specs.Internal.Hands.{hand_at}
use Rattle.rd_tree.specs.Internal.Laid.{laid_at, laid_by}
use Rattle.rd_tree.specs.Changes.{fits_shift}
use Rattle.rd_tree.proofs.Forests.ByKey.{has-by}
use Rattle.rd_tree.proofs.Laying.Kept.{has_hands}
use Rattle.rd_tree.proofs.tree.Tree.shift_fits.Goals as goal

pub shift_fits-requires-clause-live : goal.shift_fits-requires-clause-live
shift_fits-requires-clause-live g c = sym (has-by (λ k d. laid_at (hand_at c.self.inside.hands.items k) d) same_key c.args.key c.self.inside.drawn.boxes) ∙ (rw (← c.self.view_is) at c.requires)

pub shift_fits-requires-clause-has_rows : goal.shift_fits-requires-clause-has_rows
shift_fits-requires-clause-has_rows g c = rw c.deref.ensures.value (has_hands c.self.inside.drawn c.self.inside.hands.items (record { rooted = c.known.ensures.rooted; apart = c.known.ensures.apart; keyed = c.known.ensures.keyed; shallow = c.known.ensures.depth }) c.self.invariant)

pub shift_fits-requires-clause-fits : goal.shift_fits-requires-clause-fits
shift_fits-requires-clause-fits g c = rw c.deref.ensures.value c.self.invariant.fits

pub returns : goal.returns
returns g c =
    let x : to_z w32 (of_z w32 c.args.dx) ≡ c.args.dx = to_z-of_z w32 c.args.dx c.ranges.dx in
    let y : to_z w32 (of_z w32 c.args.dy) ≡ c.args.dy = to_z-of_z w32 c.args.dy c.ranges.dy in
    rw (← c.self.view_is) (c.shift_fits.ensures ∙ (λ i. fits_shift (x i) (y i) c.args.key (laid_by c.deref.result.now c.self.inside.drawn.boxes)) ∙ ap (λ z. fits_shift c.args.dx c.args.dy c.args.key (laid_by z c.self.inside.drawn.boxes)) c.deref.ensures.value)
