use Rattle.std.proofs.Common.{◌≡◌, ◌∙◌, sym, ap, subst, to_z, of_z, w32}
use Rattle.std.proofs.lemmas.Int.{to_z-of_z}
use Rattle.rd_tree.specs.Internal.Works.{ShiftNear}
use Rattle.rd_keys.specs.Keys.{same_key}
use Rattle.rd_tree.specs.Internal.Hands.{hand_at}
use Rattle.rd_tree.specs.Internal.Laid.{laid_at}
use Rattle.rd_tree.specs.Touching.{edited}
use Rattle.rd_tree.specs.Changes.{shifting}
use Rattle.rd_tree.proofs.Forests.ByKey.{has-by}
use Rattle.rd_tree.proofs.Laying.Kept.{moving_by}
use Rattle.rd_tree.proofs.Laying.Kept.{shift_near}
use Rattle.rd_tree.proofs.tree.Tree.shift.Goals as goal

pub shift-requires-clause-live : goal.shift-requires-clause-live
shift-requires-clause-live g c = sym (has-by (λ k d. laid_at (hand_at c.self.inside.hands.items k) d) same_key c.args.key c.self.inside.drawn.boxes) ∙ (rw (← c.self.view_is) at c.requires.live)

pub shift-requires-clause-near : goal.shift-requires-clause-near
shift-requires-clause-near g c =
    let x : to_z w32 (of_z w32 c.args.dx) ≡ c.args.dx = to_z-of_z w32 c.args.dx c.ranges.dx in
    let y : to_z w32 (of_z w32 c.args.dy) ≡ c.args.dy = to_z-of_z w32 c.args.dy c.ranges.dy in
    subst (λ z. ShiftNear z (to_z w32 (of_z w32 c.args.dy)) c.args.key c.self.inside.drawn.boxes) (sym x) (subst (λ z. ShiftNear c.args.dx z c.args.key c.self.inside.drawn.boxes) (sym y) (shift_near c.self.inside.drawn c.self.inside.hands.items (record { rooted = c.known.ensures.rooted; apart = c.known.ensures.apart; keyed = c.known.ensures.keyed; shallow = c.known.ensures.depth }) c.self.invariant c.args.key c.args.dx c.args.dy (rw (← c.self.view_is) at c.requires.fits)))

pub invariant_of-self : goal.invariant_of-self
invariant_of-self g c =
    let x : to_z w32 (of_z w32 c.args.dx) ≡ c.args.dx = to_z-of_z w32 c.args.dx c.ranges.dx in
    let y : to_z w32 (of_z w32 c.args.dy) ≡ c.args.dy = to_z-of_z w32 c.args.dy c.ranges.dy in
    (moving_by c.self.inside.drawn c.shift.new.self c.self.inside.hands.items (record { rooted = c.known.ensures.rooted; apart = c.known.ensures.apart; keyed = c.known.ensures.keyed; shallow = c.known.ensures.depth }) c.self.invariant c.known-2.ensures.rooted c.known-2.ensures.apart c.args.key c.args.dx c.args.dy (rw (← c.self.view_is) at c.requires.fits) (c.shift.ensures ∙ (λ i. edited (shifting c.args.key (x i) (y i)) c.self.inside.drawn))).0

pub returns : goal.returns
returns g c =
    let x : to_z w32 (of_z w32 c.args.dx) ≡ c.args.dx = to_z-of_z w32 c.args.dx c.ranges.dx in
    let y : to_z w32 (of_z w32 c.args.dy) ≡ c.args.dy = to_z-of_z w32 c.args.dy c.ranges.dy in
    (moving_by c.self.inside.drawn c.shift.new.self c.self.inside.hands.items (record { rooted = c.known.ensures.rooted; apart = c.known.ensures.apart; keyed = c.known.ensures.keyed; shallow = c.known.ensures.depth }) c.self.invariant c.known-2.ensures.rooted c.known-2.ensures.apart c.args.key c.args.dx c.args.dy (rw (← c.self.view_is) at c.requires.fits) (c.shift.ensures ∙ (λ i. edited (shifting c.args.key (x i) (y i)) c.self.inside.drawn))).1 ∙ ap (edited (shifting c.args.key c.args.dx c.args.dy)) c.self.view_is
