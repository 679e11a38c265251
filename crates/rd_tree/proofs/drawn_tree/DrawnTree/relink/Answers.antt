use Rattle.std.proofs.Common.{refl, ap}
use Rattle.rd_tree.specs.Changes.{moving}
use Rattle.rd_tree.specs.Contexts.{context_of, context_round, holds_blended}
use Rattle.rd_tree.proofs.Contexts.Marks.{IsChosen, found_one, found_none, touch_ready, touch_second, both_touched}
use Rattle.rd_tree.proofs.Contexts.Regroups.{moving_leaves_from, moving_leaves_to}
use Rattle.rd_tree.proofs.drawn_tree.DrawnTree.relink.Given.{Over}
use Rattle.rd_tree.proofs.drawn_tree.DrawnTree.relink.Goals.{After-move_to, then-holds_blended, else-holds_blended}
use Rattle.rd_tree.proofs.drawn_tree.DrawnTree.relink.Goals as goal

-- the context round the old place,
from_here : (g : Over) (c : After-move_to g) → IsChosen (holds_blended c.args.key c.args.self.now) (context_round c.args.key c.args.self.now) c.args.self.now
    c.if-holds_blended.from.0
from_here g c =
    elim c.if-holds_blended.branch [
      | then-holds_blended w ↦ found_one (holds_blended c.args.key c.args.self.now) c.holds_blended.result (context_round c.args.key c.args.self.now)
          c.args.self.now c.if-holds_blended.from.0 w.context_round.result c.holds_blended.ensures.holds w.if-holds_blended.true (ap (λ o. o.0) w.from-is)
          w.context_round.ensures.context w.context_round.ensures.rooted w.context_round.ensures.apart
      | else-holds_blended w ↦ found_none (holds_blended c.args.key c.args.self.now) c.holds_blended.result (context_round c.args.key c.args.self.now)
          c.args.self.now c.if-holds_blended.from.0 c.holds_blended.ensures.holds w.if-holds_blended.false (ap (λ o. o.0) w.from-is)
    ]

-- and that round the new one
to_here : (g : Over) (c : After-move_to g) → IsChosen (holds_blended c.args.key c.args.self.now) (context_of c.args.parent c.args.self.now) c.args.self.now
    c.if-holds_blended.from.1
to_here g c =
    elim c.if-holds_blended.branch [
      | then-holds_blended w ↦ found_one (holds_blended c.args.key c.args.self.now) c.holds_blended.result (context_of c.args.parent c.args.self.now)
          c.args.self.now c.if-holds_blended.from.1 w.context_of.result c.holds_blended.ensures.holds w.if-holds_blended.true (ap (λ o. o.1) w.from-is)
          w.context_of.ensures.context w.context_of.ensures.rooted w.context_of.ensures.apart
      | else-holds_blended w ↦ found_none (holds_blended c.args.key c.args.self.now) c.holds_blended.result (context_of c.args.parent c.args.self.now)
          c.args.self.now c.if-holds_blended.from.1 c.holds_blended.ensures.holds w.if-holds_blended.false (ap (λ o. o.1) w.from-is)
    ]

pub touch_context-requires : goal.touch_context-requires
touch_context-requires g c =
    touch_ready (moving c.args.key c.args.parent c.args.before) c.args.self.now c.move_to.new.self (holds_blended c.args.key c.args.self.now)
    (context_round c.args.key c.args.self.now) c.if-holds_blended.from.0 c.move_to.ensures (from_here g (goal.at.touch_context-requires g c).After-move_to)
    (λ n p. moving_leaves_from c.args.self.now n p c.args.key c.args.parent c.args.before c.requires.live c.requires.below c.requires.parent
    c.requires.outside c.requires.place c.requires.other (holds_blended c.args.key c.args.self.now))

pub touch_context-requires-2 : goal.touch_context-requires-2
touch_context-requires-2 g c =
    touch_second (moving c.args.key c.args.parent c.args.before) c.args.self.now c.move_to.new.self (holds_blended c.args.key c.args.self.now)
    (context_round c.args.key c.args.self.now) c.if-holds_blended.from.0 c.move_to.ensures (from_here g (goal.at.touch_context-requires-2 g c).After-move_to)
    (λ n p. moving_leaves_from c.args.self.now n p c.args.key c.args.parent c.args.before c.requires.live c.requires.below c.requires.parent
    c.requires.outside c.requires.place c.requires.other (holds_blended c.args.key c.args.self.now))
    (context_of c.args.parent c.args.self.now) c.if-holds_blended.from.1 c.touch_context.new.self c.touch_context.ensures
    (to_here g (goal.at.touch_context-requires-2 g c).After-move_to)
    (λ n p. moving_leaves_to c.args.self.now n p c.args.key c.args.parent c.args.before c.requires.live c.requires.below c.requires.parent
    c.requires.outside c.requires.place c.requires.other (holds_blended c.args.key c.args.self.now))

pub returns : goal.returns
returns g c =
    both_touched (moving c.args.key c.args.parent c.args.before) c.args.self.now c.move_to.new.self (holds_blended c.args.key c.args.self.now)
    (context_round c.args.key c.args.self.now) c.if-holds_blended.from.0 c.move_to.ensures (from_here g (goal.at.returns g c).After-move_to)
    (λ n p. moving_leaves_from c.args.self.now n p c.args.key c.args.parent c.args.before c.requires.live c.requires.below c.requires.parent
    c.requires.outside c.requires.place c.requires.other (holds_blended c.args.key c.args.self.now))
    (context_of c.args.parent c.args.self.now) c.if-holds_blended.from.1 c.touch_context.new.self c.touch_context.ensures
    (to_here g (goal.at.returns g c).After-move_to)
    (λ n p. moving_leaves_to c.args.self.now n p c.args.key c.args.parent c.args.before c.requires.live c.requires.below c.requires.parent
    c.requires.outside c.requires.place c.requires.other (holds_blended c.args.key c.args.self.now))
    c.touch_context-2.new.self c.touch_context-2.ensures (λ j. refl)
