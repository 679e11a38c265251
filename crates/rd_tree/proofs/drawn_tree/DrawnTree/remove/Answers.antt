use Rattle.std.proofs.Common.{refl}
use Rattle.rd_tree.specs.Changes.{removal}
use Rattle.rd_tree.specs.Contexts.{context_round, holds_blended}
use Rattle.rd_tree.proofs.Contexts.Marks.{IsChosen, found_one, found_none, touch_ready, all_touched}
use Rattle.rd_tree.proofs.Contexts.Regroups.{removal_leaves}
use Rattle.rd_tree.proofs.drawn_tree.DrawnTree.remove.Given.{Over}
use Rattle.rd_tree.proofs.drawn_tree.DrawnTree.remove.Goals.{After-take_out, then-holds_blended, else-holds_blended}
use Rattle.rd_tree.proofs.drawn_tree.DrawnTree.remove.Goals as goal

-- the context that is asked for
chosen_here : (g : Over) (c : After-take_out g) → IsChosen (holds_blended c.args.key c.args.self.now) (context_round c.args.key c.args.self.now) c.args.self.now
    c.if-holds_blended.round
chosen_here g c =
    elim c.if-holds_blended.branch [
      | then-holds_blended w ↦ found_one (holds_blended c.args.key c.args.self.now) c.holds_blended.result (context_round c.args.key c.args.self.now)
          c.args.self.now c.if-holds_blended.round w.context_round-round.result c.holds_blended.ensures.holds w.if-holds_blended.true w.round-is
          w.context_round-round.ensures.context w.context_round-round.ensures.rooted w.context_round-round.ensures.apart
      | else-holds_blended w ↦ found_none (holds_blended c.args.key c.args.self.now) c.holds_blended.result (context_round c.args.key c.args.self.now)
          c.args.self.now c.if-holds_blended.round c.holds_blended.ensures.holds w.if-holds_blended.false w.round-is
    ]

pub touch_context-requires : goal.touch_context-requires
touch_context-requires g c =
    touch_ready (removal c.args.key) c.args.self.now c.take_out.new.self (holds_blended c.args.key c.args.self.now) (context_round c.args.key c.args.self.now)
    c.if-holds_blended.round c.take_out.ensures (chosen_here g (goal.at.touch_context-requires g c).After-take_out)
    (λ n p. removal_leaves c.args.self.now n p c.args.key (holds_blended c.args.key c.args.self.now) c.requires.live c.requires.below)

pub returns : goal.returns
returns g c =
    all_touched (removal c.args.key) c.args.self.now c.take_out.new.self (holds_blended c.args.key c.args.self.now) (context_round c.args.key c.args.self.now)
    c.if-holds_blended.round c.take_out.ensures (chosen_here g (goal.at.returns g c).After-take_out)
    (λ n p. removal_leaves c.args.self.now n p c.args.key (holds_blended c.args.key c.args.self.now) c.requires.live c.requires.below) c.touch_context.new.self
    c.touch_context.ensures (λ j. refl)
