use Rattle.std.proofs.Common.{refl, ◌&&◌, ◌||◌, Bool}
use Rattle.rd_style.specs.Changes.{names_class}
use Rattle.rd_tree.specs.Changes.{styling, after}
use Rattle.rd_tree.specs.Contexts.{context_round, holds_blended}
use Rattle.rd_tree.proofs.Contexts.Marks.{IsChosen, found_one, found_none, touch_ready, all_touched}
use Rattle.rd_tree.proofs.Contexts.Regroups.{styling_leaves}
use Rattle.rd_tree.proofs.drawn_tree.DrawnTree.change.Given.{Over}
use Rattle.rd_tree.proofs.drawn_tree.DrawnTree.change.Goals.{After-restyle, then-regroups, else-regroups}
use Rattle.rd_tree.proofs.drawn_tree.DrawnTree.change.Goals as goal

-- Is something regrouped?
abbrev regroups : (g : Over) → After-restyle g → Bool
regroups g c = names_class c.args.c.now && (holds_blended c.args.key c.args.self.now || holds_blended c.args.key (after (styling c.args.key c.args.c.now) c.args.self.now))

-- the context that is asked for
chosen_here : (g : Over) (c : After-restyle g) → IsChosen (regroups g c) (context_round c.args.key c.args.self.now) c.args.self.now c.if-regroups.round
chosen_here g c =
    elim c.if-regroups.branch [
      | then-regroups w ↦ found_one (regroups g c) c.regroups.result (context_round c.args.key c.args.self.now) c.args.self.now c.if-regroups.round
          w.context_round-round.result c.regroups.ensures w.if-regroups.true w.round-is w.context_round-round.ensures.context
          w.context_round-round.ensures.rooted w.context_round-round.ensures.apart
      | else-regroups w ↦ found_none (regroups g c) c.regroups.result (context_round c.args.key c.args.self.now) c.args.self.now c.if-regroups.round
          c.regroups.ensures w.if-regroups.false w.round-is
    ]

pub touch_context-requires : goal.touch_context-requires
touch_context-requires g c =
    let a = (goal.at.touch_context-requires g c).After-restyle in
    touch_ready (styling c.args.key c.args.c.now) c.args.self.now c.restyle.new.self (regroups g a) (context_round c.args.key c.args.self.now) c.if-regroups.round
    c.restyle.ensures (chosen_here g a) (λ n p. styling_leaves c.args.self.now n p c.args.key c.args.c.now (regroups g a))

pub returns : goal.returns
returns g c =
    let a = (goal.at.returns g c).After-restyle in
    all_touched (styling c.args.key c.args.c.now) c.args.self.now c.restyle.new.self (regroups g a) (context_round c.args.key c.args.self.now) c.if-regroups.round
    c.restyle.ensures (chosen_here g a) (λ n p. styling_leaves c.args.self.now n p c.args.key c.args.c.now (regroups g a)) c.touch_context.new.self
    c.touch_context.ensures (λ j. refl)
