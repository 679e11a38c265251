use Rattle.std.proofs.Common.{◌≡◌, ◌∙◌, refl, sym, true, false}
use Rattle.rd_style.specs.Classes.{blended}
use Rattle.rd_tree.specs.Changes.{insertion, new_item}
use Rattle.rd_tree.specs.Contexts.{context_of}
use Rattle.rd_tree.specs.Document.{BoxKey, contains, IsNext}
use Rattle.rd_tree.proofs.Linking.Standing.{never}
use Rattle.rd_tree.proofs.Changing.NextKeys.{next-absent}
use Rattle.rd_tree.proofs.Contexts.Marks.{IsChosen, found_one, found_none, touch_ready, all_touched}
use Rattle.rd_tree.proofs.Contexts.Regroups.{insertion_leaves}
use Rattle.rd_tree.proofs.drawn_tree.DrawnTree.insert.Given.{Over}
use Rattle.rd_tree.proofs.drawn_tree.DrawnTree.insert.Goals.{After-put_in, then-is_blended, else-is_blended}
use Rattle.rd_tree.proofs.drawn_tree.DrawnTree.insert.Goals as goal

-- the context that is asked for
chosen_here : (g : Over) (c : After-put_in g) → IsChosen (blended c.args.style) (context_of c.args.parent c.args.self.now) c.args.self.now c.if-is_blended.round
chosen_here g c =
    elim c.if-is_blended.branch [
      | then-is_blended w ↦ found_one (blended c.args.style) c.is_blended.result (context_of c.args.parent c.args.self.now) c.args.self.now c.if-is_blended.round
          w.context_of-round.result c.is_blended.ensures w.if-is_blended.true w.round-is w.context_of-round.ensures.context
          w.context_of-round.ensures.rooted w.context_of-round.ensures.apart
      | else-is_blended w ↦ found_none (blended c.args.style) c.is_blended.result (context_of c.args.parent c.args.self.now) c.args.self.now c.if-is_blended.round
          c.is_blended.ensures w.if-is_blended.false w.round-is
    ]

-- Where it is asked for, the new key is of no box yet.
absent_here : (g : Over) (c : After-put_in g) (k : BoxKey) → IsNext c.args.self.now k → blended c.args.style ≡ true → contains c.args.self.now k ≡ false
absent_here g c k next on =
    elim c.if-is_blended.branch [
      | then-is_blended w ↦ next-absent c.args.self.now k w.context_of-round.ensures.keyed next
      | else-is_blended w ↦ absurd (never (blended c.args.style) on (sym c.is_blended.ensures ∙ w.if-is_blended.false))
    ]

pub touch_context-requires : goal.touch_context-requires
touch_context-requires g c =
    let a = (goal.at.touch_context-requires g c).After-put_in in
    touch_ready (insertion c.args.parent c.args.before c.in_ok-key.key (new_item c.args.id.now c.args.rect c.args.style)) c.args.self.now c.put_in.new.self
    (blended c.args.style) (context_of c.args.parent c.args.self.now) c.if-is_blended.round c.in_ok-key.ensures.inserted (chosen_here g a)
    (λ n p e on h. insertion_leaves c.args.self.now n p c.args.parent c.args.before c.in_ok-key.key (new_item c.args.id.now c.args.rect c.args.style)
    (blended c.args.style) c.requires.parent c.requires.place (absent_here g a c.in_ok-key.key c.in_ok-key.ensures.next on) e on h)

pub returns-clause-inserted : goal.returns-clause-inserted
returns-clause-inserted g c =
    let a = (goal.at.returns-clause-inserted g c).After-put_in in
    all_touched (insertion c.args.parent c.args.before c.in_ok-key.key (new_item c.args.id.now c.args.rect c.args.style)) c.args.self.now c.put_in.new.self
    (blended c.args.style) (context_of c.args.parent c.args.self.now) c.if-is_blended.round c.in_ok-key.ensures.inserted (chosen_here g a)
    (λ n p e on h. insertion_leaves c.args.self.now n p c.args.parent c.args.before c.in_ok-key.key (new_item c.args.id.now c.args.rect c.args.style)
    (blended c.args.style) c.requires.parent c.requires.place (absent_here g a c.in_ok-key.key c.in_ok-key.ensures.next on) e on h)
    c.touch_context.new.self c.touch_context.ensures (λ j. refl)
