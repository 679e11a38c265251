use Rattle.std.proofs.Common.{◌≡◌, ◌∙◌, ◌&&◌, ◌||◌, Bool, true, false, refl, sym}
use Rattle.rd_style.specs.Changes.{names_class}
use Rattle.rd_tree.specs.Changes.{styling, after}
use Rattle.rd_tree.specs.Contexts.{holds_blended}
use Rattle.rd_tree.specs.Internal.Regrouping.{names_blended}
use Rattle.rd_tree.proofs.Contexts.Blends.{restyled_blended}
use Rattle.rd_tree.proofs.drawn_tree.DrawnTree.regroups.Goals as goal

pub returns-then-holds_blended : goal.returns-then-holds_blended
returns-then-holds_blended g c =
    let class : true ≡ names_class c.args.c.now = sym c.if-names_class.true ∙ c.names_class.ensures in
    let holds : true ≡ holds_blended c.args.key c.args.self.now = sym c.if-holds_blended.true ∙ c.holds_blended.ensures.holds in
    c.if-holds_blended.true ∙ (λ i. class i && (holds i || holds_blended c.args.key (after (styling c.args.key c.args.c.now) c.args.self.now)))

pub returns-else-holds_blended : goal.returns-else-holds_blended
returns-else-holds_blended g c =
    let class : true ≡ names_class c.args.c.now = sym c.if-names_class.true ∙ c.names_class.ensures in
    let none : holds_blended c.args.key c.args.self.now ≡ false = sym c.holds_blended.ensures.holds ∙ c.if-holds_blended.false in
    c.names_blended.ensures ∙ (or_no (names_blended c.args.c.now) (holds_blended c.args.key c.args.self.now) none
    ∙ (restyled_blended c.args.key c.args.c.now c.args.self.now.boxes c.holds_blended.ensures.apart c.requires
    ∙ (λ i. class i && (holds_blended c.args.key c.args.self.now || holds_blended c.args.key (after (styling c.args.key c.args.c.now) c.args.self.now))))) where
      or_no : (a b : Bool) → b ≡ false → a ≡ (a || b)
      or_no true b e = refl
      or_no false b e = sym e
