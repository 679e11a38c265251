use Rattle.std.proofs.Common.{◌≡◌, ap, ◌∙◌, sym, subst}
use Rattle.std.specs.Prelude.{Some, option_map}
use Rattle.rd_keys.specs.Keys.{same_key}
use Rattle.rd_tree.specs.Forest.{item_of}
use Rattle.rd_tree.specs.Internal.Handing.{entered}
use Rattle.rd_tree.specs.Internal.Laid.{passed_from, ScrollFits}
use Rattle.rd_tree.specs.Internal.Linked.{seen}
use Rattle.rd_tree.proofs.Nodes.Naming.{value_item}
use Rattle.rd_tree.proofs.drawn_tree.DrawnTree.pass.Goals as goal

pub enter-requires-clause-scroll : goal.enter-requires-clause-scroll
enter-requires-clause-scroll g c =
    let i : Some c.in-Some.node.now.item ≡ item_of same_key c.args.key (seen c.self.inside.nodes c.self.inside.root) =
    ap (option_map (λ n. n.item)) c.in-Some.ensures ∙ value_item c.self.inside.nodes c.self.inside.root c.args.key c.self.invariant.sound.tree in
    subst ScrollFits (sym i) (rw (← c.self.view_is) at c.requires.scrolls)

pub returns-in-Some : goal.returns-in-Some
returns-in-Some g c = rw (← c.self.view_is) (c.enter.ensures.entered
    ∙ (ap (λ b. entered b c.in-Some.node.now.item.style c.in-Some.node.now.item.scroll c.args.handed.now) c.is.ensures
    ∙ (ap (λ o. passed_from (same_key c.args.key c.self.inside.root) c.args.handed.now (option_map (λ n. n.item) o)) c.in-Some.ensures
    ∙ ap (passed_from (same_key c.args.key c.self.inside.root) c.args.handed.now) (value_item c.self.inside.nodes c.self.inside.root c.args.key c.self.invariant.sound.tree))))

pub returns-in-None : goal.returns-in-None
returns-in-None g c = rw (← c.self.view_is) (ap (λ o. passed_from (same_key c.args.key c.self.inside.root) c.args.handed.now (option_map (λ n. n.item) o)) c.in-None.ensures
    ∙ ap (passed_from (same_key c.args.key c.self.inside.root) c.args.handed.now) (value_item c.self.inside.nodes c.self.inside.root c.args.key c.self.invariant.sound.tree))
