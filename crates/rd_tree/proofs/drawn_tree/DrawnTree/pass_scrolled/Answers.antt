use Rattle.std.proofs.Common.{ap, ◌∙◌}
use Rattle.std.specs.Prelude.{option_map}
use Rattle.rd_keys.specs.Keys.{same_key}
use Rattle.rd_tree.specs.Changes.{with_scroll}
use Rattle.rd_tree.specs.Internal.Handing.{entered}
use Rattle.rd_tree.specs.Internal.Laid.{passed_from}
use Rattle.rd_tree.proofs.Nodes.Naming.{value_item}
use Rattle.rd_tree.proofs.drawn_tree.DrawnTree.pass_scrolled.Goals as goal

pub returns-in-Some : goal.returns-in-Some
returns-in-Some g c = rw (← c.self.view_is) (c.enter.ensures.entered
    ∙ (ap (λ b. entered b c.in-Some.node.now.item.style c.args.scroll c.args.handed.now) c.is.ensures
    ∙ (ap (λ o. passed_from (same_key c.args.key c.self.inside.root) c.args.handed.now (option_map (with_scroll c.args.scroll) (option_map (λ n. n.item) o))) c.in-Some.ensures
    ∙ ap (λ o. passed_from (same_key c.args.key c.self.inside.root) c.args.handed.now (option_map (with_scroll c.args.scroll) o))
    (value_item c.self.inside.nodes c.self.inside.root c.args.key c.self.invariant.sound.tree))))

pub returns-in-None : goal.returns-in-None
returns-in-None g c = rw (← c.self.view_is) (ap (λ o. passed_from (same_key c.args.key c.self.inside.root) c.args.handed.now (option_map (with_scroll c.args.scroll) (option_map (λ n. n.item) o))) c.in-None.ensures
    ∙ ap (λ o. passed_from (same_key c.args.key c.self.inside.root) c.args.handed.now (option_map (with_scroll c.args.scroll) o))
    (value_item c.self.inside.nodes c.self.inside.root c.args.key c.self.invariant.sound.tree))
