use Rattle.std.proofs.Common.{ap, ◌∙◌}
use Rattle.std.specs.Prelude.{option_map}
use Rattle.rd_tree.proofs.Nodes.Naming.{value_item}
use Rattle.rd_tree.proofs.drawn_tree.DrawnTree.id.Goals as goal

pub returns-in-Some : goal.returns-in-Some
returns-in-Some g c = rw (← c.self.view_is) (ap (λ o. option_map (λ d. d.id) (option_map (λ n. n.item) o)) c.in-Some.ensures ∙ ap (λ o. option_map
    (λ d. d.id) o) (value_item c.self.inside.nodes c.self.inside.root c.args.key c.self.invariant.sound.tree))

pub returns-in-None : goal.returns-in-None
returns-in-None g c = rw (← c.self.view_is) (ap (λ o. option_map (λ d. d.id) (option_map (λ n. n.item) o)) c.in-None.ensures ∙ ap (λ o. option_map
    (λ d. d.id) o) (value_item c.self.inside.nodes c.self.inside.root c.args.key c.self.invariant.sound.tree))
