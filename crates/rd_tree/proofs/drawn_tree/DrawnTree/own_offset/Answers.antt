use Rattle.std.proofs.Common.{ap, ◌∙◌}
use Rattle.std.specs.Prelude.{option_map}
use Rattle.std.specs.Option.{option_map_or}
use Rattle.rd_tree.specs.Changes.{unscrolled}
use Rattle.rd_tree.specs.Internal.Handing.{offset_in}
use Rattle.rd_tree.proofs.Nodes.Naming.{value_item}
use Rattle.rd_tree.proofs.drawn_tree.DrawnTree.own_offset.Goals as goal

pub returns-in-Some : goal.returns-in-Some
returns-in-Some g c = rw (← c.self.view_is) (c.offset.ensures.offset ∙ (ap (λ o. option_map_or (λ d. offset_in c.args.handed.now d.style.position)
    (option_map (λ n. n.item) o) unscrolled) c.in-Some.ensures ∙ ap (λ o. option_map_or (λ d. offset_in c.args.handed.now d.style.position) o unscrolled)
    (value_item c.self.inside.nodes c.self.inside.root c.args.key c.self.invariant.sound.tree)))

pub returns-in-None : goal.returns-in-None
returns-in-None g c = rw (← c.self.view_is) (ap (λ o. option_map_or (λ d. offset_in c.args.handed.now d.style.position) (option_map (λ n. n.item) o) unscrolled)
    c.in-None.ensures ∙ ap (λ o. option_map_or (λ d. offset_in c.args.handed.now d.style.position) o unscrolled)
    (value_item c.self.inside.nodes c.self.inside.root c.args.key c.self.invariant.sound.tree))
