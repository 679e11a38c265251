use Rattle.std.proofs.Common.{ap, ◌∙◌, true}
use Rattle.std.specs.Option.{option_map_or}
use Rattle.rd_keys.specs.Arena.{value}
use Rattle.rd_tree.proofs.Nodes.Naming.{value_item}
use Rattle.rd_tree.proofs.Nodes.Glances.{touched_item}
use Rattle.rd_tree.proofs.drawn_tree.DrawnTree.touched.Goals as goal

pub returns : goal.returns
returns g c = rw (← c.self.view_is) (c.touched.ensures ∙ (touched_item (value c.self.inside.nodes c.args.key.slot c.args.key.generation)
    ∙ ap (λ o. option_map_or (λ d. d.touched) o true) (value_item c.self.inside.nodes c.self.inside.root c.args.key c.self.invariant.sound.tree)))
