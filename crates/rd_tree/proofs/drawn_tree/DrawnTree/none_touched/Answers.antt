use Rattle.std.proofs.Common.{ap, ◌∙◌, sym, true}
use Rattle.std.specs.Option.{option_map_or}
use Rattle.rd_keys.specs.Arena.{value}
use Rattle.rd_tree.proofs.Nodes.Naming.{value_item}
use Rattle.rd_tree.proofs.Nodes.Glances.{touched_item}
use Rattle.rd_tree.proofs.drawn_tree.DrawnTree.none_touched.Goals as goal

pub returns : goal.returns
returns g c = λ t k i. rw (← c.self.view_is) (sym (touched_item (value c.self.inside.nodes k.slot k.generation)
    ∙ ap (λ o. option_map_or (λ d. d.touched) o true) (value_item c.self.inside.nodes c.self.inside.root k c.self.invariant.sound.tree))
    ∙ c.none_touched.ensures t k i)
