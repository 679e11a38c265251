use Rattle.std.proofs.Common.{◌∙◌}
use Rattle.rd_tree.proofs.Nodes.Naming.{named_seen, fits_seen}
use Rattle.rd_tree.proofs.drawn_tree.DrawnTree.find.Goals as goal

pub returns-clause-found : goal.returns-clause-found
returns-clause-found g c = rw (← c.self.view_is) (c.copied.ensures ∙ (c.get.ensures.value ∙ (rw c.text.ensures.same_text (named_seen c.self.inside.nodes
    c.self.inside.root c.self.inside.ids c.args.id.now c.self.invariant.sound))))

pub returns-clause-limits : goal.returns-clause-limits
returns-clause-limits g c = rw (← c.self.view_is) (fits_seen c.self.inside.nodes c.self.inside.root c.self.inside.ids c.self.invariant.sound)
