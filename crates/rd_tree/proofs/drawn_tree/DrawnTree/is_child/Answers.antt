use Rattle.std.proofs.Common.{◌∙◌}
use Rattle.rd_tree.proofs.Tables.Climbing.{child_is, no_child}
use Rattle.rd_tree.proofs.drawn_tree.DrawnTree.is_child.Goals as goal

pub returns-in-Some : goal.returns-in-Some
returns-in-Some g c = c.is.ensures ∙ rw (← c.self.view_is) (child_is c.self.inside.nodes c.self.inside.root c.args.key c.in-Some.up c.args.parent
    c.self.invariant.sound.tree (rw (← c.self.view_is) at c.requires.key) (rw (← c.self.view_is) at c.requires.parent) c.in-Some.ensures)

pub returns-in-None : goal.returns-in-None
returns-in-None g c = rw (← c.self.view_is) (no_child c.self.inside.nodes c.self.inside.root c.args.key c.args.parent c.self.invariant.sound.tree
    (rw (← c.self.view_is) at c.requires.parent) c.in-None.ensures)
