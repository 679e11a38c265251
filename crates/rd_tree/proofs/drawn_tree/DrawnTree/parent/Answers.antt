use Rattle.std.proofs.Common.{◌∙◌}
use Rattle.rd_tree.proofs.Nodes.Looking.{apart_seen}
use Rattle.rd_tree.proofs.Nodes.Parents.{parent_seen, root_alone}
use Rattle.rd_tree.proofs.Nodes.Rooting.{rooted_seen}
use Rattle.rd_tree.proofs.drawn_tree.DrawnTree.parent.Goals as goal

pub returns-clause-parent : goal.returns-clause-parent
returns-clause-parent g c = rw (← c.self.view_is) (c.parent_of.ensures ∙ parent_seen c.self.inside.nodes c.self.inside.root c.args.key
    c.self.invariant.sound.tree (rw (← c.self.view_is) at c.requires))

pub returns-clause-root : goal.returns-clause-root
returns-clause-root g c =
    let t = c.self.invariant.sound.tree in
    let a = c.self.inside.nodes in
    let r = rooted_seen a c.self.inside.root t in
    let m = rw (← c.self.view_is) at c.requires in
    rw (← c.self.view_is, c.parent_of.ensures ∙ parent_seen a c.self.inside.root c.args.key t m)
    (root_alone c.self.inside.root c.args.key _ r.0 r.1 r.2 (apart_seen a c.self.inside.root t) m)
