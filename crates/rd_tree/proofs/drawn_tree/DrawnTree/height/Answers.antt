use Rattle.std.proofs.Common.{◌∙◌, ap, sym, subst, ◌+◌, arith}
use Rattle.rd_tree.specs.Forest.{height}
use Rattle.rd_tree.specs.Internal.Linked.{IsRead, seen_from}
use Rattle.rd_tree.proofs.Nodes.Each.{under_box}
use Rattle.rd_tree.proofs.drawn_tree.DrawnTree.height.Goals as goal

pub height_from-requires-clause-read : goal.height_from-requires-clause-read
height_from-requires-clause-read g c = subst (λ o. IsRead c.self.inside.nodes o) (sym (ap (λ o. o.0) c.child_and_sibling.ensures))
    (under_box c.self.inside.nodes c.self.inside.root c.args.key c.self.invariant.sound.tree (rw (← c.self.view_is) at c.requires)).read

pub returns : goal.returns
returns g c =
    let told = (under_box c.self.inside.nodes c.self.inside.root c.args.key c.self.invariant.sound.tree (rw (← c.self.view_is) at c.requires)).told in
    let e = ap (λ o. height (seen_from c.self.inside.nodes o.0)) c.child_and_sibling.ensures ∙ ap height told in
    rw (← c.self.view_is) (ap (λ n. n + 1) (c.height_from.ensures.height ∙ e) ∙ omega arith)
