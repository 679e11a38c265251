use Rattle.std.proofs.Common.{◌≡◌, ◌∙◌, ◌||◌, ap, sym, subst, true, false}
use Rattle.rd_tree.specs.Internal.Linked.{IsRead, linked, seen_from}
use Rattle.rd_tree.specs.Internal.Links.{child_and_sibling}
use Rattle.rd_tree.specs.Internal.Regrouping.{is_blended_under}
use Rattle.rd_tree.proofs.Nodes.Each.{under_box}
use Rattle.rd_tree.proofs.Nodes.Looking.{apart_seen}
use Rattle.rd_tree.proofs.Contexts.Blends.{any_blended, branch_blended}
use Rattle.rd_tree.proofs.drawn_tree.DrawnTree.holds_blended.Goals as goal

pub any_blended_from-requires : goal.any_blended_from-requires
any_blended_from-requires g c = subst (λ o. IsRead c.self.inside.nodes o) (sym (ap (λ o. o.0) c.blended_one-blended.ensures.onward))
    (under_box c.self.inside.nodes c.self.inside.root c.args.key c.self.invariant.sound.tree (rw (← c.self.view_is) at c.requires)).read

pub returns-then-blended-clause-holds : goal.returns-then-blended-clause-holds
returns-then-blended-clause-holds g c =
    let own : is_blended_under (linked c.self.inside.nodes c.args.key) ≡ true = sym c.blended_one-blended.ensures.blended ∙ c.if-blended.true in
    rw (← c.self.view_is) (c.if-blended.true ∙ sym (branch_blended c.self.inside.nodes c.self.inside.root c.args.key c.self.invariant.sound.tree (rw (← c.self.view_is) at c.requires)
    ∙ ap (λ b. b || any_blended (seen_from c.self.inside.nodes (child_and_sibling (linked c.self.inside.nodes c.args.key)).0)) own))

pub returns-else-blended-clause-holds : goal.returns-else-blended-clause-holds
returns-else-blended-clause-holds g c =
    let own : is_blended_under (linked c.self.inside.nodes c.args.key) ≡ false = sym c.blended_one-blended.ensures.blended ∙ c.if-blended.false in
    let low : c.any_blended_from.result ≡ any_blended (seen_from c.self.inside.nodes (child_and_sibling (linked c.self.inside.nodes c.args.key)).0) =
    c.any_blended_from.ensures ∙ ap (λ o. any_blended (seen_from c.self.inside.nodes o.0)) c.blended_one-blended.ensures.onward in
    rw (← c.self.view_is) (low ∙ sym (branch_blended c.self.inside.nodes c.self.inside.root c.args.key c.self.invariant.sound.tree (rw (← c.self.view_is) at c.requires)
    ∙ ap (λ b. b || any_blended (seen_from c.self.inside.nodes (child_and_sibling (linked c.self.inside.nodes c.args.key)).0)) own))

pub returns-then-blended-clause-apart : goal.returns-then-blended-clause-apart
returns-then-blended-clause-apart g c = rw (← c.self.view_is) (apart_seen c.self.inside.nodes c.self.inside.root c.self.invariant.sound.tree)

pub returns-else-blended-clause-apart : goal.returns-else-blended-clause-apart
returns-else-blended-clause-apart g c = rw (← c.self.view_is) (apart_seen c.self.inside.nodes c.self.inside.root c.self.invariant.sound.tree)
