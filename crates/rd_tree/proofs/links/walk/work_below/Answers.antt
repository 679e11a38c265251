use Rattle.std.proofs.Common.{◌≡◌, sym, ap, subst, ◌∙◌}
use Rattle.rd_keys.specs.Keys.{same_key}
use Rattle.rd_tree.specs.Forest.{has, AllItems}
use Rattle.rd_tree.specs.Internal.Links.{on_each, child_and_sibling}
use Rattle.rd_tree.specs.Internal.Linked.{Relinks, IsRead, linked, seen_from}
use Rattle.rd_tree.specs.Internal.Works.{done, Allows}
use Rattle.rd_tree.proofs.Nodes.Works.{edited_read, worked_below}
use Rattle.rd_tree.proofs.links.walk.work_below.Goals as goal

pub work_from-requires-clause-read : goal.work_from-requires-clause-read
work_from-requires-clause-read c =
    subst (λ o. IsRead c.work_on-onward.new.self o.0) (sym c.work_on-onward.ensures.onward)
    (edited_read c.args.nodes.now c.work_on-onward.new.self c.args.key (done c.args.work) (child_and_sibling (linked c.args.nodes.now c.args.key)).0
    c.work_on-onward.ensures.worked c.requires.read c.requires.apart).0

pub work_from-requires-clause-allowed : goal.work_from-requires-clause-allowed
work_from-requires-clause-allowed c =
    subst (λ o. AllItems (Allows c.args.work) (seen_from c.work_on-onward.new.self o.0)) (sym c.work_on-onward.ensures.onward)
    (subst (λ f. AllItems (Allows c.args.work) f) (sym (edited_read c.args.nodes.now c.work_on-onward.new.self c.args.key (done c.args.work)
    (child_and_sibling (linked c.args.nodes.now c.args.key)).0 c.work_on-onward.ensures.worked c.requires.read c.requires.apart).1) c.requires.allowed)

pub returns : goal.returns
returns c =
    let told : seen_from c.work_on-onward.new.self c.work_on-onward.result.0 ≡ seen_from c.args.nodes.now (child_and_sibling (linked c.args.nodes.now
    c.args.key)).0 =
    ap (λ o. seen_from c.work_on-onward.new.self o.0) c.work_on-onward.ensures.onward
    ∙ (edited_read c.args.nodes.now c.work_on-onward.new.self c.args.key (done c.args.work) (child_and_sibling (linked c.args.nodes.now c.args.key)).0
    c.work_on-onward.ensures.worked c.requires.read c.requires.apart).1 in
    worked_below c.args.nodes.now c.work_on-onward.new.self c.work_from.new.nodes c.args.key (done c.args.work) (seen_from c.args.nodes.now
    (child_and_sibling (linked c.args.nodes.now c.args.key)).0) c.requires.apart c.work_on-onward.ensures.worked
    (subst (λ f. Relinks c.work_on-onward.new.self c.work_from.new.nodes (on_each (λ j. has same_key j f) (done c.args.work)
    (linked c.work_on-onward.new.self))) told c.work_from.ensures)
