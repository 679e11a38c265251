use Rattle.std.proofs.Common.{◌∙◌, sym, ap, subst}
use Rattle.std.specs.Prelude.{option_map}
use Rattle.rd_tree.specs.Internal.Links.{with_item, child_and_sibling}
use Rattle.rd_tree.specs.Internal.Linked.{plain, linked}
use Rattle.rd_tree.specs.Internal.Works.{done, AllowsAt}
use Rattle.rd_tree.proofs.Nodes.Glances.{glances_written, read_live}
use Rattle.rd_tree.proofs.Nodes.Marks.{relinks_written, relinks_absent}
use Rattle.rd_tree.proofs.held.Nodes.work_on.Goals as goal

pub do_work-requires : goal.do_work-requires
do_work-requires c = subst (λ o. AllowsAt c.args.work (option_map plain o)) (sym c.in-Some.ensures.value)
    (subst (λ a. AllowsAt c.args.work (linked a c.args.key)) (sym c.self.view_is) c.requires)

pub write-requires : goal.write-requires
write-requires c = read_live c.self.inside.held _ c.args.key _ c.in-Some.node.now c.self.invariant c.in-Some.ensures.value c.slot.ensures

pub invariant_of-self : goal.invariant_of-self
invariant_of-self c = glances_written c.self.inside.held _ _ c.args.key _ _ _ c.in-Some.node.now _ c.self.invariant c.in-Some.ensures.value c.slot.ensures
    c.generation.ensures c.glance_at-glance.ensures c.write.ensures

pub returns-in-Some-clause-worked : goal.returns-in-Some-clause-worked
returns-in-Some-clause-worked c =
    rw (← c.self.view_is) (relinks_written c.self.inside.held c.args.key _ c.in-Some.node.now (with_item (done c.args.work))
    (sym c.in-Some.ensures.value) (ap (λ d. record (plain c.in-Some.node.now) { item = d }) c.do_work.ensures))

pub returns-in-Some-clause-onward : goal.returns-in-Some-clause-onward
returns-in-Some-clause-onward c = rw (← c.self.view_is) (ap (λ y. (y.first, y.next)) c.glance_at-glance.ensures
    ∙ ap (λ o. child_and_sibling (option_map plain o)) c.in-Some.ensures.value)

pub returns-in-None-clause-worked : goal.returns-in-None-clause-worked
returns-in-None-clause-worked c = rw (← c.self.view_is) (relinks_absent c.self.inside.held c.args.key _ c.in-None.ensures.value)

pub returns-in-None-clause-onward : goal.returns-in-None-clause-onward
returns-in-None-clause-onward c = rw (← c.self.view_is) (ap (λ o. child_and_sibling (option_map plain o)) c.in-None.ensures.value)
