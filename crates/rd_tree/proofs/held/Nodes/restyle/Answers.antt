use Rattle.std.proofs.Common.{◌∙◌, ap, sym}
use Rattle.rd_tree.specs.Internal.Links.{with_item}
use Rattle.rd_tree.specs.Internal.Linked.{plain}
use Rattle.rd_tree.specs.Changes.{restyle}
use Rattle.rd_tree.proofs.Nodes.Glances.{glances_written, read_live}
use Rattle.rd_tree.proofs.Nodes.Marks.{relinks_written, relinks_absent, told_there, told_nowhere}
use Rattle.rd_tree.proofs.held.Nodes.restyle.Goals as goal

pub write-requires : goal.write-requires
write-requires c = read_live c.self.inside.held _ c.args.key _ c.in-Some.node.now c.self.invariant c.in-Some.ensures.value c.slot.ensures

pub invariant_of-self : goal.invariant_of-self
invariant_of-self c = glances_written c.self.inside.held _ _ c.args.key _ _ _ c.in-Some.node.now _ c.self.invariant c.in-Some.ensures.value c.slot.ensures
    c.generation.ensures c.glance_at-glance.ensures c.write.ensures

pub returns-in-Some-clause-restyled : goal.returns-in-Some-clause-restyled
returns-in-Some-clause-restyled c =
    rw (← c.self.view_is) (relinks_written c.self.inside.held c.args.key _ c.in-Some.node.now (with_item (restyle c.args.c.now))
    (sym c.in-Some.ensures.value)
    (ap (λ s. record (plain c.in-Some.node.now) { item = record c.in-Some.node.now.item { style = s } }) c.changed-node.ensures))

pub returns-in-Some-clause-reach : goal.returns-in-Some-clause-reach
returns-in-Some-clause-reach c = rw (← c.self.view_is) (c.style_reach-reach.ensures ∙ told_there c.self.inside.held c.args.key c.in-Some.node.now _ _
    c.in-Some.ensures.value)

pub returns-in-None-clause-restyled : goal.returns-in-None-clause-restyled
returns-in-None-clause-restyled c = rw (← c.self.view_is) (relinks_absent c.self.inside.held c.args.key _ c.in-None.ensures.value)

pub returns-in-None-clause-reach : goal.returns-in-None-clause-reach
returns-in-None-clause-reach c = rw (← c.self.view_is) (told_nowhere c.self.inside.held c.args.key _ _ c.in-None.ensures.value)
