use Rattle.std.proofs.Common.{refl, ◌∙◌, sym}
use Rattle.rd_tree.specs.Internal.Links.{with_item}
use Rattle.rd_tree.specs.Changes.{with_scroll}
use Rattle.rd_tree.proofs.Nodes.Glances.{glances_written, read_live}
use Rattle.rd_tree.proofs.Nodes.Marks.{relinks_written, relinks_absent, told_there, told_nowhere}
use Rattle.rd_tree.proofs.held.Nodes.put_scroll.Goals as goal

pub write-requires : goal.write-requires
write-requires c = read_live c.self.inside.held _ c.args.key _ c.in-Some.node.now c.self.invariant c.in-Some.ensures.value c.slot.ensures

pub invariant_of-self : goal.invariant_of-self
invariant_of-self c = glances_written c.self.inside.held _ _ c.args.key _ _ _ c.in-Some.node.now _ c.self.invariant c.in-Some.ensures.value c.slot.ensures
    c.generation.ensures c.glance_at-glance.ensures c.write.ensures

pub returns-in-Some-clause-put : goal.returns-in-Some-clause-put
returns-in-Some-clause-put c = rw (← c.self.view_is) (relinks_written c.self.inside.held c.args.key _ c.in-Some.node.now (with_item
    (with_scroll c.args.scroll)) (sym c.in-Some.ensures.value) refl)

pub returns-in-Some-clause-clips : goal.returns-in-Some-clause-clips
returns-in-Some-clause-clips c = rw (← c.self.view_is) (c.clips.ensures ∙ told_there c.self.inside.held c.args.key c.in-Some.node.now _ _
    c.in-Some.ensures.value)

pub returns-in-None-clause-put : goal.returns-in-None-clause-put
returns-in-None-clause-put c = rw (← c.self.view_is) (relinks_absent c.self.inside.held c.args.key _ c.in-None.ensures.value)

pub returns-in-None-clause-clips : goal.returns-in-None-clause-clips
returns-in-None-clause-clips c = rw (← c.self.view_is) (told_nowhere c.self.inside.held c.args.key _ _ c.in-None.ensures.value)
