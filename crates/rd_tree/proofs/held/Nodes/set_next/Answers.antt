use Rattle.std.proofs.Common.{refl, sym}
use Rattle.rd_tree.specs.Internal.Links.{with_next}
use Rattle.rd_tree.proofs.Nodes.Glances.{glances_written, read_live}
use Rattle.rd_tree.proofs.Nodes.Marks.{relinks_written}
use Rattle.rd_tree.proofs.held.Nodes.set_next.Goals as goal

pub write-requires : goal.write-requires
write-requires c = read_live c.self.inside.held _ c.in-Some.key _ c.in-Some-get_mut.node.now c.self.invariant c.in-Some-get_mut.ensures.value
    c.slot.ensures

pub invariant_of-self-2 : goal.invariant_of-self-2
invariant_of-self-2 c = glances_written c.self.inside.held _ _ c.in-Some.key _ _ _ c.in-Some-get_mut.node.now _ c.self.invariant
    c.in-Some-get_mut.ensures.value c.slot.ensures c.generation.ensures c.glance_at-glance.ensures c.write.ensures

pub returns-in-Some-get_mut : goal.returns-in-Some-get_mut
returns-in-Some-get_mut c =
    rw (← c.self.view_is, c.in-Some.is) (relinks_written c.self.inside.held c.in-Some.key _ c.in-Some-get_mut.node.now
    (with_next c.args.next) (sym c.in-Some-get_mut.ensures.value) refl)
