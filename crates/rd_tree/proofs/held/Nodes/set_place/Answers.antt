use Rattle.std.proofs.Common.{refl, sym}
use Rattle.std.specs.Prelude.{Some}
use Rattle.rd_tree.specs.Internal.Links.{with_place}
use Rattle.rd_tree.proofs.Nodes.Glances.{glances_written, read_live}
use Rattle.rd_tree.proofs.Nodes.Marks.{relinks_written, relinks_absent}
use Rattle.rd_tree.proofs.held.Nodes.set_place.Goals as goal

pub write-requires : goal.write-requires
write-requires c = read_live c.self.inside.held _ c.args.key _ c.in-Some.node.now c.self.invariant c.in-Some.ensures.value c.slot.ensures

pub invariant_of-self : goal.invariant_of-self
invariant_of-self c = glances_written c.self.inside.held _ _ c.args.key _ _ _ c.in-Some.node.now _ c.self.invariant c.in-Some.ensures.value c.slot.ensures
    c.generation.ensures c.glance_at-glance.ensures c.write.ensures

pub returns-in-Some : goal.returns-in-Some
returns-in-Some c = rw (← c.self.view_is) (relinks_written c.self.inside.held c.args.key _ c.in-Some.node.now
    (with_place (Some c.args.parent) c.args.prev c.args.next) (sym c.in-Some.ensures.value) refl)

pub returns-in_default : goal.returns-in_default
returns-in_default c = rw (← c.self.view_is) (relinks_absent c.self.inside.held c.args.key _ c.in_default.ensures.value)
