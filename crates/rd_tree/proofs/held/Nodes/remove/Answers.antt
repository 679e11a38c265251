use Rattle.std.proofs.Common.{ap, ◌∙◌, sym, subst}
use Rattle.std.specs.Prelude.{slice_set}
use Rattle.rd_tree.specs.Internal.Glances.{AreGlances}
use Rattle.rd_tree.proofs.Nodes.Glances.{glances_without, read_live}
use Rattle.rd_tree.proofs.held.Nodes.remove.Goals as goal

pub invariant_of-self : goal.invariant_of-self
invariant_of-self c =
    subst (λ l. AreGlances c.remove.new.self l)
    (sym (c.write.ensures ∙ ap (λ s. slice_set c.self.inside.glances.rows s c.none.result) c.slot.ensures))
    (glances_without c.self.inside.held c.remove.new.self c.self.inside.glances.rows c.args.key.slot c.args.key.generation
    c.in-Some.node c.none.result c.self.invariant c.in-Some.ensures.value c.in-Some.ensures.removed c.none.ensures)

pub write-requires : goal.write-requires
write-requires c = read_live c.self.inside.held _ c.args.key _ c.in-Some.node c.self.invariant c.in-Some.ensures.value c.slot.ensures
