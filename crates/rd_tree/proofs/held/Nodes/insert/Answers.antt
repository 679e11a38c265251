use Rattle.std.proofs.Common.{ap, ◌∙◌, sym, subst, arith, length, inl, inr}
use Rattle.rd_tree.specs.Internal.Glances.{at_generation, with_glance, AreGlances}
use Rattle.rd_tree.proofs.Nodes.Glances.{glances_enter}
use Rattle.rd_tree.proofs.held.Nodes.insert.Goals as goal

pub invariant_of-self-2 : goal.invariant_of-self-2
invariant_of-self-2 c =
    let read : AreGlances c.self.inside.held c.reserve.new.self.rows = subst (λ l. AreGlances c.self.inside.held l)
    (sym c.reserve.ensures.rows) c.self.invariant in
    let new = c.renamed.ensures ∙ (ap (λ g. at_generation g c.glance_at-glance.result) c.generation.ensures
    ∙ ap (at_generation c.in-Ok.key.generation) c.glance_at-glance.ensures) in
    subst (λ l. AreGlances c.insert.new.self l)
    (sym (c.put.ensures ∙ ap (λ s. with_glance c.reserve.new.self.rows s c.renamed.result) c.slot.ensures))
    (glances_enter c.self.inside.held c.insert.new.self c.reserve.new.self.rows c.in-Ok.key.slot c.in-Ok.key.generation c.args.node
    c.renamed.result read c.in-Ok.ensures.stored new)

pub put-requires : goal.put-requires
put-requires c = elim c.in-Ok.ensures.stored.place [
  | inl p ↦ inl (omega (arith, p.0, c.slot.ensures, ap length c.reserve.ensures.rows, c.self.invariant.all))
  | inr p ↦ inr (omega (arith, p.0, c.slot.ensures, ap length c.reserve.ensures.rows, c.self.invariant.all), c.in_ok-reserve.ensures.room)
]

pub invariant_of-self : goal.invariant_of-self
invariant_of-self c = subst (λ l. AreGlances c.self.inside.held l) (sym c.reserve.ensures.rows) c.self.invariant
