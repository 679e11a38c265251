use Rattle.std.proofs.Common.{◌∙◌, sym, ap, subst}
use Rattle.std.specs.Prelude.{option_map}
use Rattle.rd_tree.specs.Internal.Hands.{passed_at, ScrollFitsAt}
use Rattle.rd_tree.specs.Internal.Links.{with_item, child_and_sibling}
use Rattle.rd_tree.specs.Internal.Linked.{plain, linked}
use Rattle.rd_tree.specs.Internal.Redraws.{redrawn_if, RedrawsAt}
use Rattle.rd_tree.proofs.Nodes.Glances.{glances_written, read_live}
use Rattle.rd_tree.proofs.Nodes.Marks.{relinks_written, relinks_absent}
use Rattle.rd_tree.proofs.held.Nodes.redraw_one.Goals as goal

pub enter-inside-requires-clause-scroll : goal.enter-inside-requires-clause-scroll
enter-inside-requires-clause-scroll c = subst (λ o. ScrollFitsAt (option_map plain o)) (sym c.in-Some.ensures.value)
    (subst (λ a. ScrollFitsAt (linked a c.args.key)) (sym c.self.view_is) c.requires.scroll)

pub draw_item-requires-clause-can : goal.draw_item-requires-clause-can
draw_item-requires-clause-can c = subst (λ o. RedrawsAt c.args.old.now c.args.new.now (option_map plain o)) (sym c.in-Some.ensures.value)
    (subst (λ a. RedrawsAt c.args.old.now c.args.new.now (linked a c.args.key)) (sym c.self.view_is) c.requires.can)

pub write-requires : goal.write-requires
write-requires c = read_live c.self.inside.held _ c.args.key _ c.in-Some.node.now c.self.invariant c.in-Some.ensures.value c.slot.ensures

pub invariant_of-self : goal.invariant_of-self
invariant_of-self c = glances_written c.self.inside.held _ _ c.args.key _ _ _ c.in-Some.node.now _ c.self.invariant c.in-Some.ensures.value c.slot.ensures
    c.generation.ensures c.glance_at-glance.ensures c.write.ensures

pub returns-in-Some-clause-drawn : goal.returns-in-Some-clause-drawn
returns-in-Some-clause-drawn c =
    rw (← c.self.view_is) (relinks_written c.self.inside.held c.args.key _ c.in-Some.node.now (with_item (redrawn_if c.args.asked c.args.old.now c.args.new.now))
    (sym c.in-Some.ensures.value) (ap (λ d. record (plain c.in-Some.node.now) { item = d }) c.draw_item.ensures))

pub returns-in-Some-clause-onward : goal.returns-in-Some-clause-onward
returns-in-Some-clause-onward c = rw (← c.self.view_is) (ap (λ y. (y.first, y.next)) c.glance_at-glance.ensures
    ∙ ap (λ o. child_and_sibling (option_map plain o)) c.in-Some.ensures.value)

pub returns-in-Some-clause-inside : goal.returns-in-Some-clause-inside
returns-in-Some-clause-inside c = rw (← c.self.view_is) (c.enter-inside.ensures.entered ∙ ap (λ o. passed_at c.args.new.now (option_map plain o)) c.in-Some.ensures.value)

pub returns-in-None-clause-drawn : goal.returns-in-None-clause-drawn
returns-in-None-clause-drawn c = rw (← c.self.view_is) (relinks_absent c.self.inside.held c.args.key _ c.in-None.ensures.value)

pub returns-in-None-clause-onward : goal.returns-in-None-clause-onward
returns-in-None-clause-onward c = rw (← c.self.view_is) (ap (λ o. child_and_sibling (option_map plain o)) c.in-None.ensures.value)

pub returns-in-None-clause-inside : goal.returns-in-None-clause-inside
returns-in-None-clause-inside c = rw (← c.self.view_is) (ap (λ o. passed_at c.args.new.now (option_map plain o)) c.in-None.ensures.value)
