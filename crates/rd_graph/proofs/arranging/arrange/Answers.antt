use Rattle.std.proofs.Common.{◌≡◌, refl, rules, ap, ◌∙◌, sym, subst, List, Some, length}
use Rattle.rd_graph.specs.Graphs.{IsInOrder}
use Rattle.rd_graph.specs.Patches.{CanBePatched, IsArranged}
use Rattle.rd_graph.specs.Internal.Seen.{seen}
use Rattle.rd_graph.specs.Runs.{places_of}
use Rattle.rd_graph.specs.declared.graph.Node.{Node}
use Rattle.rd_graph.proofs.LinedUp.StandingStill.{still_line}
use Rattle.rd_graph.proofs.LinedUp.MadeLines.{made_line_of}
use Rattle.rd_graph.proofs.arranging.arrange.Goals as goal

pub returns-then-not-is_empty : goal.returns-then-not-is_empty
returns-then-not-is_empty c =
    let empty : length c.deref-nodes.result.now ≡ 0 = search rules in
    made_line_of c.args.change.removed.now c.args.change.chain.now c.args.change.old_places.now c.args.graph.now c.requires (subst IsInOrder c.graph.view_is c.graph.invariant.0)
    c.graph.inside.nodes.items c.deref-nodes.result.now (places_of c.in_ok-line.line.items) c.graph.view_is c.deref-nodes.ensures.value empty c.in_ok-line.ensures

pub returns-then-stands_still : goal.returns-then-stands_still
returns-then-stands_still c =
    still_line c.args.change.removed.now c.args.change.chain.now c.args.change.old_places.now c.args.graph.now c.requires (subst IsInOrder c.graph.view_is c.graph.invariant.0)
    c.graph.inside.nodes.items c.deref-nodes.result.now c.in_ok-places.places.items c.deref.result.now (length c.deref-nodes.result.now) c.graph.view_is c.deref-nodes.ensures.value c.deref.ensures.value c.in_ok-places.ensures refl
    (c.if-stands_still.ensures.0 refl).0 (c.if-stands_still.ensures.0 refl).1

pub moving_line-requires-clause-sound : goal.moving_line-requires-clause-sound
moving_line-requires-clause-sound c = subst (λ (ns : List Node). IsInOrder (seen ns)) (sym c.deref-nodes.ensures.value) c.graph.invariant.0

pub moving_line-requires-clause-can : goal.moving_line-requires-clause-can
moving_line-requires-clause-can c = subst (CanBePatched c.args.change.removed.now c.args.change.chain.now c.args.change.old_places.now) (sym (ap seen c.deref-nodes.ensures.value ∙ c.graph.view_is)) c.requires

pub moving_line-requires-clause-places : goal.moving_line-requires-clause-places
moving_line-requires-clause-places c = c.deref-2.ensures.value ∙ c.in_ok-places.ensures

pub returns : goal.returns
returns c = subst (λ g. IsArranged c.args.change.removed.now c.args.change.chain.now c.args.change.old_places.now g (Some (places_of c.in_ok-line-2.line.items))) (ap seen c.deref-nodes.ensures.value ∙ c.graph.view_is) c.in_ok-line-2.ensures
