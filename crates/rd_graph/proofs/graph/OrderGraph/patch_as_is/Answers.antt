use Rattle.std.proofs.Common.{ap, ◌∙◌, sym, subst, ℕ, List}
use Rattle.std.specs.Prelude.{option_map}
use Rattle.rd_graph.specs.Graphs.{IsInOrder}
use Rattle.rd_graph.specs.Patches.{CanBePatched}
use Rattle.rd_graph.specs.declared.graph.Node.{Node}
use Rattle.rd_graph.specs.Internal.Chunks.{Tells}
use Rattle.rd_graph.specs.Internal.Patching.{lists_seen}
use Rattle.rd_graph.specs.Internal.Seen.{seen}
use Rattle.rd_graph.specs.Runs.{places_of}
use Rattle.rd_graph.proofs.Patches.Merged.{patched_by}
use Rattle.rd_graph.proofs.Patches.Thinned.Trimmings.{short_by}
use Rattle.rd_graph.proofs.graph.OrderGraph.patch_as_is.Goals as goal

pub returns-clause-fits : goal.returns-clause-fits
returns-clause-fits c =
    (short_by c.args.change.removed.now c.args.change.chain.now c.args.change.old_places.now c.args.self.now (seen c.in_ok-made.made.items) (lists_seen c.in_ok-relisted.relisted.items) (lists_seen c.in_ok-lists.lists.items) (option_map (λ v. places_of v.items) c.in_ok-line.line)
    c.in_ok-lists.ensures
    (patched_by c.args.change.removed.now c.args.change.chain.now c.args.change.old_places.now c.args.self.now c.deref.result.now c.self.inside.nodes.items (lists_seen c.in_ok-relisted.relisted.items) (seen c.in_ok-made.made.items) (option_map (λ v. places_of v.items) c.in_ok-line.line)
    c.requires c.self.invariant.0 c.self.view_is c.deref.ensures.value c.in_ok-relisted.ensures c.in_ok-line.ensures c.in_ok-made.ensures)).0

pub returns-clause-patched : goal.returns-clause-patched
returns-clause-patched c =
    (short_by c.args.change.removed.now c.args.change.chain.now c.args.change.old_places.now c.args.self.now (seen c.in_ok-made.made.items) (lists_seen c.in_ok-relisted.relisted.items) (lists_seen c.in_ok-lists.lists.items) (option_map (λ v. places_of v.items) c.in_ok-line.line)
    c.in_ok-lists.ensures
    (patched_by c.args.change.removed.now c.args.change.chain.now c.args.change.old_places.now c.args.self.now c.deref.result.now c.self.inside.nodes.items (lists_seen c.in_ok-relisted.relisted.items) (seen c.in_ok-made.made.items) (option_map (λ v. places_of v.items) c.in_ok-line.line)
    c.requires c.self.invariant.0 c.self.view_is c.deref.ensures.value c.in_ok-relisted.ensures c.in_ok-line.ensures c.in_ok-made.ensures)).1

pub changed-requires-clause-sound : goal.changed-requires-clause-sound
changed-requires-clause-sound c = subst (λ (ns : List Node). IsInOrder (seen ns)) (sym c.deref.ensures.value) c.self.invariant.0

pub changed-requires-clause-can : goal.changed-requires-clause-can
changed-requires-clause-can c = subst (CanBePatched c.args.change.removed.now c.args.change.chain.now c.args.change.old_places.now) (sym (ap seen c.deref.ensures.value ∙ c.self.view_is)) c.requires

pub trimmed-requires : goal.trimmed-requires
trimmed-requires c = c.requires.once

pub arrange-requires : goal.arrange-requires
arrange-requires c = c.requires

pub changed-requires-clause-told : goal.changed-requires-clause-told
changed-requires-clause-told c = subst (λ (ns : List Node). Tells c.deref-2.result.now (seen ns)) (sym c.deref.ensures.value) (subst (λ (cs : List ℕ). Tells cs (seen c.self.inside.nodes.items)) (sym c.deref-2.ensures.value) c.self.invariant.1)
