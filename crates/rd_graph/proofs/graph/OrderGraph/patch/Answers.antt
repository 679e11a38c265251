use Rattle.std.proofs.Common.{ap}
use Rattle.std.specs.Prelude.{option_map}
use Rattle.rd_graph.specs.Internal.Patching.{lists_seen}
use Rattle.rd_graph.specs.Internal.Seen.{seen}
use Rattle.rd_graph.specs.Runs.{places_of}
use Rattle.rd_graph.proofs.Patches.Kinds.{told_none}
use Rattle.rd_graph.proofs.Patches.Thinned.Thinnings.{thin_ordered, thin_can, thin_back}
use Rattle.rd_graph.proofs.graph.OrderGraph.patch.Goals as goal

pub invariant_of-graph : goal.invariant_of-graph
invariant_of-graph c = (
  thin_ordered (seen c.self.inside.nodes.items) (seen c.deref.result.now) (seen c.in_ok-thin.thin.nodes.items) (lists_seen c.in_ok-thin.thin.lists.items) (ap seen c.deref.ensures.value) c.self.invariant.0 c.in_ok-thin.ensures,
  told_none _ _ c.new.ensures.items,
)

pub patch_as_is-requires-2 : goal.patch_as_is-requires-2
patch_as_is-requires-2 c =
    thin_can (seen c.self.inside.nodes.items) (seen c.deref.result.now) (seen c.in_ok-thin.thin.nodes.items) c.args.self.now (lists_seen c.in_ok-thin.thin.lists.items) c.args.change.removed.now c.args.change.chain.now c.args.change.old_places.now
    (ap seen c.deref.ensures.value) c.self.view_is c.self.invariant.0 c.in_ok-thin.ensures c.requires

pub returns-clause-fits : goal.returns-clause-fits
returns-clause-fits c =
    (thin_back (seen c.self.inside.nodes.items) (seen c.deref.result.now) (seen c.in_ok-thin.thin.nodes.items) c.args.self.now (lists_seen c.in_ok-thin.thin.lists.items) (lists_seen c.patch.inside.lists.items)
    (lists_seen c.in_ok-lists.lists.items) (seen c.patch.inside.made.items) (option_map (λ l. places_of l.items) c.patch.inside.line) c.in_ok-patch.patch c.args.change.removed.now c.args.change.chain.now c.args.change.old_places.now
    (ap seen c.deref.ensures.value) c.self.view_is c.self.invariant.0 c.in_ok-thin.ensures c.patch.view_is c.in_ok-lists.ensures c.in_ok-patch.ensures.fits c.in_ok-patch.ensures.patched).0

pub returns-clause-patched : goal.returns-clause-patched
returns-clause-patched c =
    (thin_back (seen c.self.inside.nodes.items) (seen c.deref.result.now) (seen c.in_ok-thin.thin.nodes.items) c.args.self.now (lists_seen c.in_ok-thin.thin.lists.items) (lists_seen c.patch.inside.lists.items)
    (lists_seen c.in_ok-lists.lists.items) (seen c.patch.inside.made.items) (option_map (λ l. places_of l.items) c.patch.inside.line) c.in_ok-patch.patch c.args.change.removed.now c.args.change.chain.now c.args.change.old_places.now
    (ap seen c.deref.ensures.value) c.self.view_is c.self.invariant.0 c.in_ok-thin.ensures c.patch.view_is c.in_ok-lists.ensures c.in_ok-patch.ensures.fits c.in_ok-patch.ensures.patched).1
