use Rattle.std.proofs.Common.{◌≡◌, ◌∙◌, ap, subst, arith, ◌<◌, length, List, get_or}
use Rattle.rd_keys.specs.declared.entry.EntryKey.{EntryKey}
use Rattle.rd_graph.specs.Internal.Seen.{seen}
use Rattle.rd_graph.specs.Internal.Thinning.{AddsBefore}
use Rattle.rd_graph.proofs.Patches.Thinned.Climbings.{lead_first, lead_next, implied_first, implied_next}
use Rattle.rd_graph.proofs.climbing.implied.Goals as goal

pub loop-step-init : goal.loop-step-init
loop-step-init c = record {
  leads = lead_first (seen c.args.nodes.now) c.args.list.now c.in_ok-left.left.items c.in_ok-left.ensures;
  found = implied_first (seen c.args.nodes.now) c.args.list.now c.nothing-found.result.items c.nothing-found.ensures;
}

pub loop-step-preserved : goal.loop-step-preserved
loop-step-preserved c =
    let x = c.index-deref-step.result in
    let within : c.loop-step.step < length c.loop-step.climb.left.items = omega arith in
    let at : x ≡ get_or c.loop-step.climb.left.items c.loop-step.step x = c.index-deref-step.is ∙ ap (λ (ks : List EntryKey). get_or ks c.loop-step.step x) c.deref.ensures in
    record {
      leads = lead_next (seen c.args.nodes.now) c.args.list.now c.loop-step.climb.left.items _ c.loop-step.step x within at c.loop-step.invariant.leads
          (subst (λ (k : EntryKey). AddsBefore (seen c.args.nodes.now) k c.loop-step.climb.left.items c.go_on.new.climb.left.items) c.name.view_is c.in_ok-go_on.ensures.left);
      found = implied_next (seen c.args.nodes.now) c.args.list.now c.loop-step.climb.left.items c.loop-step.climb.found.items _ c.loop-step.step x within at c.loop-step.invariant.leads c.loop-step.invariant.found
          (subst (λ (k : EntryKey). AddsBefore (seen c.args.nodes.now) k c.loop-step.climb.found.items c.go_on.new.climb.found.items) c.name.view_is c.in_ok-go_on.ensures.found);
    }
