use Rattle.std.proofs.Common.{◌∙◌, subst}
use Rattle.rd_keys.specs.declared.entry.EntryKey.{EntryKey}
use Rattle.rd_graph.specs.Internal.Thinning.{MayAdd}
use Rattle.rd_graph.proofs.Patches.Thinned.Climbings.{adds_none, adds_next}
use Rattle.rd_graph.proofs.climbing.sort_out.Goals as goal

pub loop-key-init : goal.loop-key-init
loop-key-init c = record { left = adds_none c.args.before.now c.args.climb.now.left.items; found = adds_none c.args.before.now c.args.climb.now.found.items }

pub loop-key-preserved : goal.loop-key-preserved
loop-key-preserved c = record {
  left = adds_next c.args.before.now c.args.climb.now.left.items c.loop-key.climb.left.items _ c.loop-key.key-index _ c.loop-key-test.true c.loop-key.invariant.left (subst (λ (k : EntryKey). MayAdd k c.loop-key.climb.left.items c.sort_one.new.climb.left.items) (c.key.view_is ∙ c.key-item.is) c.in_ok-sort_one.ensures.left);
  found = adds_next c.args.before.now c.args.climb.now.found.items c.loop-key.climb.found.items _ c.loop-key.key-index _ c.loop-key-test.true c.loop-key.invariant.found (subst (λ (k : EntryKey). MayAdd k c.loop-key.climb.found.items c.sort_one.new.climb.found.items) (c.key.view_is ∙ c.key-item.is) c.in_ok-sort_one.ensures.found);
}
