use Rattle.std.proofs.Common.{◌∙◌, ap, [], ◌∷◌, ◌++◌, if◌then◌else◌}
use Rattle.rd_keys.specs.declared.entry.EntryKey.{EntryKey}
use Rattle.rd_graph.specs.Internal.Trimming.{is_left}
use Rattle.rd_graph.specs.Internal.Tables.{at}
use Rattle.rd_graph.proofs.Patches.Thinned.Trims.{left_next}
use Rattle.rd_graph.proofs.trimming.left_of.Goals as goal

pub loop-key-preserved : goal.loop-key-preserved
loop-key-preserved c = record {
  left = left_next (at c.args.places.now) c.top_of-top.result c.args.keys.now c.loop-key.key-index _ c.stays-stays.result c.loop-key.left.items c.push_if.new.keys.items c.loop-key-test.true c.loop-key.invariant.left (c.stays-stays.ensures ∙ ap (λ (k : EntryKey). is_left c.top_of-top.result (at c.args.places.now k)) (c.key.view_is ∙ c.key-item.is))
      (c.in_ok-push_if.ensures ∙ ap (λ (k : EntryKey). c.loop-key.left.items ++ (if c.stays-stays.result then k ∷ [] else [])) (c.key.view_is ∙ c.key-item.is));
}
