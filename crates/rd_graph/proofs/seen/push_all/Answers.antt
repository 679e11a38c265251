use Rattle.std.proofs.Common.{◌∙◌, ap}
use Rattle.rd_keys.specs.declared.entry.EntryKey.{EntryKey}
use Rattle.rd_graph.specs.Names.{same_entry}
use Rattle.rd_graph.specs.Internal.Passes.{pushed}
use Rattle.rd_graph.proofs.Lists.Entries.{pushes_next}
use Rattle.rd_graph.proofs.seen.push_all.Goals as goal

pub loop-key-preserved : goal.loop-key-preserved
loop-key-preserved c = record {
  names = pushes_next c.args.seen.now.names.items c.args.more.now c.loop-key.key-index _ c.loop-key.seen.names.items c.push_new.new.seen.names.items c.loop-key-test.true c.loop-key.invariant.names
      (c.in_ok-push_new.ensures.names ∙ ap (λ (k : EntryKey). pushed same_entry c.loop-key.seen.names.items k) (c.key.view_is ∙ c.key-item.is));
  table = c.in_ok-push_new.ensures.table;
}
