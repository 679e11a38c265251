use Rattle.std.proofs.Common.{◌∙◌, ap, Some, cond}
use Rattle.rd_keys.specs.declared.entry.EntryKey.{EntryKey}
use Rattle.rd_graph.specs.Names.{same_entry}
use Rattle.rd_graph.specs.Internal.Tables.{at}
use Rattle.rd_graph.proofs.Lists.Entries.{name_next}
use Rattle.rd_graph.proofs.seen.table_of.Goals as goal

pub loop-name-preserved : goal.loop-name-preserved
loop-name-preserved c = record {
  named = name_next c.args.names.now c.loop-name.name-index _ _ (at c.loop-name.table) (at c.put.new.table) c.loop-name-test.true c.loop-name.invariant.named
      (λ k. c.in_ok-put.ensures k ∙ ap (λ (n : EntryKey). cond (same_entry n k) (Some 0) (at c.loop-name.table k)) (c.name.view_is ∙ c.name-item.is));
}
