use Rattle.std.proofs.Common.{◌∙◌, ap}
use Rattle.rd_keys.specs.declared.entry.EntryKey.{EntryKey}
use Rattle.rd_graph.specs.Names.{same_entry}
use Rattle.rd_graph.specs.Internal.Passes.{all_pushed}
use Rattle.rd_graph.specs.Internal.Words.{in_place_by, noted_by}
use Rattle.rd_graph.specs.Internal.Tables.{has_it}
use Rattle.rd_graph.proofs.Reaching.Stitches.{resolves_next}
use Rattle.rd_graph.proofs.resolving.resolve.Goals as goal

pub loop-key-preserved : goal.loop-key-preserved
loop-key-preserved c = record {
  names = resolves_next (has_it c.args.gone.now.names) (noted_by c.args.gone.now.names c.args.notes.now) c.args.before.now c.loop-key.key-index _ c.loop-key.seen.names.items _ c.loop-key-test.true c.loop-key.invariant.names
      (c.in_ok-add.ensures.names ∙ ap (λ (k : EntryKey). all_pushed same_entry c.loop-key.seen.names.items (in_place_by c.args.gone.now.names c.args.notes.now k)) (c.key.view_is ∙ c.key-item.is));
  table = c.in_ok-add.ensures.table;
}
