use Rattle.std.proofs.Common.{◌∙◌, ap}
use Rattle.rd_keys.specs.declared.entry.EntryKey.{EntryKey}
use Rattle.rd_graph.specs.Internal.Trimming.{higher}
use Rattle.rd_graph.specs.Internal.Tables.{at}
use Rattle.rd_graph.proofs.Patches.Thinned.Trims.{highest_next}
use Rattle.rd_graph.proofs.trimming.top_of.Goals as goal

pub loop-key-preserved : goal.loop-key-preserved
loop-key-preserved c = record { top = highest_next (at c.args.places.now) c.args.keys.now c.loop-key.key-index _ c.loop-key.top _ c.loop-key-test.true c.loop-key.invariant.top (c.raised-top.ensures ∙ ap (λ (k : EntryKey). higher c.loop-key.top (at c.args.places.now k)) (c.key.view_is ∙ c.key-item.is)) }
