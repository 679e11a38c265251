use Rattle.std.proofs.Common.{◌∙◌, ap, sym}
use Rattle.rd_keys.specs.declared.entry.EntryKey.{EntryKey}
use Rattle.rd_graph.specs.Internal.Tables.{has_it}
use Rattle.rd_graph.proofs.Patches.Marks.{some_at, some_next}
use Rattle.rd_graph.proofs.gone.some_goes.Goals as goal

pub loop-key-preserved : goal.loop-key-preserved
loop-key-preserved c = record { none = some_next (has_it c.args.gone.now.names) c.args.keys.now c.loop-key.key-index _ c.loop-key-test.true c.loop-key.invariant.none (ap (λ (k : EntryKey). has_it c.args.gone.now.names k) (sym (c.key.view_is ∙ c.key-item.is)) ∙ sym c.goes.ensures ∙ c.if-goes.false) }

pub returns-then-goes : goal.returns-then-goes
returns-then-goes c = sym (some_at (has_it c.args.gone.now.names) c.args.keys.now c.loop-key.key-index _ c.loop-key-test.true (ap (λ (k : EntryKey). has_it c.args.gone.now.names k) (sym (c.key.view_is ∙ c.key-item.is)) ∙ sym c.goes.ensures ∙ c.if-goes.true))
