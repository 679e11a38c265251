use Rattle.std.proofs.Common.{◌∙◌, ap, sym}
use Rattle.rd_keys.specs.declared.entry.EntryKey.{EntryKey}
use Rattle.rd_graph.specs.Names.{same_entry}
use Rattle.rd_graph.proofs.Lists.Entries.{same_entry-sound, same_entry-refl}
use Rattle.rd_graph.proofs.Reaching.Joining.{in_at, in_next}
use Rattle.rd_graph.proofs.before.is_among.Goals as goal

pub returns-then-is_same : goal.returns-then-is_same
returns-then-is_same c = sym (in_at same_entry same_entry-sound same_entry-refl c.args.keys.now c.loop-key.key-index _ c.args.name c.loop-key-test.true (ap (λ (k : EntryKey). same_entry k c.args.name) (sym (c.key.view_is ∙ c.key-item.is)) ∙ sym c.is_same.ensures ∙ c.if-is_same.true))

pub loop-key-preserved : goal.loop-key-preserved
loop-key-preserved c = record { none = in_next same_entry same_entry-sound same_entry-refl c.args.keys.now c.loop-key.key-index _ c.args.name c.loop-key-test.true c.loop-key.invariant.none (ap (λ (k : EntryKey). same_entry k c.args.name) (sym (c.key.view_is ∙ c.key-item.is)) ∙ sym c.is_same.ensures ∙ c.if-is_same.false) }
